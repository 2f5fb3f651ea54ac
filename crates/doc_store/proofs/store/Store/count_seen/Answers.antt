use Rattle.std.proofs.Common.{ap, length, ◌∙◌}
use Rattle.std.specs.Prelude.{Some}
use Rattle.doc_store.proofs.SeenLaw.{count_of_seen}
use Rattle.doc_store_readers.specs.Sites.{view_of}
use Rattle.doc_store.proofs.store.Store.count_seen.Goals as goal

pub returns : goal.returns
returns c =
    c.count_seen.ensures ∙ count_of_seen (Some c.args.reader.now) c.self.inside.pages c.self.inside.aliases
    ∙ ap (λ s. length (view_of s.site (Some c.args.reader.now)).pages) c.self.view_is
