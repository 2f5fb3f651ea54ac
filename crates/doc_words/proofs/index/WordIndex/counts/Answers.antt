use Rattle.std.proofs.Common.{ap, sym, ◌∙◌}
use Rattle.std.specs.Prelude.{Some, option_map}
use Rattle.std.specs.FinMap as map
use Rattle.doc_words_search.proofs.HeldSteps.{words_at}
use Rattle.doc_words.proofs.index.WordIndex.counts.Goals as goal

pub returns-in_default : goal.returns-in_default
returns-in_default c =
    ap (option_map map.entries)
    (c.in_default.ensures ∙ sym (words_at c.self.inside.pages (c.args.path.now, c.args.stamp))
    ∙ ap (λ m. map.get m (c.args.path.now, c.args.stamp)) c.self.view_is)

pub returns : goal.returns
returns c =
    ap Some c.entries.ensures
    ∙ ap (option_map map.entries)
    (c.in-Some.ensures ∙ sym (words_at c.self.inside.pages (c.args.path.now, c.args.stamp))
    ∙ ap (λ m. map.get m (c.args.path.now, c.args.stamp)) c.self.view_is)
