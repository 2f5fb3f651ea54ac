use Rattle.std.proofs.Common.{◌∙◌, ap}
use Rattle.std.specs.FinMap as map
use Rattle.doc_store_readers.specs.Readers.{ReaderTable, no_readers}
use Rattle.doc_store_readers.proofs.MapSteps.{removed_shown}
use Rattle.doc_store_readers.proofs.readers.Readers.remove_token.Goals as goal

pub returns : goal.returns
returns c =
    ap (λ m. record no_readers { by_token = m; by_digest = map.from_entries c.self.inside.by_digest.entries })
    (removed_shown c.self.inside.by_token c.remove.new.self c.args.token.now c.remove.ensures.updates)
    ∙ ap (λ (t : ReaderTable). record t { by_token = map.remove t.by_token c.args.token.now }) c.self.view_is
