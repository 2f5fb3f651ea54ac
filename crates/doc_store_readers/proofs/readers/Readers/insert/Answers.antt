use Rattle.std.proofs.Common.{◌∙◌, ap, string_bytes}
use Rattle.std.specs.FinMap as map
use Rattle.doc_store_readers.specs.Readers.{ReaderTable, no_readers}
use Rattle.doc_store_readers.proofs.MapSteps.{inserted_shown}
use Rattle.doc_store_readers.proofs.readers.Readers.insert.Goals as goal

pub returns-clause-ok : goal.returns-clause-ok
returns-clause-ok c =
    ap (λ m. record no_readers { by_token = m; by_digest = map.from_entries c.self.inside.by_digest.entries })
    (inserted_shown c.self.inside.by_token c.insert.new.self c.into_inner.result c.args.reader c.in_ok-insert.ensures.updates)
    ∙ ap (λ (t : ReaderTable). record t { by_token = map.insert t.by_token (string_bytes c.into_inner.result) c.args.reader }) c.self.view_is
    ∙ ap (λ token. record c.args.self.now { by_token = map.insert c.args.self.now.by_token token c.args.reader }) c.into_inner.ensures
