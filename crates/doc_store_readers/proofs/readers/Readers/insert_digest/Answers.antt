use Rattle.std.proofs.Common.{◌∙◌, ap}
use Rattle.std.specs.FinMap as map
use Rattle.std.proofs.lemmas.Cmp.{nat_list_cmp_total}
use Rattle.std.proofs.lemmas.Map.Lookups.{exact_bytes}
use Rattle.doc_page_parts.proofs.Maps.{inserted}
use Rattle.doc_store_readers.specs.Readers.{ReaderTable, entries_shown, no_readers}
use Rattle.doc_store_readers.proofs.readers.Readers.insert_digest.Goals as goal

pub returns-clause-ok : goal.returns-clause-ok
returns-clause-ok c =
    ap (λ m. record no_readers { by_token = map.from_entries (entries_shown c.self.inside.by_token.entries); by_digest = m })
    (inserted nat_list_cmp_total exact_bytes c.self.inside.by_digest.entries c.insert.new.self.entries c.args.digest c.args.reader
    c.in_ok-insert.ensures.updates.0)
    ∙ ap (λ (t : ReaderTable). record t { by_digest = map.insert t.by_digest c.args.digest c.args.reader }) c.self.view_is
