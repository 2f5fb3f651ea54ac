use Rattle.std.proofs.Common.{◌∙◌, ap}
use Rattle.std.specs.FinMap as map
use Rattle.std.proofs.lemmas.Cmp.{nat_list_cmp_total}
use Rattle.std.proofs.lemmas.Map.Lookups.{exact_bytes}
use Rattle.doc_page_parts.proofs.Maps.{removed}
use Rattle.doc_store_readers.specs.Readers.{ReaderTable, entries_shown, no_readers}
use Rattle.doc_store_readers.proofs.readers.Readers.remove_digest.Goals as goal

pub returns : goal.returns
returns c =
    ap (λ m. record no_readers { by_token = map.from_entries (entries_shown c.self.inside.by_token.entries); by_digest = m })
    (removed nat_list_cmp_total exact_bytes c.self.inside.by_digest.entries c.remove.new.self.entries c.args.digest.now
    c.remove.ensures.updates.0)
    ∙ ap (λ (t : ReaderTable). record t { by_digest = map.remove t.by_digest c.args.digest.now }) c.self.view_is
