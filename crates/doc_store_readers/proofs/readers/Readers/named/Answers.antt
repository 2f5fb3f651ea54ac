use Rattle.std.proofs.Common.{◌∙◌, ap}
use Rattle.std.specs.FinMap as map
use Rattle.std.proofs.lemmas.Cmp.{nat_list_cmp_total}
use Rattle.std.proofs.lemmas.Map.Lookups.{exact_bytes}
use Rattle.doc_page_parts.proofs.Maps.{looked_up}
use Rattle.doc_store_readers.specs.Readers.{ReaderTable, entries_shown}
use Rattle.doc_store_readers.proofs.MapSteps.{looked_up_shown}
use Rattle.doc_store_readers.proofs.readers.Readers.named.Goals as goal

pub returns : goal.returns
returns c =
    let es = c.self.inside.by_token.entries in
    c.get.ensures.value ∙ looked_up_shown es c.args.token.now ∙ looked_up nat_list_cmp_total exact_bytes (entries_shown es) c.args.token.now
    ∙ ap (λ (t : ReaderTable). map.get t.by_token c.args.token.now) c.self.view_is
