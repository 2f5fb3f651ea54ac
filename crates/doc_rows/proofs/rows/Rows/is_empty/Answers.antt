use Rattle.std.proofs.Common.{◌∙◌, ◌==◌, ap, sym}
use Rattle.std.specs.FinMap as map
use Rattle.std.proofs.lemmas.Cmp.{nat_list_cmp_total}
use Rattle.std.proofs.lemmas.List.{length-map}
use Rattle.std.proofs.lemmas.Map.Lookups.{exact_bytes}
use Rattle.doc_page_parts.proofs.Maps.{len-sorted}
use Rattle.doc_index_tables.specs.Maps.{by_bytes}
use Rattle.doc_index_tables.proofs.EntrySteps.{sorted_bytes}
use Rattle.doc_rows.proofs.rows.Rows.is_empty.Goals as goal

pub returns : goal.returns
returns c =
    ap (λ n. n == 0) (c.len.ensures.len ∙ sym (length-map c.self.inside.rows.entries _)
    ∙ len-sorted nat_list_cmp_total exact_bytes (by_bytes c.self.inside.rows.entries)
    (sorted_bytes c.self.inside.rows.entries c.len.ensures.ordered)
    ∙ ap map.len c.self.view_is)
