use Rattle.std.proofs.Common.{ap, sym, ◌∙◌}
use Rattle.std.specs.FinMap as map
use Rattle.std.proofs.lemmas.Cmp.{nat_list_cmp_total}
use Rattle.std.proofs.lemmas.Map.Lookups.{exact_bytes}
use Rattle.doc_page_parts.proofs.Maps.{entries_in_order}
use Rattle.doc_store_pages.proofs.pages.Pages.iter.Goals as goal

pub returns : goal.returns
returns c =
    c.iter.ensures.rest ∙ sym (entries_in_order nat_list_cmp_total exact_bytes c.self.inside.entries.entries c.iter.ensures.ordered)
    ∙ ap map.entries c.self.view_is
