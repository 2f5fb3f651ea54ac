use Rattle.std.proofs.Common.{ap, sym, ◌∙◌}
use Rattle.std.specs.FinMap as map
use Rattle.std.proofs.lemmas.Cmp.{nat_list_cmp_total}
use Rattle.std.proofs.lemmas.Map.Lookups.{exact_bytes}
use Rattle.doc_page_parts.proofs.Maps.{entries_in_order}
use Rattle.doc_links.proofs.TallySteps.{told_in_order}
use Rattle.doc_links.proofs.tally.Tally.list.Goals as goal

pub returns : goal.returns
returns c =
    told_in_order c.entries_in.result (λ ordered all is.
    is ∙ sym (entries_in_order nat_list_cmp_total exact_bytes c.self.inside.counts.entries ordered) ∙ ap map.entries c.self.view_is)
    c.entries_in.ensures.ordered c.entries_in.ensures.entries
