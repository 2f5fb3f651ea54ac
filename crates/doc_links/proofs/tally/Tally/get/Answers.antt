use Rattle.std.proofs.Common.{ap, unwrap_or, ◌∙◌}
use Rattle.std.specs.FinMap as map
use Rattle.std.proofs.lemmas.Cmp.{nat_list_cmp_total}
use Rattle.std.proofs.lemmas.Map.Lookups.{exact_bytes}
use Rattle.doc_page_parts.proofs.Maps.{looked_up}
use Rattle.doc_links.proofs.tally.Tally.get.Goals as goal

pub returns-in_default : goal.returns-in_default
returns-in_default c =
    ap (λ o. unwrap_or o 0) (c.in_default.ensures.value
    ∙ looked_up nat_list_cmp_total exact_bytes c.self.inside.counts.entries c.args.path.now
    ∙ ap (λ m. map.get m c.args.path.now) c.self.view_is)

pub returns : goal.returns
returns c =
    ap (λ o. unwrap_or o 0) (c.in-Some.ensures.value
    ∙ looked_up nat_list_cmp_total exact_bytes c.self.inside.counts.entries c.args.path.now
    ∙ ap (λ m. map.get m c.args.path.now) c.self.view_is)
