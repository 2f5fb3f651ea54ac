use Rattle.std.proofs.Common.{◌∙◌}
use Rattle.std.specs.FinMap as map
use Rattle.std.proofs.lemmas.Cmp.{nat_list_cmp_total}
use Rattle.std.proofs.lemmas.Map.Lookups.{exact_bytes}
use Rattle.doc_page_parts.proofs.Maps.{inserted}
use Rattle.doc_store_pages.proofs.pages.Pages.insert.Goals as goal

pub returns-in-Ok-insert-clause-ok : goal.returns-in-Ok-insert-clause-ok
returns-in-Ok-insert-clause-ok c =
    inserted nat_list_cmp_total exact_bytes c.self.inside.entries.entries c.insert.new.self.entries c.in-Ok.path c.args.page
    c.in-Ok-insert.ensures.updates.0
    ∙ (λ i. map.insert (c.self.view_is i) (c.in-Ok.ensures i) c.args.page)
