use Rattle.std.proofs.Common.{subst, sym}
use Rattle.doc_shelf.specs.Shelves.{ArePeopleRows}
use Rattle.doc_shelf_views.specs.Linking.{linking}
use Rattle.doc_shelf.proofs.in_step.remove_in_step.Goals as goal

pub returns-clause-rows : goal.returns-clause-rows
returns-clause-rows c render is kept stood people =
    subst (λ s. ArePeopleRows (linking render) s.site.pages c.lift_page.new.rows) (sym c.remove.ensures.store)
    (c.lift_page.ensures render kept (stood people))
