use Rattle.std.proofs.Common.{◌∙◌, ap}
use Rattle.std.specs.FinMap as map
use Rattle.doc_index_tables.proofs.TableSteps.{looked_up_text, removed_text}
use Rattle.doc_shelf_bodies.specs.Tables.{bodies_in}
use Rattle.doc_shelf_bodies.proofs.table.BodyTable.take.Goals as goal

pub returns-clause-taken : goal.returns-clause-taken
returns-clause-taken c =
    c.bodies_of.ensures
    ∙ ap bodies_in (c.remove.ensures.value ∙ looked_up_text c.self.inside.rows.entries c.args.path.now
    ∙ ap (λ m. map.get m c.args.path.now) c.self.view_is)

pub returns-clause-rest : goal.returns-clause-rest
returns-clause-rest c =
    removed_text c.self.inside.rows c.remove.new.self c.args.path.now c.remove.ensures.updates
    ∙ ap (λ m. map.remove m c.args.path.now) c.self.view_is
