use Rattle.std.proofs.Common.{◌∙◌, ap}
use Rattle.std.specs.FinMap as map
use Rattle.doc_index_tables.proofs.TableSteps.{looked_up_text}
use Rattle.doc_shelf_bodies.proofs.table.BodyTable.of_path.Goals as goal

pub returns : goal.returns
returns c =
    c.get.ensures.value ∙ looked_up_text c.self.inside.rows.entries c.args.path.now
    ∙ ap (λ m. map.get m c.args.path.now) c.self.view_is
