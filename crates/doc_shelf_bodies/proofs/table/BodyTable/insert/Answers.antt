use Rattle.std.proofs.Common.{◌∙◌, ap, string_bytes}
use Rattle.std.specs.FinMap as map
use Rattle.doc_index_tables.proofs.TableSteps.{inserted_text}
use Rattle.doc_shelf_bodies.proofs.table.BodyTable.insert.Goals as goal

pub returns-clause-ok : goal.returns-clause-ok
returns-clause-ok c =
    inserted_text c.self.inside.rows c.insert.new.self (string_bytes c.args.path) c.args.bodies c.in_ok-insert.ensures.updates
    ∙ ap (λ m. map.insert m (string_bytes c.args.path) c.args.bodies) c.self.view_is
