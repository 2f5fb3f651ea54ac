use Rattle.std.proofs.Common.{◌∙◌, ap}
use Rattle.std.specs.FinMap as map
use Rattle.doc_index_tables.proofs.TableSteps.{looked_up_text}
use Rattle.doc_rows.proofs.rows.Rows.row.Goals as goal

pub returns : goal.returns
returns c =
    c.get.ensures.value ∙ looked_up_text c.self.inside.rows.entries c.args.row.now
    ∙ ap (λ m. map.get m c.args.row.now) c.self.view_is
