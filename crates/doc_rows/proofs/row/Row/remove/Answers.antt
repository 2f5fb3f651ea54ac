use Rattle.std.proofs.Common.{◌∙◌}
use Rattle.std.specs.FinMap as map
use Rattle.doc_index_tables.proofs.TableSteps.{removed_text}
use Rattle.doc_rows.proofs.row.Row.remove.Goals as goal

pub returns : goal.returns
returns c =
    removed_text c.self.inside.paths c.remove.new.self c.text.result.now c.remove.ensures.updates
    ∙ (λ i. map.remove (c.self.view_is i) (c.text.ensures i))
