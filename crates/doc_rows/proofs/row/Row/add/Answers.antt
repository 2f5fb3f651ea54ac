use Rattle.std.proofs.Common.{◌∙◌, string_bytes}
use Rattle.std.specs.FinMap as map
use Rattle.doc_index_tables.proofs.TableSteps.{inserted_text}
use Rattle.doc_rows.proofs.row.Row.add.Goals as goal

pub returns-clause-ok : goal.returns-clause-ok
returns-clause-ok c =
    inserted_text c.self.inside.paths c.insert.new.self (string_bytes c.in_ok-from_str.field-0) tt c.in_ok-insert.ensures.updates
    ∙ (λ i. map.insert (c.self.view_is i) ((c.in_ok-from_str.ensures.ok ∙ c.text.ensures) i) tt)
