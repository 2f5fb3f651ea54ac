use Rattle.std.proofs.Common.{sym, ◌∙◌}
use Rattle.doc_server_script.proofs.FieldSteps.{number_missing}
use Rattle.doc_server_script.proofs.fields.connection_of.Goals as goal

pub returns-in-Err : goal.returns-in-Err
returns-in-Err c = number_missing c.args.field.now c.in-Err.field-0 (sym c.are_digits.ensures ∙ c.if-not-are_digits.false)
    c.in-Err.ensures.value.0
