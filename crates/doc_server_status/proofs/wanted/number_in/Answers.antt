use Rattle.std.proofs.Common.{sym, ◌∙◌}
use Rattle.doc_server_status.proofs.Digits.{number_is_text, number_missing}
use Rattle.doc_server_status.proofs.wanted.number_in.Goals as goal

pub unreachable-requires : goal.unreachable-requires
unreachable-requires c =
    c.in_default.ensures.cases.0 (number_is_text c.args.text.now (sym c.is_number.ensures ∙ c.if-not-is_number.false))

pub returns-in-Err : goal.returns-in-Err
returns-in-Err c =
    number_missing c.args.text.now c.in-Ok.digits.now c.in-Err.field-0 c.in-Ok.ensures.cases.0
    (sym c.is_number.ensures ∙ c.if-not-is_number.false) c.in-Err.ensures.value.0
