use Rattle.std.proofs.Common.{sym, ◌∙◌}
use Rattle.doc_server_arguments.proofs.Digits.{number_missing}
use Rattle.doc_server_arguments.proofs.number.count_of.Goals as goal

pub returns-in-Err : goal.returns-in-Err
returns-in-Err c =
    number_missing 32 c.args.word.now c.in-Err.field-0 (sym c.are_digits.ensures ∙ c.if-not-are_digits.false) c.in-Err.ensures.value.0
