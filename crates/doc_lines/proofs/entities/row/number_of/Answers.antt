use Rattle.std.proofs.Common.{arith}
use Rattle.doc_lines.proofs.RowLaws.{number_fits}
use Rattle.doc_lines.proofs.entities.row.number_of.Goals as goal

pub overflow_mul-number : goal.overflow_mul-number
overflow_mul-number c = omega (arith, number_fits c.loop-digit.digit-index c.loop-digit.number c.loop-digit.invariant.1 (omega arith))

pub overflow_add-number : goal.overflow_add-number
overflow_add-number c = omega (
  arith,
  number_fits c.loop-digit.digit-index c.loop-digit.number c.loop-digit.invariant.1 (omega arith),
  c.digit_value.ensures.bound,
)
