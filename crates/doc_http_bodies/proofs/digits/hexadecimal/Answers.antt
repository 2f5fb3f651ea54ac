use Rattle.std.proofs.Common.{arith}
use Rattle.doc_http_bodies.proofs.DigitLemmas.{hexadecimal_more, before_eighth, of_eight}
use Rattle.doc_http_bodies.proofs.digits.hexadecimal.Goals as goal

pub overflow_mul-number : goal.overflow_mul-number
overflow_mul-number c = omega (arith, before_eighth c.loop-digit.digit-index c.loop-digit.number c.loop-digit.invariant.1 (omega arith))

pub overflow_add-number : goal.overflow_add-number
overflow_add-number c = omega (
  arith,
  before_eighth c.loop-digit.digit-index c.loop-digit.number c.loop-digit.invariant.1 (omega arith),
  c.digit_value.ensures.bound,
)

pub loop-digit-preserved : goal.loop-digit-preserved
loop-digit-preserved c =
    let one = hexadecimal_more c.args.digits.now c.loop-digit.digit-index c.loop-digit.number c.digit_value.result c.loop-digit-test.true
    c.loop-digit.invariant.0 c.loop-digit.invariant.1 c.digit_value.ensures.value c.digit_value.ensures.bound in
    (one.0, one.1, c.loop-digit.invariant.2)

pub returns-clause-bound : goal.returns-clause-bound
returns-clause-bound c = of_eight c.loop-digit.digit-index c.loop-digit.number c.loop-digit.invariant.1 (omega arith)
