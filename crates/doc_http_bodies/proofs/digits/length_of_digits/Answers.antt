use Rattle.std.proofs.Common.{arith, ◌+◌}
use Rattle.doc_http_bodies.proofs.DigitLemmas.{decimal_more, not_allowed, is_allowed}
use Rattle.doc_http_bodies.proofs.digits.length_of_digits.Goals as goal

pub returns-then-length-gt-BODY_LIMIT : goal.returns-then-length-gt-BODY_LIMIT
returns-then-length-gt-BODY_LIMIT c =
    not_allowed c.args.digits.now (c.loop-digit.digit-index + 1) _
    (decimal_more c.args.digits.now c.loop-digit.digit-index c.loop-digit.length c.requires c.loop-digit-test.true c.loop-digit.invariant.0)
    c.if-length-gt-BODY_LIMIT.true

pub loop-digit-preserved : goal.loop-digit-preserved
loop-digit-preserved c = (
  decimal_more c.args.digits.now c.loop-digit.digit-index c.loop-digit.length c.requires c.loop-digit-test.true
      c.loop-digit.invariant.0,
  omega (arith, c.if-length-gt-BODY_LIMIT.false),
)

pub returns : goal.returns
returns c =
    is_allowed c.args.digits.now c.loop-digit.digit-index c.loop-digit.length c.loop-digit.invariant.0
    (omega (arith, c.loop-digit-test.false)) c.loop-digit.invariant.1
