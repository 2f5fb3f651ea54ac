use Rattle.std.proofs.Common.{◌<◌, arith}
use Rattle.doc_lines.specs.Cursors.{left_of}
use Rattle.doc_blocks_starts.proofs.ContainerSteps.{none_read, one_more_read, too_many_read, read_is_small, digit_value_is_small}
use Rattle.doc_blocks_starts.proofs.item.marker.take_digits.Goals as goal

pub digits-init : goal.digits-init
digits-init c = record { plain = c.requires; read = none_read (left_of c.args.line.now) }

pub returns-then-length-ge-MOST_DIGITS-clause-digits : goal.returns-then-length-ge-MOST_DIGITS-clause-digits
returns-then-length-ge-MOST_DIGITS-clause-digits c =
    too_many_read (left_of c.args.line.now) (left_of c.digits.line) (left_of c.take_digit.new.line) c.digits.number c.digits.length
    c.in-Some.digit c.digits.invariant.read c.in-Some.ensures.digit
    (omega (arith, c.if-length-ge-MOST_DIGITS.true))

pub overflow_mul-number : goal.overflow_mul-number
overflow_mul-number c =
    let small : c.digits.number < 100000000 = read_is_small (left_of c.args.line.now) (left_of c.digits.line) c.digits.number
    c.digits.length c.digits.invariant.read (omega (arith, c.if-length-ge-MOST_DIGITS.false)) in
    omega arith

pub overflow_add-number : goal.overflow_add-number
overflow_add-number c =
    let small : c.digits.number < 100000000 = read_is_small (left_of c.args.line.now) (left_of c.digits.line) c.digits.number
    c.digits.length c.digits.invariant.read (omega (arith, c.if-length-ge-MOST_DIGITS.false)) in
    let digit : c.in-Some.digit < 10 = digit_value_is_small (left_of c.digits.line) (left_of c.take_digit.new.line) c.in-Some.digit
    c.in-Some.ensures.digit in
    omega arith

pub digits-preserved : goal.digits-preserved
digits-preserved c = record {
  plain = c.in-Some.ensures.plain;
  read = one_more_read (left_of c.args.line.now) (left_of c.digits.line) (left_of c.take_digit.new.line) c.digits.number c.digits.length
      c.in-Some.digit c.digits.invariant.read c.in-Some.ensures.digit
      (omega (arith, c.if-length-ge-MOST_DIGITS.false));
}
