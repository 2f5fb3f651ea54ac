use Rattle.std.proofs.Common.{refl, sym, subst}
use Rattle.doc_lines.specs.Cursors.{left_of}
use Rattle.doc_blocks_starts.specs.ItemSteps.{IsDigitTaken}
use Rattle.doc_blocks_starts.proofs.ContainerSteps.{no_digits_at_end, no_digit_at, digit_at}
use Rattle.doc_blocks_starts.proofs.item.marker.take_digit.Goals as goal

pub returns-in_err-peek-clause-digit : goal.returns-in_err-peek-clause-digit
returns-in_err-peek-clause-digit c =
    subst (IsDigitTaken (left_of c.args.line.now) (left_of c.args.line.now)) (sym c.from_residual.ensures)
    (no_digits_at_end c.args.line.now c.requires c.in_err-peek.ensures, refl)

pub returns-in_err-digit-clause-digit : goal.returns-in_err-digit-clause-digit
returns-in_err-digit-clause-digit c =
    subst (IsDigitTaken (left_of c.args.line.now) (left_of c.args.line.now)) (sym c.from_residual-in_err-digit.ensures)
    (no_digit_at c.args.line.now c.in_ok-peek.field-0 c.requires c.in_ok-peek.ensures c.in_err-digit.ensures.value, refl)

pub returns-clause-digit : goal.returns-clause-digit
returns-clause-digit c =
    digit_at c.args.line.now c.next.new.self c.in_ok-peek.field-0 c.in_ok-digit.digit c.requires c.in_ok-peek.ensures c.next.ensures.place
    c.in_ok-digit.ensures.value.0 c.in_ok-digit.ensures.value.1
