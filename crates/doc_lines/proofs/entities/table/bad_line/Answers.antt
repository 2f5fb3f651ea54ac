use Rattle.std.proofs.Common.{◌≡◌, ◌+◌, true, false, length, refl, ap, sym, ◌∙◌, arith}
use Rattle.doc_page_parts.specs.Lines.{lines}
use Rattle.doc_lines.specs.Tables.{bad_line, is_row}
use Rattle.doc_lines.proofs.RowLaws.{lines_length}
use Rattle.doc_lines.proofs.TableLaws.{bad_on, bad_here, bad_none}
use Rattle.doc_lines.proofs.entities.table.bad_line.Goals as goal

pub loop-line-init : goal.loop-line-init
loop-line-init c =
    let start : c.into_iter-line-iterator.result ≡ lines c.args.text.now = c.into_iter-line-iterator.ensures.into_iter_gives
    ∙ c.new-line-items.ensures in
    (ap (bad_line 1) (sym start), omega (arith, ap length start, lines_length c.args.text.now), refl)

pub returns-then-not-is_row : goal.returns-then-not-is_row
returns-then-not-is_row c =
    let here : is_row c.in-Some.line.now ≡ false = sym c.is_row.ensures ∙ c.if-not-is_row.true in
    sym (c.loop-line.invariant.0 ∙ ap (bad_line (c.loop-line.number + 1)) c.in-Some.ensures.steps
    ∙ bad_here (c.loop-line.number + 1) c.in-Some.line.now c.next.new.self here)

pub loop-line-preserved : goal.loop-line-preserved
loop-line-preserved c =
    let on : is_row c.in-Some.line.now ≡ true = sym c.is_row.ensures ∙ c.if-not-is_row.false in
    let left : length c.loop-line.line-iterator ≡ length c.next.new.self + 1 = ap length c.in-Some.ensures.steps ∙ omega arith in (
      c.loop-line.invariant.0 ∙ ap (bad_line (c.loop-line.number + 1)) c.in-Some.ensures.steps
          ∙ bad_on (c.loop-line.number + 1) c.in-Some.line.now c.next.new.self on,
      omega (arith, left, c.loop-line.invariant.1),
      refl,
    )

pub returns : goal.returns
returns c = sym (c.loop-line.invariant.0 ∙ ap (bad_line (c.loop-line.number + 1)) c.in-None.ensures.steps.0
    ∙ bad_none (c.loop-line.number + 1))
