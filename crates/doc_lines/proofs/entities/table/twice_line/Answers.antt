use Rattle.std.proofs.Common.{◌≡◌, ◌+◌, ◌++◌, true, false, length, take, refl, ap, sym, ◌∙◌, arith}
use Rattle.doc_page_parts.specs.Lines.{lines}
use Rattle.doc_rules.specs.Entities.{built_in}
use Rattle.doc_lines.specs.Tables.{entities_in, entity_of, line_contradicts, twice_line}
use Rattle.doc_lines.proofs.RowLaws.{lines_length}
use Rattle.doc_lines.proofs.TableLaws.{twice_start, twice_step, twice_here, twice_none, drop_next}
use Rattle.doc_lines.proofs.entities.table.twice_line.Goals as goal

pub loop-line-init : goal.loop-line-init
loop-line-init c =
    let start : c.into_iter-line-iterator.result ≡ lines c.args.text.now = c.into_iter-line-iterator.ensures.into_iter_gives
    ∙ c.new-line-items.ensures in
    record {
      twice = twice_start (lines c.args.text.now) c.into_iter-line-iterator.result start;
      rest = start;
      room = omega (arith, ap length start, lines_length c.args.text.now);
      whole = refl;
    }

pub returns-then-contradicts_before : goal.returns-then-contradicts_before
returns-then-contradicts_before c =
    let here : line_contradicts (built_in ++ entities_in (take c.loop-line.number (lines c.args.text.now))) (entity_of c.in-Some.line.now)
    ≡ true = sym c.contradicts_before.ensures ∙ c.if-contradicts_before.true in
    sym (c.loop-line.invariant.twice ∙ ap (twice_line (built_in ++ entities_in (take c.loop-line.number (lines c.args.text.now)))
    (c.loop-line.number + 1)) c.in-Some.ensures.steps
    ∙ twice_here (built_in ++ entities_in (take c.loop-line.number (lines c.args.text.now))) (c.loop-line.number + 1) c.in-Some.line.now
    c.next.new.self here)

pub loop-line-preserved : goal.loop-line-preserved
loop-line-preserved c =
    let on : line_contradicts (built_in ++ entities_in (take c.loop-line.number (lines c.args.text.now))) (entity_of c.in-Some.line.now)
    ≡ false = sym c.contradicts_before.ensures ∙ c.if-contradicts_before.false in
    let left : length c.loop-line.line-iterator ≡ length c.next.new.self + 1 = ap length c.in-Some.ensures.steps ∙ omega arith in
    record {
      twice = c.loop-line.invariant.twice ∙ twice_step (lines c.args.text.now) c.loop-line.line-iterator c.in-Some.line.now c.next.new.self
          c.loop-line.number c.loop-line.invariant.rest c.in-Some.ensures.steps on;
      rest = drop_next (lines c.args.text.now) c.loop-line.number c.in-Some.line.now c.next.new.self (sym c.loop-line.invariant.rest
          ∙ c.in-Some.ensures.steps);
      room = omega (arith, left, c.loop-line.invariant.room);
      whole = refl;
    }

pub returns : goal.returns
returns c =
    sym (c.loop-line.invariant.twice ∙ ap (twice_line (built_in ++ entities_in (take c.loop-line.number (lines c.args.text.now)))
    (c.loop-line.number + 1)) c.in-None.ensures.steps.0
    ∙ twice_none (built_in ++ entities_in (take c.loop-line.number (lines c.args.text.now))) (c.loop-line.number + 1))
