use Rattle.std.proofs.Common.{◌≡◌, ◌-◌, true, false, drop, length, sym, ◌∙◌, arith, nat_eq, length-drop}
use Rattle.std.proofs.lemmas.List.{take_all}
use Rattle.std.specs.List.{starts_with}
use Rattle.doc_http_bodies.specs.Places.{line_end}
use Rattle.doc_http.proofs.HeadLemmas.{no_empty_line, empty_line_at}
use Rattle.doc_http.proofs.head.empty_lines.Goals as goal

pub lines-preserved : goal.lines-preserved
lines-preserved c =
    let whole = take_all (length c.args.bytes.now - c.lines.at) (drop c.lines.at c.args.bytes.now)
    (omega (arith, length-drop c.lines.at c.args.bytes.now)) in
    let hit : starts_with nat_eq (drop c.lines.at c.args.bytes.now) line_end
    ≡ true = sym (rw (c.lines-test.true, whole) at c.starts_with.ensures.value) in (
      omega (arith, c.starts_with.ensures.bound c.lines-test.true, length-drop c.lines.at c.args.bytes.now),
      c.lines.invariant.1
          ∙ empty_line_at c.args.bytes.now c.lines.at hit,
    )

pub returns-clause-rest : goal.returns-clause-rest
returns-clause-rest c =
    let whole = take_all (length c.args.bytes.now - c.lines.at) (drop c.lines.at c.args.bytes.now)
    (omega (arith, length-drop c.lines.at c.args.bytes.now)) in
    let miss : starts_with nat_eq (drop c.lines.at c.args.bytes.now) line_end
    ≡ false = sym (rw (c.lines-test.false, whole) at c.starts_with.ensures.value) in
    sym (c.lines.invariant.1 ∙ no_empty_line _ miss)
