use Rattle.std.proofs.Common.{arith}
use Rattle.doc_page_parts.proofs.LineSteps.{lines_pass, lines_end, lines_last, cut_after_line}
use Rattle.doc_page_parts.proofs.lines.first_line_len.Goals as goal

pub returns-then-ends_line-clause-first : goal.returns-then-ends_line-clause-first
returns-then-ends_line-clause-first c =
    lines_end c.args.bytes.now c.loop-i.i _ (omega arith) c.ends_line.ensures c.if-ends_line.true c.loop-i.invariant

pub returns-then-ends_line-clause-boundary : goal.returns-then-ends_line-clause-boundary
returns-then-ends_line-clause-boundary c utf8 =
    cut_after_line c.args.bytes.now c.loop-i.i _ utf8 (omega arith) c.ends_line.ensures c.if-ends_line.true

pub loop-i-preserved : goal.loop-i-preserved
loop-i-preserved c =
    lines_pass c.args.bytes.now c.loop-i.i _ (omega arith) c.ends_line.ensures c.if-ends_line.false c.loop-i.invariant

pub returns-clause-first : goal.returns-clause-first
returns-clause-first c = lines_last c.args.bytes.now c.loop-i.i _ c.requires (omega arith) (omega arith) c.loop-i.invariant
