use Rattle.std.proofs.Common.{◌≡◌, take, drop}
use Rattle.doc_page_parts.specs.Lines.{lines}
use Rattle.doc_page_parts.proofs.LineSteps.{onto_front}
use Rattle.doc_page_parts.proofs.lines.first_line_len.Given as goal

abbrev pub invariant-loop-i : goal.invariant-loop-i
invariant-loop-i l = lines l.bytes ≡ onto_front (take l.i l.bytes) (lines (drop l.i l.bytes))
