use Rattle.std.proofs.Common.{◌≡◌, ◌+◌, ◌≤◌, length}
use Rattle.doc_page_parts.specs.Lines.{lines}
use Rattle.doc_lines.specs.Tables.{bad_line}
use Rattle.doc_lines.proofs.entities.table.bad_line.Given as goal

-- the lines that are left, and no fewer bytes than lines
abbrev pub invariant-loop-line : goal.invariant-loop-line
invariant-loop-line l = (bad_line 1 (lines l.text) ≡ bad_line (l.number + 1) l.line-iterator)
    × (l.number + length l.line-iterator ≤ length l.text) × (l.length ≡ length l.text)
