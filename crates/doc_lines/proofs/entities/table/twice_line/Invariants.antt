use Rattle.std.proofs.Common.{◌≡◌, ◌+◌, ◌≤◌, ◌++◌, length, take, drop}
use Rattle.doc_page_parts.specs.Lines.{lines}
use Rattle.doc_rules.specs.Entities.{built_in}
use Rattle.doc_lines.specs.Tables.{entities_in, twice_line}
use Rattle.doc_lines.proofs.entities.table.twice_line.Given as goal

-- the first line that contradicts is among those that are left
abbrev pub invariant-loop-line : goal.invariant-loop-line
invariant-loop-line l = record {
  twice : twice_line built_in 1 (lines l.text) ≡ twice_line (built_in ++ entities_in (take l.number (lines l.text))) (l.number + 1)
      l.line-iterator;
  rest : l.line-iterator ≡ drop l.number (lines l.text);
  room : l.number + length l.line-iterator ≤ length l.text;
  whole : l.length ≡ length l.text;
}
