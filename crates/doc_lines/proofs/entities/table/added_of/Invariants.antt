use Rattle.std.proofs.Common.{◌≡◌, ◌+◌, ◌≤◌, ◌++◌, [], length, true}
use Rattle.doc_page_parts.specs.Lines.{lines}
use Rattle.doc_rules.specs.Entities.{built_in}
use Rattle.doc_lines.specs.Entities.{entities_shown, has_ascii_names}
use Rattle.doc_lines.specs.Tables.{entities_in, twice_line, with_entities}
use Rattle.doc_lines.proofs.entities.table.added_of.Given as goal

-- what the lines that are left add, and the first of them that contradicts
abbrev pub invariant-loop-line : goal.invariant-loop-line
invariant-loop-line l = record {
  twice : twice_line built_in 1 (lines l.text) ≡ twice_line (built_in ++ entities_shown l.added.entries) (l.number + 1) l.line-iterator;
  added : with_entities [] (entities_in (lines l.text)) ≡ with_entities (entities_shown l.added.entries) (entities_in l.line-iterator);
  ascii : has_ascii_names (entities_shown l.added.entries) ≡ true;
  room : l.number + length l.line-iterator ≤ length l.text;
  whole : l.length ≡ length l.text;
}
