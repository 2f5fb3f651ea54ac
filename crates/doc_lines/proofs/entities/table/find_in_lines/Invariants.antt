use Rattle.std.proofs.Common.{◌≡◌, take}
use Rattle.doc_page_parts.specs.Lines.{lines}
use Rattle.doc_rules.specs.Escapes.{find_entity}
use Rattle.doc_lines.specs.Tables.{entities_in}
use Rattle.doc_lines.proofs.entities.table.find_in_lines.Given as goal

-- the name is sought in the lines that are left of those
abbrev pub invariant-loop-line : goal.invariant-loop-line
invariant-loop-line l = find_entity (entities_in (take l.number (lines l.text))) l.name
    ≡ find_entity (entities_in (take l.left l.line-iterator)) l.name
