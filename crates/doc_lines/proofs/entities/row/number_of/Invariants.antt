use Rattle.std.proofs.Common.{◌≡◌, ◌^◌, ◌<◌, ◌≤◌, take, length}
use Rattle.doc_rules.specs.Escapes.{number}
use Rattle.doc_lines.proofs.entities.row.number_of.Given as goal

-- the number of the digits so far, which is less than their number of digits allows
abbrev pub invariant-loop-digit : goal.invariant-loop-digit
invariant-loop-digit l = (l.number ≡ number 16 (take l.digit-index l.digits)) × (l.number < 16 ^ l.digit-index) × (length l.digits ≤ 6)
