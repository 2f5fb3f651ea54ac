use Rattle.std.proofs.Common.{◌≡◌, ◌≤◌, ◌-◌, length, drop}
use Rattle.doc_http.specs.Heads.{skip_empty_lines}
use Rattle.doc_http.proofs.head.empty_lines.Given as goal

abbrev pub invariant-lines : goal.invariant-lines
invariant-lines l = (l.at ≤ length l.bytes) × (skip_empty_lines l.bytes ≡ skip_empty_lines (drop l.at l.bytes))

abbrev pub decreases-lines : goal.decreases-lines
decreases-lines l = length l.bytes - l.at
