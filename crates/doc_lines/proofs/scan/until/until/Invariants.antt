use Rattle.std.proofs.Common.{◌<◌, ℕ, false, get_or}
use Rattle.doc_lines.proofs.scan.until.until.Given as goal

-- no byte before the place passes
abbrev pub invariant-loop-place : goal.invariant-loop-place
invariant-loop-place g l = (k : ℕ) → k < l.place → goal.F-post g l.test (get_or l.text k 0) false
