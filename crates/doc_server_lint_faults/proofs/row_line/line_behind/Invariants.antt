use Rattle.std.proofs.Common.{◌≡◌, ◌+◌, ◌==◌, take}
use Rattle.std.specs.Prelude.{count_by}
use Rattle.doc_server_lint_faults.proofs.row_line.line_behind.Given as goal

-- one more than the line feeds so far
abbrev pub invariant-loop-byte : goal.invariant-loop-byte
invariant-loop-byte l = l.line ≡ count_by (λ b. b == 10) (take l.byte-index l.text) + 1
