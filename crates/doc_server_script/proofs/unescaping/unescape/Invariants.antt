use Rattle.std.proofs.Common.{◌≡◌, length}
use Rattle.doc_server_script.specs.Escapes.{unescaped}
use Rattle.doc_server_script.proofs.EscapeSteps.{behind}
use Rattle.doc_server_script.proofs.unescaping.unescape.Given as goal

-- what stands for bytes from here on follows those so far
abbrev pub invariant-loop-rest : goal.invariant-loop-rest
invariant-loop-rest l = unescaped l.text ≡ behind l.bytes.items (unescaped l.rest)

abbrev pub decreases-loop-rest : goal.decreases-loop-rest
decreases-loop-rest l = length l.rest
