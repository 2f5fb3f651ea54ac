-- A line as it is read.
use Rattle.std.specs.Prelude.{◌≡◌, ◌≤◌, ⊤, ℕ, List, length, Result, Ok, Err, Vec}
use Rattle.doc_server_token.specs.declared.fault.TokenFault.{TokenFault}
use Rattle.doc_server_token.specs.declared.fault.TokenFault.TheVariants as faults
use Rattle.doc_server_token.specs.Lines.{line_of, line_limit}

-- The first line of an input; or that it is too long, or the input can't be read, or memory ran out.
abbrev pub IsLineOf : {A : Type 0} → List ℕ → Result (Vec ℕ A) TokenFault → Type 0
IsLineOf left (Ok line) = line.items ≡ line_of left
IsLineOf left (Err faults.NoToken) = line_limit ≤ length (line_of left)
IsLineOf left (Err faults.CannotRead) = ⊤
IsLineOf left (Err faults.Memory) = ⊤
IsLineOf left (Err other) = ⊥
