-- Words in which the parts of reading an input are stated.
use Rattle.std.specs.Prelude.{◌≡◌, ◌<◌, ◌+◌, ⊤, ℕ, List, length, string_bytes}
use Rattle.std.specs.Str.{IsUtf8}
use Rattle.doc_server_streams.specs.declared.fault.Fault.{Fault}
use Rattle.doc_server_streams.specs.declared.fault.Fault.TheVariants as faults

-- the input of this name can't be read, or there is no memory for the name
abbrev pub IsNamed : List ℕ → Fault → Type 0
IsNamed name (faults.CannotRead called) = string_bytes called ≡ name
IsNamed name faults.Memory = ⊤
IsNamed name other = ⊥

-- the same, because its bytes are no text
abbrev pub IsNoTextOf : List ℕ → List ℕ → Fault → Type 0
IsNoTextOf name bytes fault = IsNamed name fault × ¬ IsUtf8 bytes

-- a piece that follows these bytes passes the limit, or memory ran out
abbrev pub IsUnadded : ℕ → List ℕ → List ℕ → Fault → Type 0
IsUnadded limit before piece faults.Refused = limit < length before + length piece
IsUnadded limit before piece faults.Memory = ⊤
IsUnadded limit before piece other = ⊥

-- the input was read
abbrev pub IsRead : Fault → Type 0
IsRead (faults.CannotRead called) = ⊥
IsRead other = ⊤
