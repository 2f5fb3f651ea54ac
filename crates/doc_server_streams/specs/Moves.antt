-- What a read does to the bytes that a stream has left.
use Rattle.std.specs.Prelude.{◌≡◌, ◌⊎◌, ℕ, List, take, Bool, true, Option, Result, MatchResult}
use Rattle.std.specs.Io.KnownBytes.{Consumes, IsAtEnd, Keeps}

-- a read gave so many bytes, which known bytes lose, and a failed one none
abbrev pub ReadTakes : {E : Type 0} → Option (List ℕ) → Option (List ℕ) → Result ℕ E → List ℕ → Type 0
ReadTakes old new r buf = MatchResult r (λ n. Consumes old new (take n buf)) (λ _. Keeps old new)

-- no known byte is left, or a call may move none
abbrev pub IsDry : Option (List ℕ) → Bool → Type 0
IsDry unread stalls = IsAtEnd unread ⊎ (stalls ≡ true)
