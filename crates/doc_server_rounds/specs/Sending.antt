-- What a reply does to the bytes that were written.
use Rattle.std.specs.Prelude.{◌≡◌, ◌<◌, ◌⊎◌, ℕ, List, Bool, true, Option}
use Rattle.std.specs.Io.KnownBytes.{Appends}
use Rattle.doc_server_streams.specs.Streams.{AppendsPrefix}

-- all of it was written, and no write failed
abbrev pub IsSent : Option (List ℕ) → Option (List ℕ) → List ℕ → ℕ → Type 0
IsSent old new bytes failed = Appends old new bytes × (failed ≡ 0)

-- a call failed, or one may move no byte
abbrev pub HasFault : ℕ → Bool → Type 0
HasFault failed stalls = (0 < failed) ⊎ (stalls ≡ true)

-- a prefix of it was written
abbrev pub IsCutOff : Option (List ℕ) → Option (List ℕ) → List ℕ → ℕ → Bool → Type 0
IsCutOff old new bytes failed stalls = AppendsPrefix old new bytes × HasFault failed stalls
