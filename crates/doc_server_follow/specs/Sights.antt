-- What a part of a file tells, read from the mark on. A look puts it together.
use Rattle.std.specs.Prelude.{⊤, ◌≡◌, ◌+◌, ℕ, Bool, true, false, List, ◌∷◌, ◌++◌, length, take}
use Rattle.doc_server_journal_records.specs.Records.{Entry, open_gate, closed_gate, chain, text_limit}
use Rattle.doc_server_journal_records.specs.Readings.{AreRead, HasNoOpenRecord, IsNotYet, IsShort}
use Rattle.doc_server_follow.specs.Follows.{AreTaken, HasGate, IsBroken, IsMarked, mark_of}
use Rattle.doc_server_follow.specs.declared.followed.Followed.{Followed}
use Rattle.doc_server_follow.specs.declared.sight.Sight.{Sight}
use Rattle.doc_server_follow.specs.declared.sight.Sight.TheVariants as sights
use Rattle.doc_server_follow.specs.declared.taken.Taken.{Taken}

-- no record stands there: one may come or none will
abbrev pub EndsSo : List ℕ → List ℕ → Bool → Type 0
EndsSo digest rest true = HasNoOpenRecord digest rest × IsNotYet rest
EndsSo digest rest false = HasNoOpenRecord digest rest × (IsNotYet rest → ⊥)

-- the whole records at the front of bytes
pub record IsTaken (before bytes : List ℕ) (taken : Taken) : Type 0 where
  pub rest : List ℕ
  pub read : AreRead before bytes taken.texts taken.digest rest
  pub len : taken.len + length rest ≡ length bytes
  pub ends : EndsSo taken.digest rest taken.is_short

-- taken as far as those
abbrev pub beyond : Followed → Taken → Followed
beyond followed taken = record {
  header = followed.header;
  end = followed.end + taken.len;
  records = followed.records + length taken.texts;
  digest = taken.digest;
}

-- behind the mark the bytes are so
abbrev pub Stands : Followed → List ℕ → Sight → Type 0
Stands followed bytes sights.Back = HasGate bytes → ⊥
Stands followed bytes sights.Rests = (tail : List ℕ) × (bytes ≡ closed_gate ∷ tail)
Stands followed bytes sights.Short =
    (behind : List ℕ) × (bytes ≡ open_gate ∷ behind) × HasNoOpenRecord followed.digest bytes × IsShort behind
Stands followed bytes sights.Damaged = IsBroken followed.digest bytes
Stands followed bytes (sights.More texts new) =
    (more : List Entry) × (rest : List ℕ) × AreTaken followed new more texts × (bytes ≡ chain followed.digest more ++ rest)

-- a piece begins with the mark, and then its bytes are so; or it does not begin so that a gate stands behind the mark
abbrev pub IsSight : Followed → List ℕ → Sight → Type 0
IsSight followed piece sights.Back = (rest : List ℕ) → piece ≡ mark_of followed ++ rest → HasGate rest → ⊥
IsSight followed piece sight = (rest : List ℕ) × (piece ≡ mark_of followed ++ rest) × Stands followed rest sight

-- the same of a file, of which so many bytes behind the mark were read
abbrev pub Sees : List ℕ → ℕ → Followed → Sight → Type 0
Sees file most followed sights.Back = (rest : List ℕ) → IsMarked file followed rest → HasGate rest → ⊥
Sees file most followed sights.Short =
    (rest : List ℕ) × IsMarked file followed rest × Stands followed (take most rest) sights.Short
Sees file most followed sight = (rest : List ℕ) × IsMarked file followed rest × Stands followed rest sight

-- whatever the file is
abbrev pub MovesTo : Followed → Sight → Type 0
MovesTo followed (sights.More texts new) = (more : List Entry) × AreTaken followed new more texts
MovesTo followed _ = ⊤

-- how many bytes the longest record takes with its gate
abbrev pub longest : ℕ
longest = text_limit + 86
