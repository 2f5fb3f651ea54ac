-- What the bytes of a journal of the first form say. All of this is this project's choice.
use Rattle.std.specs.Prelude.{◌≡◌, ◌⊎◌, ◌≤◌, ◌+◌, ℕ, List, [], ◌∷◌, ◌++◌, length}
use Rattle.doc_server_journal_records.specs.FirstRecords.{text_limit, seed, record_bytes, chain, last_digest, AreWithin}

-- the bytes begin with a record of this text, and then comes the rest
pub record IsRecord (before text bytes rest : List ℕ) : Type 0 where
  pub within : length text ≤ text_limit
  pub split : bytes ≡ record_bytes before text ++ rest

-- they begin with none
abbrev pub HasNoRecord : List ℕ → List ℕ → Type 0
HasNoRecord before bytes = (text rest : List ℕ) → IsRecord before text bytes rest → ⊥

-- the same behind an open gate
abbrev pub IsOpenRecord : List ℕ → List ℕ → List ℕ → List ℕ → Type 0
IsOpenRecord before text bytes rest = (behind : List ℕ) × (bytes ≡ 1 ∷ behind) × IsRecord before text behind rest

-- they don't begin with an open gate and a record
abbrev pub HasNoOpenRecord : List ℕ → List ℕ → Type 0
HasNoOpenRecord before bytes = (behind : List ℕ) → bytes ≡ 1 ∷ behind → HasNoRecord before behind

-- how many bytes may stand behind a closed gate: those of the longest record, and a gate
unfoldable pub tail_limit : ℕ
tail_limit = text_limit + 37

-- what may stand behind a closed gate: one whole record and at most its gate behind it, or bytes that begin with none
abbrev pub IsTail : List ℕ → List ℕ → Type 0
IsTail before tail =
    ((text rest : List ℕ) × IsRecord before text tail rest × (length rest ≤ 1))
    ⊎ ((length tail ≤ tail_limit) × HasNoRecord before tail)

-- a closed gate, and what may stand behind it
abbrev pub IsEnd : List ℕ → List ℕ → Type 0
IsEnd before rest = (tail : List ℕ) × (rest ≡ 0 ∷ tail) × IsTail before tail

-- the bytes are records, and then the rest
pub record AreRecords (bytes : List ℕ) (texts : List (List ℕ)) (rest : List ℕ) : Type 0 where
  pub within : AreWithin texts
  pub split : bytes ≡ chain seed texts ++ rest

-- an open or a closed gate stands in front
abbrev pub IsBegun : List ℕ → Type 0
IsBegun [] = ⊥
IsBegun (b ∷ rest) = (b ≡ 0) ⊎ (b ≡ 1)

-- the bytes read as the records of these texts; a journal without records is a gate alone
abbrev pub IsFirst : List ℕ → List (List ℕ) → Type 0
IsFirst bytes texts =
    IsBegun bytes
    × (((texts ≡ [] → ⊥) × (rest : List ℕ) × AreRecords bytes texts rest × IsEnd (last_digest seed texts) rest)
    ⊎ ((length bytes ≤ 1) × (texts ≡ [])))
