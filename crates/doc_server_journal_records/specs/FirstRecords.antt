-- Records of the first form as bytes. All of this is this project's choice.
use Rattle.std.specs.Prelude.{⊤, ◌≤◌, ℕ, List, [], ◌∷◌, ◌++◌, length, codes}
use Rattle.std.specs.Int.{w32, to_le_bytes}
use Rattle.sha2.specs.Sha256.{sha256}

-- how many bytes the text of a record may have
unfoldable pub text_limit : ℕ
text_limit = 16777216

-- what stands in for the digest of a record before the first
unfoldable pub seed : List ℕ
seed = sha256 (codes "docs_server journal 1")

-- the length of a text in four bytes, the lowest first
unfoldable pub length_bytes : List ℕ → List ℕ
length_bytes text = to_le_bytes w32 (length text)

-- the digest of a record of this text, behind a record of that digest
unfoldable pub digest_behind : List ℕ → List ℕ → List ℕ
digest_behind before text = sha256 (before ++ length_bytes text ++ text)

-- the record, behind its gate
abbrev pub record_bytes : List ℕ → List ℕ → List ℕ
record_bytes before text = length_bytes text ++ text ++ digest_behind before text

-- records of these texts one behind the other, each behind an open gate
abbrev pub chain : List ℕ → List (List ℕ) → List ℕ
chain before [] = []
chain before (text ∷ texts) = 1 ∷ record_bytes before text ++ chain (digest_behind before text) texts

-- the digest of the last of them
abbrev pub last_digest : List ℕ → List (List ℕ) → List ℕ
last_digest before [] = before
last_digest before (text ∷ texts) = last_digest (digest_behind before text) texts

-- no text is too long
abbrev pub AreWithin : List (List ℕ) → Type 0
AreWithin [] = ⊤
AreWithin (text ∷ texts) = (length text ≤ text_limit) × AreWithin texts
