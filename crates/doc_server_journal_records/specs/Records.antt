-- Records as bytes. All of this is this project's choice.
use Rattle.std.specs.Prelude.{⊤, ◌≡◌, ◌≤◌, ℕ, List, [], ◌∷◌, ◌++◌, length, drop, map, Bool, true, ◌==◌, ◌&&◌, ◌||◌, not, nat_le, codes}
use Rattle.std.specs.Int.{w32, w64, to_be_bytes}
use Rattle.std.specs.List.{list_all}
use Rattle.hex.specs.Hex.{encode_lower}
use Rattle.sha2.specs.Sha256.{sha256}

-- how many bytes the text of a record may have
unfoldable pub text_limit : ℕ
text_limit = 8388608

-- the two gates, which stand nowhere else in a journal
abbrev pub open_gate : ℕ
open_gate = 255

abbrev pub closed_gate : ℕ
closed_gate = 240

-- a lower case hexadecimal digit
abbrev pub is_digit : ℕ → Bool
is_digit b = (nat_le 48 b && nat_le b 57) || (nat_le 97 b && nat_le b 102)

-- so many of them
abbrev pub AreDigits : ℕ → List ℕ → Type 0
AreDigits count digits = (length digits ≡ count) × (list_all is_digit digits ≡ true)

-- a byte of a record: a line feed, or printable ASCII
abbrev pub is_plain : ℕ → Bool
is_plain b = b == 10 || (nat_le 32 b && nat_le b 126)

abbrev pub IsPlain : List ℕ → Type 0
IsPlain text = list_all is_plain text ≡ true

-- ---- the header

-- an identity is 32 hexadecimal digits
abbrev pub IsIdentity : List ℕ → Type 0
IsIdentity identity = AreDigits 32 identity

-- the header of the journal of this identity
unfoldable pub header : List ℕ → List ℕ
header identity = codes "docs_server journal 2 " ++ identity ++ 10 ∷ []

-- what stands in for the digest of a record before the first
unfoldable pub seed : List ℕ → List ℕ
seed identity = sha256 (header identity)

-- ---- a record

-- what a record keeps: when it was written, in hexadecimal digits, and a text
pub record Entry : Type 0 where
  pub time : List ℕ
  pub text : List ℕ

pub record IsEntry (entry : Entry) : Type 0 where
  pub time : AreDigits 10 entry.time
  pub within : length entry.text ≤ text_limit
  pub plain : IsPlain entry.text

-- seconds in ten hexadecimal digits
unfoldable pub time_of : ℕ → List ℕ
time_of seconds = encode_lower (drop 3 (to_be_bytes w64 seconds))

-- a length in eight hexadecimal digits
unfoldable pub length_digits : ℕ → List ℕ
length_digits count = encode_lower (to_be_bytes w32 count)

-- what stands in front of a text: its length, and the time
abbrev pub head_of : ℕ → List ℕ → List ℕ
head_of count time = length_digits count ++ (32 ∷ time ++ 10 ∷ [])

-- what the digest of a record is over, beside the digest of the record before
abbrev pub body : Entry → List ℕ
body entry = head_of (length entry.text) entry.time ++ entry.text

-- the digest of a record, behind one of that digest
unfoldable pub digest_behind : List ℕ → Entry → List ℕ
digest_behind before entry = sha256 (before ++ body entry)

-- what stands behind a text: the digest, in hexadecimal digits
abbrev pub foot_of : List ℕ → List ℕ
foot_of digest = encode_lower digest ++ 10 ∷ []

-- the record, behind its gate
unfoldable pub record_bytes : List ℕ → Entry → List ℕ
record_bytes before entry = body entry ++ foot_of (digest_behind before entry)

-- ---- records

-- records one behind the other, each behind an open gate
abbrev pub chain : List ℕ → List Entry → List ℕ
chain before [] = []
chain before (entry ∷ entries) = open_gate ∷ record_bytes before entry ++ chain (digest_behind before entry) entries

-- the digest of the last of them
abbrev pub last_digest : List ℕ → List Entry → List ℕ
last_digest before [] = before
last_digest before (entry ∷ entries) = last_digest (digest_behind before entry) entries

abbrev pub AreEntries : List Entry → Type 0
AreEntries [] = ⊤
AreEntries (entry ∷ entries) = IsEntry entry × AreEntries entries

abbrev pub texts_of : List Entry → List (List ℕ)
texts_of entries = map (λ entry. entry.text) entries

-- ---- a journal

-- its header and its records
abbrev pub front_of : List ℕ → List Entry → List ℕ
front_of identity entries = header identity ++ chain (seed identity) entries

-- what may stand behind the closed gate: anything but an open gate
abbrev pub is_shut : ℕ → Bool
is_shut b = not (b == open_gate)

abbrev pub IsTail : List ℕ → Type 0
IsTail tail = list_all is_shut tail ≡ true

-- the bytes of a journal: its front, and the closed gate with what stands behind it
abbrev pub journal_bytes : List ℕ → List Entry → List ℕ → List ℕ
journal_bytes identity entries tail = front_of identity entries ++ closed_gate ∷ tail
