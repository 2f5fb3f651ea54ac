-- What the bytes of a journal say. All of this is this project's choice.
use Rattle.std.specs.Prelude.{⊤, ◌≡◌, ◌⊎◌, ◌≤◌, ◌<◌, ◌+◌, ℕ, List, [], ◌∷◌, ◌++◌, length, take}
use Rattle.doc_server_journal_records.specs.Records.{Entry, IsEntry, AreEntries, IsIdentity, AreDigits, text_limit, open_gate, closed_gate, header, seed}
use Rattle.doc_server_journal_records.specs.Records.{head_of, digest_behind, record_bytes, chain, last_digest, texts_of, front_of}
use Rattle.doc_server_journal_records.specs.Records.{IsTail}
use Rattle.doc_server_journal_records.specs.FirstReadings.{IsFirst}
use Rattle.doc_server_journal_records.specs.declared.read_error.ReadError.{ReadError}
use Rattle.doc_server_journal_records.specs.declared.read_error.ReadError.TheVariants.{NoJournal, First, Damaged, Memory}
use Rattle.doc_server_journal_records.specs.declared.found.Found.{Found}
use Rattle.doc_server_journal_records.specs.declared.next.Next.{Next}
use Rattle.doc_server_journal_records.specs.declared.next.Next.TheVariants as nexts

-- ---- one record

-- the bytes begin with this record, and then comes the rest
pub record IsRecord (before : List ℕ) (entry : Entry) (bytes rest : List ℕ) : Type 0 where
  pub is_entry : IsEntry entry
  pub split : bytes ≡ record_bytes before entry ++ rest

-- they begin with none
abbrev pub HasNoRecord : List ℕ → List ℕ → Type 0
HasNoRecord before bytes = (entry : Entry) (rest : List ℕ) → IsRecord before entry bytes rest → ⊥

-- the same behind an open gate
abbrev pub IsOpenRecord : List ℕ → Entry → List ℕ → List ℕ → Type 0
IsOpenRecord before entry bytes rest = (behind : List ℕ) × (bytes ≡ open_gate ∷ behind) × IsRecord before entry behind rest

-- they begin with no record behind an open gate
abbrev pub HasNoOpenRecord : List ℕ → List ℕ → Type 0
HasNoOpenRecord before bytes = (entry : Entry) (rest : List ℕ) → IsOpenRecord before entry bytes rest → ⊥

-- fewer bytes than a record in front of them takes: than its head, or than the record of that head
abbrev pub IsShort : List ℕ → Type 0
IsShort bytes =
    (length bytes < 20)
    ⊎ ((count : ℕ) × (time : List ℕ) × (count ≤ text_limit) × AreDigits 10 time × (take 20 bytes ≡ head_of count time)
    × (length bytes < count + 85))

-- where a record may begin there is none yet: no byte, a closed gate, or an open one and too few bytes behind it
abbrev pub IsNotYet : List ℕ → Type 0
IsNotYet [] = ⊤
IsNotYet (gate ∷ behind) = (gate ≡ closed_gate) ⊎ ((gate ≡ open_gate) × IsShort behind)

-- in the head of a record, behind the length
abbrev pub IsTime : List ℕ → Type 0
IsTime bytes = (time : List ℕ) × AreDigits 10 time × (bytes ≡ 32 ∷ time ++ 10 ∷ [])

-- what stands behind an open gate
abbrev pub IsNextBehind : List ℕ → List ℕ → Next → Type 0
IsNextBehind before bytes (nexts.Whole front) =
    (entry : Entry) × IsRecord before entry bytes front.rest.now × (front.text.now ≡ entry.text)
    × (front.digest ≡ digest_behind before entry)
IsNextBehind before bytes nexts.NotYet = HasNoRecord before bytes × IsShort bytes
IsNextBehind before bytes nexts.Damaged = HasNoRecord before bytes × (IsShort bytes → ⊥)

-- what stands where a record may begin, behind one of that digest
abbrev pub IsNext : List ℕ → List ℕ → Next → Type 0
IsNext before bytes (nexts.Whole front) =
    (entry : Entry) × IsOpenRecord before entry bytes front.rest.now × (front.text.now ≡ entry.text)
    × (front.digest ≡ digest_behind before entry)
IsNext before bytes nexts.NotYet = HasNoOpenRecord before bytes × IsNotYet bytes
IsNext before bytes nexts.Damaged = HasNoOpenRecord before bytes × (IsNotYet bytes → ⊥)

-- ---- a journal

-- no header stands in front
abbrev pub IsNoJournal : List ℕ → Type 0
IsNoJournal bytes = (identity rest : List ℕ) → IsIdentity identity → bytes ≡ header identity ++ rest → ⊥

-- the bytes are these records, and then the rest
pub record AreChain (before bytes : List ℕ) (entries : List Entry) (rest : List ℕ) : Type 0 where
  pub are_entries : AreEntries entries
  pub split : bytes ≡ chain before entries ++ rest

-- they are records of these texts, the last of them of this digest, and then the rest
pub record AreRead (before bytes : List ℕ) (texts : List (List ℕ)) (digest rest : List ℕ) : Type 0 where
  pub entries : List Entry
  pub are : AreChain before bytes entries rest
  pub texts_are : texts ≡ texts_of entries
  pub digest_is : digest ≡ last_digest before entries

-- the bytes are a header, records, and then the rest
pub record AreRecords (bytes identity : List ℕ) (entries : List Entry) (rest : List ℕ) : Type 0 where
  pub is_identity : IsIdentity identity
  pub are_entries : AreEntries entries
  pub split : bytes ≡ front_of identity entries ++ rest

-- a closed gate, and what may stand behind it
abbrev pub IsEnd : List ℕ → Type 0
IsEnd rest = (tail : List ℕ) × (rest ≡ closed_gate ∷ tail) × IsTail tail

-- the bytes read as the records of these texts
pub record ReadsAs (bytes : List ℕ) (texts : List (List ℕ)) : Type 0 where
  pub identity : List ℕ
  pub entries : List Entry
  pub tail : List ℕ
  pub records : AreRecords bytes identity entries (closed_gate ∷ tail)
  pub is_tail : IsTail tail
  pub texts_are : texts ≡ texts_of entries

-- The bytes are damaged where record n would stand, counted from 1: there is neither a record behind an open gate nor an end.
pub record IsDamaged (bytes : List ℕ) (n : ℕ) : Type 0 where
  pub identity : List ℕ
  pub entries : List Entry
  pub rest : List ℕ
  pub number : n ≡ length entries + 1
  pub records : AreRecords bytes identity entries rest
  pub not_open : HasNoOpenRecord (last_digest (seed identity) entries) rest
  pub no_end : IsEnd rest → ⊥

-- why bytes aren't read: no header stands there, and they are no journal of the first form, or one; they are damaged there; or there
-- was no memory
abbrev pub IsWhy : List ℕ → ReadError → Type 0
IsWhy bytes NoJournal = IsNoJournal bytes × ((texts : List (List ℕ)) → IsFirst bytes texts → ⊥)
IsWhy bytes First = IsNoJournal bytes × ((texts : List (List ℕ)) × IsFirst bytes texts)
IsWhy bytes (Damaged n) = IsDamaged bytes n
IsWhy bytes Memory = ⊤

-- the last of some texts, and what its record adds to it: its gate, its head and its foot
abbrev pub last_size : List (List ℕ) → ℕ
last_size [] = 0
last_size (text ∷ []) = length text + 86
last_size (text ∷ next ∷ texts) = last_size (next ∷ texts)

-- what a reading found
pub record IsFound (bytes : List ℕ) (found : Found) : Type 0 where
  pub identity : List ℕ
  pub entries : List Entry
  pub tail : List ℕ
  pub records : AreRecords bytes identity entries (closed_gate ∷ tail)
  pub is_tail : IsTail tail
  pub texts : found.texts ≡ texts_of entries
  pub digest : found.digest ≡ last_digest (seed identity) entries
  pub end : found.end ≡ length (front_of identity entries)
  pub last : found.last ≡ last_size found.texts
