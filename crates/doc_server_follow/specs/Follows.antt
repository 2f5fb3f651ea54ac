-- How far a journal is followed, and what a look at it tells. All of this is this project's choice.
use Rattle.std.specs.Prelude.{◌≡◌, ◌≢◌, ◌⊎◌, ◌+◌, ◌==◌, if◌then◌else◌, ℕ, List, [], ◌∷◌, ◌++◌, length}
use Rattle.doc_server_journal_records.specs.Records.{Entry, AreEntries, IsIdentity, IsTail, open_gate, closed_gate, header, seed, foot_of}
use Rattle.doc_server_journal_records.specs.Records.{chain, last_digest, texts_of, front_of}
use Rattle.doc_server_journal_records.specs.Readings.{AreRecords, HasNoOpenRecord, IsNotYet}
use Rattle.doc_server_follow.specs.declared.followed.Begun.{Begun}
use Rattle.doc_server_follow.specs.declared.followed.Followed.{Followed}
use Rattle.doc_server_follow.specs.declared.looked.Looked.{Looked}
use Rattle.doc_server_follow.specs.declared.looked.Looked.TheVariants as looks

-- ---- how far it was taken

-- a journal of this identity was taken as far as these entries
pub record IsAt (identity : List ℕ) (entries : List Entry) (followed : Followed) : Type 0 where
  pub is_identity : IsIdentity identity
  pub are_entries : AreEntries entries
  pub header : followed.header ≡ header identity
  pub end : followed.end ≡ length (front_of identity entries)
  pub digest : followed.digest ≡ last_digest (seed identity) entries
  pub records : followed.records ≡ length entries

-- the bytes read as these records, and were taken as far as the last of them
pub record IsBegun (bytes : List ℕ) (begun : Begun) : Type 0 where
  pub identity : List ℕ
  pub entries : List Entry
  pub tail : List ℕ
  pub records : AreRecords bytes identity entries (closed_gate ∷ tail)
  pub is_tail : IsTail tail
  pub texts : begun.texts ≡ texts_of entries
  pub is_at : IsAt identity entries begun.followed

-- what was taken last: the foot of a record, or the header where no record was taken
abbrev pub mark_of : Followed → List ℕ
mark_of followed = if followed.records == 0 then followed.header else foot_of followed.digest

-- in the file it stands where it stood, and then comes the rest
pub record IsMarked (file : List ℕ) (followed : Followed) (rest : List ℕ) : Type 0 where
  pub before : List ℕ
  pub split : file ≡ before ++ (mark_of followed ++ rest)
  pub end : length (before ++ mark_of followed) ≡ followed.end

-- ---- what may stand behind

-- a gate, and whatever stands behind it
abbrev pub HasGate : List ℕ → Type 0
HasGate [] = ⊥
HasGate (gate ∷ behind) = (gate ≡ closed_gate) ⊎ (gate ≡ open_gate)

-- a gate, and no whole record behind it; one may come as the file grows
pub record IsWaiting (digest rest : List ℕ) : Type 0 where
  pub gate : HasGate rest
  pub not_open : HasNoOpenRecord digest rest
  pub not_yet : IsNotYet rest

-- a gate, and no record behind it; none will come as the file grows
pub record IsBroken (digest rest : List ℕ) : Type 0 where
  pub gate : HasGate rest
  pub not_open : HasNoOpenRecord digest rest
  pub never : IsNotYet rest → ⊥

-- taken as far as these records behind
abbrev pub advanced : Followed → List Entry → Followed
advanced followed more = record {
  header = followed.header;
  end = followed.end + length (chain followed.digest more);
  records = followed.records + length more;
  digest = last_digest followed.digest more;
}

-- these records were taken, one at least, and their texts are these
pub record AreTaken (old new : Followed) (more : List Entry) (texts : List (List ℕ)) : Type 0 where
  pub some : more ≢ []
  pub are_entries : AreEntries more
  pub texts_are : texts ≡ texts_of more
  pub new_is : new ≡ advanced old more

-- ---- a look

-- what a look tells of a file
abbrev pub LooksAs : List ℕ → Followed → Followed → Looked → Type 0
LooksAs file old new looks.Rests = ((rest : List ℕ) × IsMarked file old rest × IsWaiting old.digest rest) × (new ≡ old)
LooksAs file old new (looks.More texts) =
    (more : List Entry) × (rest : List ℕ) × AreTaken old new more texts × IsMarked file old (chain old.digest more ++ rest)
LooksAs file old new looks.WentBack = ((rest : List ℕ) → IsMarked file old rest → HasGate rest → ⊥) × (new ≡ old)
LooksAs file old new looks.Damaged = ((rest : List ℕ) × IsMarked file old rest × IsBroken old.digest rest) × (new ≡ old)

-- what it does whatever the file is: it goes on by the records of these texts, or not at all
abbrev pub GoesOn : Followed → Followed → Looked → Type 0
GoesOn old new (looks.More texts) = (more : List Entry) × AreTaken old new more texts
GoesOn old new _ = new ≡ old
