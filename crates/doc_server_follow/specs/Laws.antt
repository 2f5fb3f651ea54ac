-- Laws of journals that are followed.
use Rattle.std.specs.Prelude.{◌≡◌, ℕ, List, ◌++◌}
use Rattle.doc_server_journal_records.specs.Records.{Entry, texts_of}
use Rattle.doc_server_journal_records.specs.Readings.{AreRecords, ReadsAs}
use Rattle.doc_server_follow.specs.Follows.{HasGate, IsAt, LooksAs}
use Rattle.doc_server_follow.specs.declared.followed.Followed.{Followed}
use Rattle.doc_server_follow.specs.declared.looked.Looked.TheVariants as looks

-- A journal was taken as far as these entries, and they still stand in front. Then a look that tells more tells the records that stand
-- behind them, and the journal is taken as far as those.
abbrev pub StaysInOrder : Type 0
StaysInOrder = (file identity : List ℕ) (entries : List Entry) (behind : List ℕ) (old new : Followed) (texts : List (List ℕ))
    → IsAt identity entries old → AreRecords file identity entries behind → LooksAs file old new (looks.More texts)
    → (more : List Entry) × (rest : List ℕ) × (texts ≡ texts_of more) × AreRecords file identity (entries ++ more) rest
    × IsAt identity (entries ++ more) new

-- A journal was taken as far as these entries, and they still stand in front of a gate. Then no look tells that it went back.
abbrev pub GrownNeverGoesBack : Type 0
GrownNeverGoesBack = (file identity : List ℕ) (entries : List Entry) (behind : List ℕ) (old new : Followed) → IsAt identity entries old
    → AreRecords file identity entries behind → HasGate behind → LooksAs file old new looks.WentBack → ⊥

-- A journal was taken as far as these entries, and they still stand in front. Where a look rests then, the file reads as no others: none
-- was missed.
abbrev pub RestsAtTheEnd : Type 0
RestsAtTheEnd = (file identity : List ℕ) (entries : List Entry) (behind : List ℕ) (old new : Followed) (texts : List (List ℕ))
    → IsAt identity entries old → AreRecords file identity entries behind → LooksAs file old new looks.Rests → ReadsAs file texts
    → texts ≡ texts_of entries
