-- What is said of the journal's records. All of this is this project's choice.
use Rattle.std.specs.Prelude.{ℕ, Bool, true, false, ◌&&◌, List, ◌++◌, Option, Some, None, bytes_eq, codes, decimal, if◌then◌else◌, nat_le}
use Rattle.doc_server_status.specs.declared.head.Shown.{Shown}
use Rattle.doc_server_status.specs.declared.standing.JournalStanding.{JournalStanding}
use Rattle.doc_server_status.specs.declared.wanted.Wanted.{Wanted}
use Rattle.doc_server_status.specs.Digits.{digits_of}

-- how many records of the journal are in the site
abbrev pub records_of : Option JournalStanding → ℕ
records_of None = 0
records_of (Some journal) = journal.records

-- whether the journal is the one that is named, where one is
abbrev pub is_named : Option (List ℕ) → Option JournalStanding → Bool
is_named None journal = true
is_named (Some identity) None = false
is_named (Some identity) (Some journal) = bytes_eq (digits_of journal.identity) identity

-- whether it is there as it is wanted: that one, and so many of its records at least
abbrev pub is_met : Wanted → Option JournalStanding → Bool
is_met wanted journal = is_named wanted.identity journal && nat_le wanted.least (records_of journal)

-- its identity and how many of its records are in the site
unfoldable pub record_text : Option JournalStanding → List ℕ
record_text None = codes "- 0\n"
record_text (Some journal) = digits_of journal.identity ++ codes " " ++ decimal journal.records ++ codes "\n"

-- this is said either way, so that who waits sees how far it is
unfoldable pub record_said : Wanted → Option JournalStanding → Shown
record_said wanted journal = record { code = if is_met wanted journal then 200 else 503; metrics = false; content = record_text journal }
