-- Laws of who asks.
use Rattle.std.specs.Prelude.{◌≡◌, ℕ, List, ◌++◌, Bool, true, false, codes, Option, Some, None}
use Rattle.doc_http.specs.Bearers.{bearer_in}
use Rattle.doc_http.specs.Passwords.{password_in}
use Rattle.doc_http.specs.declared.request.Request.{Request}
use Rattle.doc_people.specs.declared.settings.Browse.{Browse}
use Rattle.doc_store_readers.specs.Readers.{ReaderTable}
use Rattle.doc_hub_answers.specs.AnswerSteps.{entry_of}
use Rattle.doc_hub_asking.specs.Asking.{Asking, asking_by, is_guest, known_by, reader_asking}
use Rattle.doc_hub_asking.specs.Asking as asked

-- nobody, or a reader whom a token names
abbrev pub IsNoGuest : Asking → Type 0
IsNoGuest asked.Nobody = Unit {0}
IsNoGuest (asked.Guest row) = ⊥
IsNoGuest (asked.Known row) = Unit {0}

-- who sends an Authorization field is a reader or nobody, whatever the field has
abbrev pub FieldsAreNeverGuests : Type 0
FieldsAreNeverGuests = (browse : Option Browse) (readers : ReaderTable) (request : Request) (value : List ℕ)
    → request.authorization ≡ Some value → IsNoGuest (reader_asking browse readers request)

-- without settings for people who asks is whom the bearer's token names, or nobody
abbrev pub BearersAloneAreKnown : Type 0
BearersAloneAreKnown =
    (readers : ReaderTable) (request : Request) → reader_asking None readers request ≡ known_by (entry_of readers request)

-- A password that is a token is that token: where logins are understood, who asks with it is who asks with the token as a bearer does, with
-- logins and without them.
abbrev pub BasicIsBearer : Type 0
BasicIsBearer = (guest : Option (List (List ℕ))) (login : Bool) (readers : ReaderTable) (value token : List ℕ)
    → password_in value ≡ Some token → bearer_in (Some value) ≡ None
    → asking_by guest true readers (Some value) ≡ asking_by guest login readers (Some (codes "Bearer " ++ token))

-- who asks as a guest does so whatever readers there are
abbrev pub GuestsDependOnNoReaders : Type 0
GuestsDependOnNoReaders = (browse : Option Browse) (readers others : ReaderTable) (request : Request)
    → is_guest (reader_asking browse readers request) ≡ true
    → reader_asking browse readers request ≡ reader_asking browse others request

-- where a guest asks, they are no owner
abbrev pub OwnsNothing : Asking → Type 0
OwnsNothing asked.Nobody = Unit {0}
OwnsNothing (asked.Guest row) = row.owner ≡ false
OwnsNothing (asked.Known row) = Unit {0}

-- no guest is an owner
abbrev pub GuestsOwnNothing : Type 0
GuestsOwnNothing =
    (browse : Option Browse) (readers : ReaderTable) (request : Request) → OwnsNothing (reader_asking browse readers request)
