-- Who asks: by the settings, the readers, and the Authorization field of the request (RFC 9110, section 11.6.2), of which it has one or
-- none. All of this is this project's choice.
use Rattle.std.specs.Prelude.{ℕ, List, Bool, true, false, Option, Some, None, option_and_then}
use Rattle.doc_http.specs.Passwords.{token_in}
use Rattle.doc_http.specs.declared.request.Request.{Request}
use Rattle.doc_people.specs.declared.settings.Browse.{Browse}
use Rattle.doc_store_readers.specs.Readers.{ReaderTable, find_in}
use Rattle.doc_store_readers.specs.declared.reader.Reader.{Reader}

-- nobody who may read; a guest, who comes without a field; or the reader whose token the field has
pub data Asking : Type 0 where
  Nobody : Asking
  Guest : Reader → Asking
  Known : Reader → Asking

-- the entry that the request is answered by
abbrev pub row_of : Asking → Option Reader
row_of Nobody = None
row_of (Guest row) = Some row
row_of (Known row) = Some row

-- the same, where a token names it
abbrev pub known_of : Asking → Option Reader
known_of Nobody = None
known_of (Guest row) = None
known_of (Known row) = Some row

-- whether a guest asks
abbrev pub is_guest : Asking → Bool
is_guest Nobody = false
is_guest (Guest row) = true
is_guest (Known row) = false

-- whether an owner asks
abbrev pub owns : Asking → Bool
owns Nobody = false
owns (Guest row) = row.owner
owns (Known row) = row.owner

-- the entry of guests
abbrev pub guest_row : List (List ℕ) → Reader
guest_row groups = record { owner = false; groups = groups }

-- who comes without a field
abbrev pub guest_by : Option (List (List ℕ)) → Asking
guest_by None = Nobody
guest_by (Some groups) = Guest (guest_row groups)

-- who comes with a field: a reader, or nobody, and never a guest
abbrev pub known_by : Option Reader → Asking
known_by None = Nobody
known_by (Some row) = Known row

abbrev pub asking_by : Option (List (List ℕ)) → Bool → ReaderTable → Option (List ℕ) → Asking
asking_by guest login readers None = guest_by guest
asking_by guest login readers (Some value) = known_by (option_and_then (find_in readers) (token_in login (Some value)))

-- the groups of guests
abbrev pub guest_of : Option Browse → Option (List (List ℕ))
guest_of None = None
guest_of (Some browse) = browse.guest

-- whether readers may sign in as browsers do
abbrev pub login_of : Option Browse → Bool
login_of None = false
login_of (Some browse) = browse.login

-- who asks
abbrev pub reader_asking : Option Browse → ReaderTable → Request → Asking
reader_asking browse readers request = asking_by (guest_of browse) (login_of browse) readers request.authorization
