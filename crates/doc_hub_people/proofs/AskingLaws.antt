-- Laws of who asks.
use Rattle.std.proofs.Common.{◌≡◌, ℕ, ◌+◌, ◌<◌, ◌∷◌, [], ◌++◌, Bool, true, false, cond, List, length, ap, refl, sym, subst, ◌∙◌, drop, arith}
use Rattle.std.specs.Prelude.{◌==◌, ◌&&◌, codes, nat_lt, position, take, Option, Some, None}
use Rattle.std.specs.List.{list_all, prefix_len}
use Rattle.std.specs.Option.{option_and_then}
use Rattle.std.proofs.lemmas.Bool.{and_parts, lt-ltb}
use Rattle.std.proofs.lemmas.Bool.Decides.{nat_tests}
use Rattle.base64.specs.Engines.{standard}
use Rattle.base64.specs.GeneralPurpose.{decoded_of}
use Rattle.doc_http.specs.Bearers.{bearer_in, bearer_of, credentials_at, skip_spaces, token_behind}
use Rattle.doc_http.specs.Passwords.{basic_text, is_user, or_password, password_at, password_in, password_of, token_in}
use Rattle.doc_page_parts.specs.Tokens.{is_token, is_token_byte}
use Rattle.doc_store_readers.specs.Readers.{ReaderTable, find_in}
use Rattle.doc_store_readers.specs.declared.reader.Reader.{Reader}
use Rattle.doc_hub_asking.specs.Asking.{asking_by, guest_of, is_guest, known_by, login_of}
use Rattle.doc_hub_people.specs.Laws.{BasicIsBearer, BearersAloneAreKnown, FieldsAreNeverGuests, GuestsDependOnNoReaders, GuestsOwnNothing, IsNoGuest, OwnsNothing}

-- ---- guests

known_is_no_guest : (row : Option Reader) → IsNoGuest (known_by row)
known_is_no_guest None = tt
known_is_no_guest (Some row) = tt

no_guest_by : (guest : Option (List (List ℕ))) (login : Bool) (readers : ReaderTable) (value : List ℕ) (field : Option (List ℕ))
    → field ≡ Some value → IsNoGuest (asking_by guest login readers field)
no_guest_by guest login readers value None is = cc
no_guest_by guest login readers value (Some other) is =
    known_is_no_guest (option_and_then (find_in readers) (token_in login (Some other)))

pub fields_are_never_guests : FieldsAreNeverGuests
fields_are_never_guests browse readers request value is =
    no_guest_by (guest_of browse) (login_of browse) readers value request.authorization is

known_is_guest : (row : Option Reader) → is_guest (known_by row) ≡ true → ⊥
known_is_guest None is = cc
known_is_guest (Some row) is = cc

guest_by_all : (guest : Option (List (List ℕ))) (login : Bool) (readers others : ReaderTable) (field : Option (List ℕ))
    → is_guest (asking_by guest login readers field) ≡ true
    → asking_by guest login readers field ≡ asking_by guest login others field
guest_by_all guest login readers others None is = refl
guest_by_all guest login readers others (Some value) is =
    absurd (known_is_guest (option_and_then (find_in readers) (token_in login (Some value))) is)

pub guests_depend_on_no_readers : GuestsDependOnNoReaders
guests_depend_on_no_readers browse readers others request is =
    guest_by_all (guest_of browse) (login_of browse) readers others request.authorization is

known_owns_nothing : (row : Option Reader) → OwnsNothing (known_by row)
known_owns_nothing None = tt
known_owns_nothing (Some row) = tt

owns_nothing_by : (guest : Option (List (List ℕ))) (login : Bool) (readers : ReaderTable) (field : Option (List ℕ))
    → OwnsNothing (asking_by guest login readers field)
owns_nothing_by None login readers None = tt
owns_nothing_by (Some groups) login readers None = refl
owns_nothing_by guest login readers (Some value) =
    known_owns_nothing (option_and_then (find_in readers) (token_in login (Some value)))

pub guests_own_nothing : GuestsOwnNothing
guests_own_nothing browse readers request = owns_nothing_by (guest_of browse) (login_of browse) readers request.authorization

-- ---- bearers

without_password : (value : List ℕ) (bearer : Option (List ℕ)) → or_password false value bearer ≡ bearer
without_password value None = refl
without_password value (Some token) = refl

alone : (readers : ReaderTable) (field : Option (List ℕ))
    → asking_by None false readers field ≡ known_by (option_and_then (find_in readers) (bearer_in field))
alone readers None = refl
alone readers (Some value) =
    ap (λ token. known_by (option_and_then (find_in readers) token)) (without_password value (bearer_in (Some value)))

pub bearers_alone_are_known : BearersAloneAreKnown
unfolding bearer_of
bearers_alone_are_known readers request = alone readers request.authorization

-- ---- passwords

-- a space begins no token
no_space : (token : List ℕ) → is_token token ≡ true → prefix_len (λ b. b == 32) token ≡ 0
unfolding is_token
no_space [] is = refl
no_space (b ∷ rest) is = by_test (b == 32) refl
  where
    none : (rest : List ℕ) → nat_lt 0 (prefix_len is_token_byte (32 ∷ rest)) ≡ true → ⊥
    none rest h = cc

    by_test : (space : Bool) → (b == 32) ≡ space → cond space (1 + prefix_len (λ c. c == 32) rest) 0 ≡ 0
    by_test false not_it = refl
    by_test true it =
        let same : b ≡ 32 = grind (arith, nat_tests, it) in
        let parts = and_parts (nat_lt 0 (prefix_len is_token_byte (b ∷ rest)))
        (list_all (λ c. c == 61) (drop (prefix_len is_token_byte (b ∷ rest)) (b ∷ rest))) is in
        absurd (none rest (subst (λ c. nat_lt 0 (prefix_len is_token_byte (c ∷ rest)) ≡ true) same parts.0))

without_spaces : (token : List ℕ) → is_token token ≡ true → skip_spaces (32 ∷ token) ≡ token
without_spaces token is = ap (λ n. drop (1 + n) (32 ∷ token)) (no_space token is)

-- the first space of what begins so
first_space : (rest : List ℕ) → position (λ b. b == 32) (codes "Bearer " ++ rest) ≡ Some 6
first_space rest =
    let within : 6 < length (codes "Bearer " ++ rest) = omega arith in
    ap (λ t. cond t (Some 6) None) (lt-ltb 6 (length (codes "Bearer " ++ rest)) within)

-- a token behind the scheme of bearers is the bearer's token
bearer_behind : (token : List ℕ) → is_token token ≡ true → bearer_in (Some (codes "Bearer " ++ token)) ≡ Some token
bearer_behind token is =
    ap (credentials_at (codes "Bearer " ++ token)) (first_space token)
    ∙ ap (token_behind (codes "Bearer")) (without_spaces token is) ∙ ap (λ b. cond b (Some token) None) is

chosen : (test : Bool) (password token : List ℕ) → cond test (Some password) None ≡ Some token → (test ≡ true) × (password ≡ token)
chosen true password token is = (refl, cc)
chosen false password token is = cc

password_is_token : (bytes token : List ℕ) (at : Option ℕ) → password_at bytes at ≡ Some token → is_token token ≡ true
password_is_token bytes token None is = cc
password_is_token bytes token (Some at) is =
    let password = drop (at + 1) bytes in
    let both = chosen (is_user (take at bytes) && is_token password) password token is in
    rw (← both.1) (and_parts (is_user (take at bytes)) (is_token password) both.0).1

of_bytes : (bytes : Option (List ℕ)) (token : List ℕ) → option_and_then password_of bytes ≡ Some token → is_token token ≡ true
of_bytes None token is = cc
of_bytes (Some bytes) token is = password_is_token bytes token (position (λ b. b == 58) bytes) is

pub basic_is_bearer : BasicIsBearer
unfolding password_in
basic_is_bearer guest login readers value token is other =
    let found = λ (t : Option (List ℕ)). known_by (option_and_then (find_in readers) t) in
    let good = of_bytes (option_and_then (decoded_of standard) (basic_text value)) token is in
    ap (λ b. found (or_password true value b)) other ∙ ap found is
    ∙ sym (ap (λ b. found (or_password login (codes "Bearer " ++ token) b)) (bearer_behind token good))
