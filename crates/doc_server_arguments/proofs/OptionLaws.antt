-- Options taken one after the other are what all of them say.
use Rattle.std.proofs.Common.{◌≡◌, ℕ, List, [], ◌∷◌, ◌++◌, Bool, true, false, not, ◌||◌, Option, Some, None, is_some, is_none, Ok, Err}
use Rattle.std.proofs.Common.{refl, sym, ap, ◌∙◌, subst, append-nil, append_assoc, bytes_eq}
use Rattle.std.specs.Prelude.{Result, option_and_then, if◌then◌else◌}
use Rattle.std.specs.List.{list_any, list_all}
use Rattle.std.specs.Option.{option_or}
use Rattle.std.specs.declared.net.socket_addr.SocketAddr.{SocketAddr}
use Rattle.std.proofs.lemmas.List.Folds.{list_all-append}
use Rattle.std.proofs.lemmas.Slice.Eq.{bytes_eq-Decides}
use Rattle.doc_page_parts.proofs.Bools.{and_first, and_second}
use Rattle.doc_server_arguments.specs.declared.log_form.LogForm.{LogForm}
use Rattle.doc_server_arguments.specs.declared.options.Known.{Known}
use Rattle.doc_server_arguments.specs.declared.options.Known.TheVariants.{All, Journal}
use Rattle.doc_server_arguments.specs.Addresses.{listen_address_of}
use Rattle.doc_server_arguments.specs.Options.{Said, Stated, first_said, first_wrong, follow_in, follow_word, form_of, journal_in, journal_word, json_word, log_in, log_word, names_of, option_of, options_in, said_by, said_unless, stands, stated, status_in, status_word, watch_in, watch_word, wrong_address, wrong_behind, wrong_file, wrong_pause, wrong_value}
use Rattle.doc_server_arguments.specs.OptionSteps.{follow_taken, journal_taken, log_taken, onward, status_at, status_taken, taken_all, taken_one, watch_each, watch_taken}
use Rattle.doc_server_arguments.specs.Numbers.{pause_of}
use Rattle.doc_server_arguments.specs.Usage.{Wrong, NoAddress, UnknownOption, StandsTwice, NeedsSeconds}

-- ---- what is said first

none_more : {X : Type 0} (o : Option X) → option_or o None ≡ o
none_more None = refl
none_more (Some x) = refl

or_or : {X : Type 0} (a b c : Option X) → option_or a (option_or b c) ≡ option_or (option_or a b) c
or_or None b c = refl
or_or (Some x) b c = refl

some_or : {X : Type 0} (a b : Option X) → is_some (option_or a b) ≡ (is_some a || is_some b)
some_or None b = refl
some_or (Some x) b = refl

-- what is said first with one option more
first_more : {X : Type 0} (said_in : Stated → Option X) (before : List Stated) (option : Stated)
    → first_said said_in (before ++ option ∷ []) ≡ option_or (first_said said_in before) (said_in option)
first_more said_in [] option = none_more (said_in option)
first_more said_in (first ∷ before) option =
    ap (option_or (said_in first)) (first_more said_in before option) ∙ or_or (said_in first) (first_said said_in before) (said_in option)

-- nothing is wrong with the value of each option
abbrev whole : List Stated → Bool
whole options = list_all (λ option. is_none (wrong_value option)) options

-- something is said by options where one of them is the option that says it
abbrev Says : {X : Type 0} → (Stated → Option X) → List ℕ → Type 0
Says said_in name = (word : List ℕ) (value : Option (List ℕ)) → is_none (wrong_value (record { word = word; value = value })) ≡ true
    → is_some (said_in (record { word = word; value = value })) ≡ bytes_eq (option_of word) name

first_given : {X : Type 0} (said_in : Stated → Option X) (name : List ℕ) → Says said_in name → (options : List Stated) → whole options ≡ true
    → is_some (first_said said_in options) ≡ stands name options
first_given said_in name says [] h = refl
first_given said_in name says (first ∷ rest) h =
    some_or (said_in first) (first_said said_in rest)
    ∙ ap (λ b. b || is_some (first_said said_in rest)) (says first.word first.value (and_first (is_none (wrong_value first)) (whole rest) h))
    ∙ ap (λ b. bytes_eq (option_of first.word) name || b)
    (first_given said_in name says rest (and_second (is_none (wrong_value first)) (whole rest) h))

-- an option of one word is asked for by that alone
of_one_word : (word name : List ℕ) → bytes_eq log_word name ≡ bytes_eq json_word name → bytes_eq word name ≡ bytes_eq (option_of word) name
of_one_word word name neither = by (bytes_eq word json_word) refl
  where
    by : (b : Bool) → bytes_eq word json_word ≡ b → bytes_eq word name ≡ bytes_eq (if b then log_word else word) name
    by true e = ap (λ w. bytes_eq w name) ((bytes_eq-Decides word json_word).0 e) ∙ sym neither
    by false e = refl

some_where : {X : Type 0} (b : Bool) (o : Option X) → (b ≡ true → is_some o ≡ true) → is_some (if b then o else None) ≡ b
some_where true o there = there refl
some_where false o there = refl

file_there : (word : List ℕ) (value : Option (List ℕ)) → is_none (wrong_file word value) ≡ true → is_some value ≡ true
file_there word None h = absurd (cc)
file_there word (Some file) h = refl

address_read : (o : Option SocketAddr) → is_none (if is_none o then Some NoAddress else None) ≡ true → is_some o ≡ true
address_read None h = absurd (cc)
address_read (Some address) h = refl

address_there : (word : List ℕ) (value : Option (List ℕ)) → is_none (wrong_address word value) ≡ true
    → is_some (option_and_then listen_address_of value) ≡ true
address_there word None h = absurd (cc)
address_there word (Some written) h = address_read (listen_address_of written) h

pause_read : (o : Option ℕ) → is_none (if is_none o then Some NeedsSeconds else None) ≡ true → is_some o ≡ true
pause_read None h = absurd (cc)
pause_read (Some seconds) h = refl

pause_there : (value : Option (List ℕ)) → is_none (wrong_pause value) ≡ true → is_some (option_and_then pause_of value) ≡ true
pause_there None h = absurd (cc)
pause_there (Some written) h = pause_read (pause_of written) h

-- the value of an option of this word
value_right : (word name : List ℕ) (value : Option (List ℕ)) → is_none (wrong_value (record { word = word; value = value })) ≡ true
    → bytes_eq word name ≡ true → is_none (wrong_value (record { word = name; value = value })) ≡ true
value_right word name value h is =
    subst (λ w. is_none (wrong_value (record { word = w; value = value })) ≡ true) ((bytes_eq-Decides word name).0 is) h

journal_says : Says journal_in journal_word
journal_says word value h =
    some_where (bytes_eq word journal_word) value (λ is. file_there journal_word value (value_right word journal_word value h is))
    ∙ of_one_word word journal_word refl

follow_says : Says follow_in follow_word
follow_says word value h =
    some_where (bytes_eq word follow_word) value (λ is. file_there follow_word value (value_right word follow_word value h is))
    ∙ of_one_word word follow_word refl

log_says : Says log_in log_word
log_says word value h = some_where (bytes_eq (option_of word) log_word) (Some (form_of word)) (λ is. refl)

status_says : Says status_in status_word
status_says word value h =
    some_where (bytes_eq word status_word) (option_and_then listen_address_of value)
    (λ is. address_there status_word value (value_right word status_word value h is))
    ∙ of_one_word word status_word refl

watch_says : Says watch_in watch_word
watch_says word value h =
    some_where (bytes_eq word watch_word) (option_and_then pause_of value)
    (λ is. pause_there value (value_right word watch_word value h is))
    ∙ of_one_word word watch_word refl

-- ---- one option more

-- what is said with what an option says
abbrev with : Said → Stated → Said
with said option = record {
  journal = option_or said.journal (journal_in option);
  follow = option_or said.follow (follow_in option);
  log = option_or said.log (log_in option);
  status = option_or said.status (status_in option);
  watch = option_or said.watch (watch_in option);
}

said_more : (before : List Stated) (option : Stated) → with (said_by before) option ≡ said_by (before ++ option ∷ [])
said_more before option i = record {
  journal = sym (first_more journal_in before option) i;
  follow = sym (first_more follow_in before option) i;
  log = sym (first_more log_in before option) i;
  status = sym (first_more status_in before option) i;
  watch = sym (first_more watch_in before option) i;
}

-- what one option of a command says, where none of it stands before or one does
abbrev known_taken : Said → Stated → Result Said Wrong
known_taken said option =
    if bytes_eq option.word journal_word then journal_taken said option.word said.journal option.value
    else (if bytes_eq option.word follow_word then follow_taken said option.word said.follow option.value
    else (if bytes_eq option.word status_word then status_taken said option.word said.status option.value
    else (if bytes_eq option.word watch_word then watch_taken said option.word said.watch option.value
    else log_taken said (form_of option.word) said.log)))

abbrev known_wrong : Bool → Stated → Option Wrong
known_wrong before option = if before then Some (StandsTwice (option_of option.word)) else wrong_value option

abbrev TakesIt : List Stated → Option (List ℕ) → List ℕ → Type 0
TakesIt before value word =
    known_taken (said_by before) (record { word = word; value = value })
    ≡ said_unless (known_wrong (stands (option_of word) before) (record { word = word; value = value }))
    (with (said_by before) (record { word = word; value = value }))

journal_one : (journal follow : Option (List ℕ)) (log : Option LogForm) (status : Option SocketAddr) (watch : Option ℕ)
    (value : Option (List ℕ))
    → journal_taken (record { journal = journal; follow = follow; log = log; status = status; watch = watch }) journal_word journal value
    ≡ said_unless (if is_some journal then Some (StandsTwice journal_word) else wrong_file journal_word value) (record {
      journal = option_or journal value;
      follow = option_or follow None;
      log = option_or log None;
      status = option_or status None;
      watch = option_or watch None;
    })
journal_one (Some before) follow log status watch value = refl
journal_one None follow log status watch None = refl
journal_one None follow log status watch (Some file) = rw (none_more follow, none_more log, none_more status, none_more watch) refl

follow_one : (journal follow : Option (List ℕ)) (log : Option LogForm) (status : Option SocketAddr) (watch : Option ℕ)
    (value : Option (List ℕ))
    → follow_taken (record { journal = journal; follow = follow; log = log; status = status; watch = watch }) follow_word follow value
    ≡ said_unless (if is_some follow then Some (StandsTwice follow_word) else wrong_file follow_word value) (record {
      journal = option_or journal None;
      follow = option_or follow value;
      log = option_or log None;
      status = option_or status None;
      watch = option_or watch None;
    })
follow_one journal (Some before) log status watch value = refl
follow_one journal None log status watch None = refl
follow_one journal None log status watch (Some file) = rw (none_more journal, none_more log, none_more status, none_more watch) refl

log_one : (form : LogForm) (journal follow : Option (List ℕ)) (log : Option LogForm) (status : Option SocketAddr) (watch : Option ℕ)
    → log_taken (record { journal = journal; follow = follow; log = log; status = status; watch = watch }) form log
    ≡ said_unless (if is_some log then Some (StandsTwice log_word) else None) (record {
      journal = option_or journal None;
      follow = option_or follow None;
      log = option_or log (Some form);
      status = option_or status None;
      watch = option_or watch None;
    })
log_one form journal follow (Some before) status watch = refl
log_one form journal follow None status watch =
    rw (none_more journal, none_more follow, none_more status, none_more watch) refl

status_read : (journal follow : Option (List ℕ)) (log : Option LogForm) (watch : Option ℕ) (read : Option SocketAddr)
    → status_at (record { journal = journal; follow = follow; log = log; status = None; watch = watch }) read
    ≡ said_unless (if is_none read then Some NoAddress else None) (record {
      journal = option_or journal None;
      follow = option_or follow None;
      log = option_or log None;
      status = read;
      watch = option_or watch None;
    })
status_read journal follow log watch None = refl
status_read journal follow log watch (Some address) = rw (none_more journal, none_more follow, none_more log, none_more watch) refl

status_one : (journal follow : Option (List ℕ)) (log : Option LogForm) (status : Option SocketAddr) (watch : Option ℕ)
    (value : Option (List ℕ))
    → status_taken (record { journal = journal; follow = follow; log = log; status = status; watch = watch }) status_word status value
    ≡ said_unless (if is_some status then Some (StandsTwice status_word) else wrong_address status_word value) (record {
      journal = option_or journal None;
      follow = option_or follow None;
      log = option_or log None;
      status = option_or status (option_and_then listen_address_of value);
      watch = option_or watch None;
    })
status_one journal follow log (Some before) watch value = refl
status_one journal follow log None watch None = refl
status_one journal follow log None watch (Some written) = status_read journal follow log watch (listen_address_of written)

watch_read : (journal follow : Option (List ℕ)) (log : Option LogForm) (status : Option SocketAddr) (read : Option ℕ)
    → watch_each (record { journal = journal; follow = follow; log = log; status = status; watch = None }) read
    ≡ said_unless (if is_none read then Some NeedsSeconds else None) (record {
      journal = option_or journal None;
      follow = option_or follow None;
      log = option_or log None;
      status = option_or status None;
      watch = read;
    })
watch_read journal follow log status None = refl
watch_read journal follow log status (Some seconds) = rw (none_more journal, none_more follow, none_more log, none_more status) refl

watch_one : (journal follow : Option (List ℕ)) (log : Option LogForm) (status : Option SocketAddr) (watch : Option ℕ)
    (value : Option (List ℕ))
    → watch_taken (record { journal = journal; follow = follow; log = log; status = status; watch = watch }) watch_word watch value
    ≡ said_unless (if is_some watch then Some (StandsTwice watch_word) else wrong_pause value) (record {
      journal = option_or journal None;
      follow = option_or follow None;
      log = option_or log None;
      status = option_or status None;
      watch = option_or watch (option_and_then pause_of value);
    })
watch_one journal follow log status (Some before) value = refl
watch_one journal follow log status None None = refl
watch_one journal follow log status None (Some written) = watch_read journal follow log status (pause_of written)

takes_journal : (before : List Stated) (value : Option (List ℕ)) → whole before ≡ true → TakesIt before value journal_word
takes_journal before value h =
    journal_one (first_said journal_in before) (first_said follow_in before) (first_said log_in before) (first_said status_in before)
    (first_said watch_in before) value
    ∙ ap (λ b. said_unless (known_wrong b (record { word = journal_word; value = value }))
    (with (said_by before) (record { word = journal_word; value = value }))) (first_given journal_in journal_word journal_says before h)

takes_follow : (before : List Stated) (value : Option (List ℕ)) → whole before ≡ true → TakesIt before value follow_word
takes_follow before value h =
    follow_one (first_said journal_in before) (first_said follow_in before) (first_said log_in before) (first_said status_in before)
    (first_said watch_in before) value
    ∙ ap (λ b. said_unless (known_wrong b (record { word = follow_word; value = value }))
    (with (said_by before) (record { word = follow_word; value = value }))) (first_given follow_in follow_word follow_says before h)

takes_log : (before : List Stated) (value : Option (List ℕ)) → whole before ≡ true → TakesIt before value log_word
takes_log before value h =
    log_one (form_of log_word) (first_said journal_in before) (first_said follow_in before) (first_said log_in before)
    (first_said status_in before) (first_said watch_in before)
    ∙ ap (λ b. said_unless (known_wrong b (record { word = log_word; value = value }))
    (with (said_by before) (record { word = log_word; value = value }))) (first_given log_in log_word log_says before h)

takes_json : (before : List Stated) (value : Option (List ℕ)) → whole before ≡ true → TakesIt before value json_word
takes_json before value h =
    log_one (form_of json_word) (first_said journal_in before) (first_said follow_in before) (first_said log_in before)
    (first_said status_in before) (first_said watch_in before)
    ∙ ap (λ b. said_unless (known_wrong b (record { word = json_word; value = value }))
    (with (said_by before) (record { word = json_word; value = value }))) (first_given log_in log_word log_says before h)

takes_status : (before : List Stated) (value : Option (List ℕ)) → whole before ≡ true → TakesIt before value status_word
takes_status before value h =
    status_one (first_said journal_in before) (first_said follow_in before) (first_said log_in before) (first_said status_in before)
    (first_said watch_in before) value
    ∙ ap (λ b. said_unless (known_wrong b (record { word = status_word; value = value }))
    (with (said_by before) (record { word = status_word; value = value }))) (first_given status_in status_word status_says before h)

takes_watch : (before : List Stated) (value : Option (List ℕ)) → whole before ≡ true → TakesIt before value watch_word
takes_watch before value h =
    watch_one (first_said journal_in before) (first_said follow_in before) (first_said log_in before) (first_said status_in before)
    (first_said watch_in before) value
    ∙ ap (λ b. said_unless (known_wrong b (record { word = watch_word; value = value }))
    (with (said_by before) (record { word = watch_word; value = value }))) (first_given watch_in watch_word watch_says before h)

-- what holds of each of some words
abbrev Each : (List ℕ → Type 0) → List (List ℕ) → Type 0
Each Holds [] = Unit {0}
Each Holds (name ∷ names) = Holds name × Each Holds names

one_of : (Holds : List ℕ → Type 0) (word : List ℕ) (names : List (List ℕ)) → Each Holds names → list_any (bytes_eq word) names ≡ true
    → Holds word
one_of Holds word [] each is = absurd (cc)
one_of Holds word (name ∷ names) each is = by (bytes_eq word name) refl is (λ among. one_of Holds word names each.1 among)
  where
    by : (b : Bool) → bytes_eq word name ≡ b → (b || list_any (bytes_eq word) names) ≡ true
        → (list_any (bytes_eq word) names ≡ true → Holds word) → Holds word
    by true e some rest = subst Holds (sym ((bytes_eq-Decides word name).0 e)) each.0
    by false e some rest = rest some

takes_others : (before : List Stated) (value : Option (List ℕ)) → whole before ≡ true
    → Each (TakesIt before value) (log_word ∷ json_word ∷ status_word ∷ watch_word ∷ [])
takes_others before value h =
    (takes_log before value h, (takes_json before value h, (takes_status before value h, (takes_watch before value h, tt))))

takes_each : (known : Known) (before : List Stated) (value : Option (List ℕ)) → whole before ≡ true
    → Each (TakesIt before value) (names_of known)
takes_each All before value h = (takes_journal before value h, (takes_follow before value h, takes_others before value h))
takes_each Journal before value h = (takes_journal before value h, tt)

if_known : (b : Bool) (word : List ℕ) (taken : Result Said Wrong) (wrong : Option Wrong) (said : Said)
    → (b ≡ true → taken ≡ said_unless wrong said)
    → (if not b then Err (UnknownOption word) else taken) ≡ said_unless (if not b then Some (UnknownOption word) else wrong) said
if_known true word taken wrong said is = is refl
if_known false word taken wrong said is = refl

one_is : (known : Known) (before : List Stated) (option : Stated) → whole before ≡ true
    → taken_one known (said_by before) option ≡ said_unless (wrong_behind known before option) (said_by (before ++ option ∷ []))
one_is known before option h =
    if_known (list_any (bytes_eq option.word) (names_of known)) option.word (known_taken (said_by before) option)
    (known_wrong (stands (option_of option.word) before) option) (with (said_by before) option)
    (one_of (TakesIt before option.value) option.word (names_of known) (takes_each known before option.value h))
    ∙ ap (said_unless (wrong_behind known before option)) (said_more before option)

-- ---- all of them

right_value : (known stands : Bool) (unknown twice : Wrong) (wrong : Option Wrong)
    → (if not known then Some unknown else (if stands then Some twice else wrong)) ≡ None → is_none wrong ≡ true
right_value known stands unknown twice None h = refl
right_value false stands unknown twice (Some wrong) h = absurd (cc)
right_value true true unknown twice (Some wrong) h = absurd (cc)
right_value true false unknown twice (Some wrong) h = absurd (cc)

whole_more : (known : Known) (before : List Stated) (option : Stated) → whole before ≡ true → wrong_behind known before option ≡ None
    → whole (before ++ option ∷ []) ≡ true
whole_more known before option h none =
    let right = right_value (list_any (bytes_eq option.word) (names_of known)) (stands (option_of option.word) before)
    (UnknownOption option.word) (StandsTwice (option_of option.word)) (wrong_value option) none in
    list_all-append (λ o. is_none (wrong_value o)) before (option ∷ []) ∙ rw (h, right) refl

joined : (known : Known) (before rest : List Stated) (option : Stated) (wrong : Option Wrong)
    → taken_one known (said_by before) option ≡ said_unless wrong (said_by (before ++ option ∷ []))
    → (wrong ≡ None → taken_all known (said_by (before ++ option ∷ [])) rest
    ≡ said_unless (first_wrong known (before ++ option ∷ []) rest) (said_by ((before ++ option ∷ []) ++ rest)))
    → onward (λ more. taken_all known more rest) (taken_one known (said_by before) option)
    ≡ said_unless (option_or wrong (first_wrong known (before ++ option ∷ []) rest)) (said_by (before ++ option ∷ rest))
joined known before rest option None one next =
    ap (onward (λ more. taken_all known more rest)) one ∙ next refl
    ∙ ap (λ all. said_unless (first_wrong known (before ++ option ∷ []) rest) (said_by all)) (append_assoc before (option ∷ []) rest)
joined known before rest option (Some wrong) one next = ap (onward (λ more. taken_all known more rest)) one

taken_is : (known : Known) (before rest : List Stated) → whole before ≡ true
    → taken_all known (said_by before) rest ≡ said_unless (first_wrong known before rest) (said_by (before ++ rest))
taken_is known before [] h = ap (λ all. Ok (said_by all)) (sym (append-nil before))
taken_is known before (option ∷ rest) h =
    joined known before rest option (wrong_behind known before option) (one_is known before option h)
    (λ none. taken_is known (before ++ option ∷ []) rest (whole_more known before option h none))

-- all of them, from none on
pub all_taken : (known : Known) (words : List (List ℕ))
    → taken_all known (record { journal = None; follow = None; log = None; status = None; watch = None }) (stated words) ≡ options_in known words
all_taken known words = taken_is known [] (stated words) refl
