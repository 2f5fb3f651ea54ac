-- The options behind the other words of `listen`, `compact` and `lint`.
use Rattle.std.specs.Prelude.{ℕ, List, [], ◌∷◌, ◌++◌, Bool, not, ◌||◌, bytes_eq, codes, Option, Some, None, Result, Ok, Err, is_none}
use Rattle.std.specs.Prelude.{option_and_then, if◌then◌else◌}
use Rattle.std.specs.List.{list_any}
use Rattle.std.specs.Option.{option_or}
use Rattle.std.specs.declared.net.socket_addr.SocketAddr.{SocketAddr}
use Rattle.doc_server_arguments.specs.declared.log_form.LogForm.{LogForm}
use Rattle.doc_server_arguments.specs.declared.log_form.LogForm.TheVariants.{Plain, Json}
use Rattle.doc_server_arguments.specs.declared.options.Known.{Known}
use Rattle.doc_server_arguments.specs.declared.options.Known.TheVariants.{All, Journal}
use Rattle.doc_server_arguments.specs.Addresses.{listen_address_of}
use Rattle.doc_server_arguments.specs.Numbers.{pause_of}
use Rattle.doc_server_arguments.specs.Usage.{Wrong, NoAddress, UnknownOption, StandsTwice, NeedsFile, NeedsAddress, NeedsSeconds}

abbrev pub journal_word : List ℕ
journal_word = codes "--journal"

abbrev pub follow_word : List ℕ
follow_word = codes "--follow"

abbrev pub log_word : List ℕ
log_word = codes "--log"

abbrev pub json_word : List ℕ
json_word = codes "--log=json"

abbrev pub status_word : List ℕ
status_word = codes "--status"

abbrev pub watch_word : List ℕ
watch_word = codes "--watch"

-- the option that a word asks for: that of the log has two words, one for each of its forms
abbrev pub option_of : List ℕ → List ℕ
option_of word = if bytes_eq word json_word then log_word else word

abbrev pub form_of : List ℕ → LogForm
form_of word = if bytes_eq word json_word then Json else Plain

-- the words of the options that a command has
abbrev pub names_of : Known → List (List ℕ)
names_of All = journal_word ∷ follow_word ∷ log_word ∷ json_word ∷ status_word ∷ watch_word ∷ []
names_of Journal = journal_word ∷ []

-- whether a value stands behind the option: a file, an address or seconds
abbrev pub takes_value : List ℕ → Bool
takes_value word = bytes_eq word journal_word || (bytes_eq word follow_word || (bytes_eq word status_word || bytes_eq word watch_word))

-- an option as it stands in a line: its word, and its value
pub record Stated : Type 0 where
  pub word : List ℕ
  pub value : Option (List ℕ)

-- words as options. What stands behind an option that takes a value is that value, whatever it looks like
abbrev pub stated : List (List ℕ) → List Stated
stated [] = []
stated (word ∷ []) = record { word = word; value = None } ∷ []
stated (word ∷ next ∷ rest) =
    if takes_value word then record { word = word; value = Some next } ∷ stated rest
    else record { word = word; value = None } ∷ stated (next ∷ rest)

-- whether an option stands among these
abbrev pub stands : List ℕ → List Stated → Bool
stands name options = list_any (λ option. bytes_eq (option_of option.word) name) options

-- what is wrong with the value of an option that takes a file
abbrev pub wrong_file : List ℕ → Option (List ℕ) → Option Wrong
wrong_file word None = Some (NeedsFile word)
wrong_file word (Some file) = None

-- what is wrong with the value of an option that takes an address
abbrev pub wrong_address : List ℕ → Option (List ℕ) → Option Wrong
wrong_address word None = Some (NeedsAddress word)
wrong_address word (Some written) = if is_none (listen_address_of written) then Some NoAddress else None

-- what is wrong with the value of an option that takes seconds
abbrev pub wrong_pause : Option (List ℕ) → Option Wrong
wrong_pause None = Some NeedsSeconds
wrong_pause (Some written) = if is_none (pause_of written) then Some NeedsSeconds else None

-- what is wrong with the value of an option
abbrev pub wrong_value : Stated → Option Wrong
wrong_value option =
    if bytes_eq option.word journal_word then wrong_file option.word option.value
    else (if bytes_eq option.word follow_word then wrong_file option.word option.value
    else (if bytes_eq option.word status_word then wrong_address option.word option.value
    else (if bytes_eq option.word watch_word then wrong_pause option.value else None)))

-- what is wrong with an option that stands behind these
abbrev pub wrong_behind : Known → List Stated → Stated → Option Wrong
wrong_behind known before option =
    if not (list_any (bytes_eq option.word) (names_of known)) then Some (UnknownOption option.word)
    else (if stands (option_of option.word) before then Some (StandsTwice (option_of option.word)) else wrong_value option)

-- what is wrong with the first of some options that is wrong
abbrev pub first_wrong : Known → List Stated → List Stated → Option Wrong
first_wrong known before [] = None
first_wrong known before (option ∷ rest) =
    option_or (wrong_behind known before option) (first_wrong known (before ++ option ∷ []) rest)

-- what options say: the file of the journal, that of the journal that is followed, how requests are logged, where monitors are answered,
-- and after how many seconds it is looked whether files have changed
pub record Said : Type 0 where
  pub journal : Option (List ℕ)
  pub follow : Option (List ℕ)
  pub log : Option LogForm
  pub status : Option SocketAddr
  pub watch : Option ℕ

-- what one option says of each
abbrev pub journal_in : Stated → Option (List ℕ)
journal_in option = if bytes_eq option.word journal_word then option.value else None

abbrev pub follow_in : Stated → Option (List ℕ)
follow_in option = if bytes_eq option.word follow_word then option.value else None

abbrev pub log_in : Stated → Option LogForm
log_in option = if bytes_eq (option_of option.word) log_word then Some (form_of option.word) else None

abbrev pub status_in : Stated → Option SocketAddr
status_in option = if bytes_eq option.word status_word then option_and_then listen_address_of option.value else None

abbrev pub watch_in : Stated → Option ℕ
watch_in option = if bytes_eq option.word watch_word then option_and_then pause_of option.value else None

-- what the first option that says something of it says
abbrev pub first_said : {X : Type 0} → (Stated → Option X) → List Stated → Option X
first_said said_in [] = None
first_said said_in (option ∷ rest) = option_or (said_in option) (first_said said_in rest)

abbrev pub said_by : List Stated → Said
said_by options = record {
  journal = first_said journal_in options;
  follow = first_said follow_in options;
  log = first_said log_in options;
  status = first_said status_in options;
  watch = first_said watch_in options;
}

abbrev pub said_unless : Option Wrong → Said → Result Said Wrong
said_unless None said = Ok said
said_unless (Some wrong) said = Err wrong

-- what the words behind a command's other words say, or what is wrong with the first option that is wrong
abbrev pub options_in : Known → List (List ℕ) → Result Said Wrong
options_in known words = said_unless (first_wrong known [] (stated words)) (said_by (stated words))
