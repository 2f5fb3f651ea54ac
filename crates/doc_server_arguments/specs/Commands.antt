-- What a line of words asks for: the arguments behind the name of the program.
use Rattle.std.specs.Prelude.{ℕ, List, [], ◌∷◌, Bool, bytes_eq, codes, Option, Some, None, is_some, Result, Ok, Err, ◌&&◌, if◌then◌else◌}
use Rattle.std.specs.declared.net.socket_addr.SocketAddr.{SocketAddr}
use Rattle.doc_server_arguments.specs.declared.log_form.LogForm.{LogForm}
use Rattle.doc_server_arguments.specs.declared.options.Known.TheVariants as known
use Rattle.doc_server_arguments.specs.Addresses.{address_of, listen_address_of}
use Rattle.doc_server_arguments.specs.Numbers.{count_of}
use Rattle.doc_server_arguments.specs.Options.{Said, options_in}
use Rattle.doc_server_arguments.specs.TokenWords.{Given, given_in}
use Rattle.doc_server_arguments.specs.Usage.{Wrong, NoCommand, NoAddress, UnknownOption, JournalAndFollow}

-- what a line may ask for. An address stands as it is written, and as it is read
pub data Asked : Type 0 where
  Demo : Asked
  Render : Asked
  Examples : (file : List ℕ) → Asked
  Check : (config token : List ℕ) → Asked
  Replay : (config : List ℕ) → Asked
  Serve : (config written : List ℕ) (address : SocketAddr) (count turns : ℕ) → Asked
  Listen : (config written : List ℕ) (address : SocketAddr) (journal follow : Option (List ℕ)) (log : Option LogForm)
      (status : Option SocketAddr) (watch : Option ℕ) → Asked
  Compact : (config journal : List ℕ) → Asked
  Folders : (config : List ℕ) → Asked
  Lint : (config : List ℕ) (journal : Option (List ℕ)) → Asked
  Token : (name : List ℕ) (is_owner : Bool) (groups : Option (List ℕ)) → Asked
  TokenHash : Asked
  Version : Asked
  Help : Asked

-- a command behind which nothing stands
abbrev pub alone : Asked → List (List ℕ) → Result Asked Wrong
alone asked [] = Ok asked
alone asked words = Err NoCommand

-- `examples FILE`
abbrev pub examples_in : List (List ℕ) → Result Asked Wrong
examples_in (file ∷ []) = Ok (Examples file)
examples_in words = Err NoCommand

-- `check CONFIG TOKEN`
abbrev pub check_in : List (List ℕ) → Result Asked Wrong
check_in (config ∷ token ∷ []) = Ok (Check config token)
check_in words = Err NoCommand

-- `replay CONFIG`
abbrev pub replay_in : List (List ℕ) → Result Asked Wrong
replay_in (config ∷ []) = Ok (Replay config)
replay_in words = Err NoCommand

-- a command `serve` of which address and numbers are read
abbrev pub serve_with : List ℕ → List ℕ → Option SocketAddr → Option ℕ → Option ℕ → Result Asked Wrong
serve_with config written (Some address) (Some count) (Some turns) = Ok (Serve config written address count turns)
serve_with config written address count turns = Err NoCommand

-- `serve CONFIG ADDR COUNT TURNS`
abbrev pub serve_in : List (List ℕ) → Result Asked Wrong
serve_in (config ∷ written ∷ count ∷ turns ∷ []) =
    serve_with config written (address_of written) (count_of count) (count_of turns)
serve_in words = Err NoCommand

-- a command `listen` of which the options are read. A server has a journal or follows another's, and not both
abbrev pub listen_saying : List ℕ → List ℕ → SocketAddr → Result Said Wrong → Result Asked Wrong
listen_saying config written address (Ok said) =
    if is_some said.journal && is_some said.follow then Err JournalAndFollow
    else Ok (Listen config written address said.journal said.follow said.log said.status said.watch)
listen_saying config written address (Err wrong) = Err wrong

-- the same, of which the address is read
abbrev pub listen_at : List ℕ → List ℕ → Option SocketAddr → List (List ℕ) → Result Asked Wrong
listen_at config written None options = Err NoAddress
listen_at config written (Some address) options = listen_saying config written address (options_in known.All options)

-- `listen CONFIG ADDR [--journal FILE | --follow FILE] [--log | --log=json] [--status ADDR] [--watch SECONDS]`
abbrev pub listen_in : List (List ℕ) → Result Asked Wrong
listen_in (config ∷ written ∷ options) = listen_at config written (listen_address_of written) options
listen_in words = Err NoCommand

-- a command `compact` of which the options are read
abbrev pub compact_saying : List ℕ → Result (Option (List ℕ)) Wrong → Result Asked Wrong
compact_saying config (Ok (Some journal)) = Ok (Compact config journal)
compact_saying config (Ok None) = Err NoCommand
compact_saying config (Err wrong) = Err wrong

-- the journal that options name
abbrev pub journal_said : Result Said Wrong → Result (Option (List ℕ)) Wrong
journal_said (Ok said) = Ok said.journal
journal_said (Err wrong) = Err wrong

-- `compact CONFIG --journal FILE`
abbrev pub compact_in : List (List ℕ) → Result Asked Wrong
compact_in (config ∷ options) = compact_saying config (journal_said (options_in known.Journal options))
compact_in words = Err NoCommand

-- `folders CONFIG`
abbrev pub folders_in : List (List ℕ) → Result Asked Wrong
folders_in (config ∷ []) = Ok (Folders config)
folders_in words = Err NoCommand

-- a command `lint` of which the options are read
abbrev pub lint_saying : List ℕ → Result (Option (List ℕ)) Wrong → Result Asked Wrong
lint_saying config (Ok journal) = Ok (Lint config journal)
lint_saying config (Err wrong) = Err wrong

-- `lint CONFIG [--journal FILE]`
abbrev pub lint_in : List (List ℕ) → Result Asked Wrong
lint_in (config ∷ options) = lint_saying config (journal_said (options_in known.Journal options))
lint_in words = Err NoCommand

-- `token --hash`
abbrev pub hash_in : List (List ℕ) → Result Asked Wrong
hash_in [] = Ok TokenHash
hash_in (word ∷ words) = Err (UnknownOption word)

-- a command `token` of which the options are read
abbrev pub token_saying : List ℕ → Result Given Wrong → Result Asked Wrong
token_saying name (Ok given) = Ok (Token name given.is_owner given.groups)
token_saying name (Err wrong) = Err wrong

-- `token NAME [--owner] [--groups NAMES]`, and `token --hash`
abbrev pub token_in : List (List ℕ) → Result Asked Wrong
token_in [] = Err NoCommand
token_in (name ∷ options) = if bytes_eq name (codes "--hash") then hash_in options else token_saying name (given_in options)

-- what the words behind the name of a command ask for
abbrev pub asked_by : List ℕ → List (List ℕ) → Result Asked Wrong
asked_by name words =
    if bytes_eq name (codes "demo") then alone Demo words
    else (if bytes_eq name (codes "render") then alone Render words
    else (if bytes_eq name (codes "examples") then examples_in words
    else (if bytes_eq name (codes "check") then check_in words
    else (if bytes_eq name (codes "replay") then replay_in words
    else (if bytes_eq name (codes "serve") then serve_in words
    else (if bytes_eq name (codes "listen") then listen_in words
    else (if bytes_eq name (codes "compact") then compact_in words
    else (if bytes_eq name (codes "folders") then folders_in words
    else (if bytes_eq name (codes "lint") then lint_in words
    else (if bytes_eq name (codes "token") then token_in words
    else (if bytes_eq name (codes "--version") then alone Version words
    else (if bytes_eq name (codes "--help") then alone Help words else Err NoCommand))))))))))))

-- what a line asks for, or what is wrong with it: the first fault by the order of its words
abbrev pub command_in : List (List ℕ) → Result Asked Wrong
command_in [] = Err NoCommand
command_in (name ∷ words) = asked_by name words
