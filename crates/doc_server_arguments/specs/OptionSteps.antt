-- Options taken one after the other.
use Rattle.std.specs.Prelude.{ℕ, List, [], ◌∷◌, not, bytes_eq, Option, Some, None, option_copied, Result, Ok, Err, String, if◌then◌else◌}
use Rattle.std.specs.Borrow.{Bor}
use Rattle.std.specs.List.{list_any}
use Rattle.std.specs.declared.net.socket_addr.SocketAddr.{SocketAddr}
use Rattle.doc_server_arguments.specs.declared.log_form.LogForm.{LogForm}
use Rattle.doc_server_arguments.specs.declared.options.Known.{Known}
use Rattle.doc_server_arguments.specs.declared.options.Options.{Options}
use Rattle.doc_server_arguments.specs.declared.usage_fault.UsageFault.{UsageFault}
use Rattle.doc_server_arguments.specs.Addresses.{listen_address_of}
use Rattle.doc_server_arguments.specs.Options.{Said, Stated, follow_word, form_of, journal_word, log_word, names_of, stated, status_word, watch_word}
use Rattle.doc_server_arguments.specs.Numbers.{pause_of}
use Rattle.doc_server_arguments.specs.Texts.{texts}
use Rattle.doc_server_arguments.specs.Usage.{Wrong, NoAddress, UnknownOption, StandsTwice, NeedsFile, NeedsAddress, NeedsSeconds, fault_shown}

-- what options say, of those that the code has
abbrev pub said_so_far : Options → Said
said_so_far options = record {
  journal = option_copied options.journal;
  follow = option_copied options.follow;
  log = options.log;
  status = options.status;
  watch = options.watch;
}

abbrev pub shown_options : Result Options UsageFault → Result Said Wrong
shown_options (Ok options) = Ok (said_so_far options)
shown_options (Err fault) = Err (fault_shown fault)

-- a file that the option before which it stands takes, by what an earlier one took: the journal, or the one that is followed
abbrev pub journal_taken : Said → List ℕ → Option (List ℕ) → Option (List ℕ) → Result Said Wrong
journal_taken said word (Some before) file = Err (StandsTwice word)
journal_taken said word None None = Err (NeedsFile word)
journal_taken said word None (Some file) = Ok (record said { journal = Some file })

abbrev pub follow_taken : Said → List ℕ → Option (List ℕ) → Option (List ℕ) → Result Said Wrong
follow_taken said word (Some before) file = Err (StandsTwice word)
follow_taken said word None None = Err (NeedsFile word)
follow_taken said word None (Some file) = Ok (record said { follow = Some file })

-- the log in this form, by what an earlier option said of it
abbrev pub log_taken : Said → LogForm → Option LogForm → Result Said Wrong
log_taken said form (Some before) = Err (StandsTwice log_word)
log_taken said form None = Ok (record said { log = Some form })

-- monitors at an address, once it is read
abbrev pub status_at : Said → Option SocketAddr → Result Said Wrong
status_at said None = Err NoAddress
status_at said (Some address) = Ok (record said { status = Some address })

-- an address that the option before which it stands takes, by what an earlier one took
abbrev pub status_taken : Said → List ℕ → Option SocketAddr → Option (List ℕ) → Result Said Wrong
status_taken said word (Some before) written = Err (StandsTwice word)
status_taken said word None None = Err (NeedsAddress word)
status_taken said word None (Some written) = status_at said (listen_address_of written)

-- looks after so many seconds each, once they are read
abbrev pub watch_each : Said → Option ℕ → Result Said Wrong
watch_each said None = Err NeedsSeconds
watch_each said (Some seconds) = Ok (record said { watch = Some seconds })

-- seconds that the option before which they stand takes, by what an earlier one took
abbrev pub watch_taken : Said → List ℕ → Option ℕ → Option (List ℕ) → Result Said Wrong
watch_taken said word (Some before) written = Err (StandsTwice word)
watch_taken said word None None = Err NeedsSeconds
watch_taken said word None (Some written) = watch_each said (pause_of written)

-- what is said with one option more
abbrev pub taken_one : Known → Said → Stated → Result Said Wrong
taken_one known said option =
    if not (list_any (bytes_eq option.word) (names_of known)) then Err (UnknownOption option.word)
    else (if bytes_eq option.word journal_word then journal_taken said option.word said.journal option.value
    else (if bytes_eq option.word follow_word then follow_taken said option.word said.follow option.value
    else (if bytes_eq option.word status_word then status_taken said option.word said.status option.value
    else (if bytes_eq option.word watch_word then watch_taken said option.word said.watch option.value
    else log_taken said (form_of option.word) said.log))))

-- what a function says of what is said
abbrev pub onward : (Said → Result Said Wrong) → Result Said Wrong → Result Said Wrong
onward next (Ok said) = next said
onward next (Err wrong) = Err wrong

-- what is said with these options more
abbrev pub taken_all : Known → Said → List Stated → Result Said Wrong
taken_all known said [] = Ok said
taken_all known said (option ∷ rest) = onward (λ more. taken_all known more rest) (taken_one known said option)

-- what is said once the words behind an option that was taken are taken too
abbrev pub taken_behind : {A : Type 0} → Known → Result (Options × Bor (List (String A))) UsageFault → Result Said Wrong
taken_behind known (Ok left) = taken_all known (said_so_far left.0) (stated (texts left.1.now))
taken_behind known (Err fault) = Err (fault_shown fault)

-- the file of an option and the words behind it, by what an earlier one took
abbrev pub file_behind : List ℕ → Option (List ℕ) → List (List ℕ) → Result (List ℕ × List (List ℕ)) Wrong
file_behind option (Some before) behind = Err (StandsTwice option)
file_behind option None [] = Err (NeedsFile option)
file_behind option None (file ∷ rest) = Ok (file, rest)

abbrev pub shown_file : {A : Type 0} → Result (Bor (List ℕ) × Bor (List (String A))) UsageFault → Result (List ℕ × List (List ℕ)) Wrong
shown_file (Ok left) = Ok (left.0.now, texts left.1.now)
shown_file (Err fault) = Err (fault_shown fault)

-- an address, once it is read, and the words behind it
abbrev pub address_and : Option SocketAddr → List (List ℕ) → Result (SocketAddr × List (List ℕ)) Wrong
address_and None rest = Err NoAddress
address_and (Some address) rest = Ok (address, rest)

-- the address of an option and the words behind it, by what an earlier one took
abbrev pub address_behind : List ℕ → Option SocketAddr → List (List ℕ) → Result (SocketAddr × List (List ℕ)) Wrong
address_behind option (Some before) behind = Err (StandsTwice option)
address_behind option None [] = Err (NeedsAddress option)
address_behind option None (written ∷ rest) = address_and (listen_address_of written) rest

abbrev pub shown_address : {A : Type 0} → Result (SocketAddr × Bor (List (String A))) UsageFault → Result (SocketAddr × List (List ℕ)) Wrong
shown_address (Ok left) = Ok (left.0, texts left.1.now)
shown_address (Err fault) = Err (fault_shown fault)

-- seconds, once they are read, and the words behind them
abbrev pub pause_and : Option ℕ → List (List ℕ) → Result (ℕ × List (List ℕ)) Wrong
pause_and None rest = Err NeedsSeconds
pause_and (Some seconds) rest = Ok (seconds, rest)

-- the seconds of an option and the words behind it, by what an earlier one took
abbrev pub pause_behind : List ℕ → Option ℕ → List (List ℕ) → Result (ℕ × List (List ℕ)) Wrong
pause_behind option (Some before) behind = Err (StandsTwice option)
pause_behind option None [] = Err NeedsSeconds
pause_behind option None (written ∷ rest) = pause_and (pause_of written) rest

abbrev pub shown_pause : {A : Type 0} → Result (ℕ × Bor (List (String A))) UsageFault → Result (ℕ × List (List ℕ)) Wrong
shown_pause (Ok left) = Ok (left.0, texts left.1.now)
shown_pause (Err fault) = Err (fault_shown fault)
