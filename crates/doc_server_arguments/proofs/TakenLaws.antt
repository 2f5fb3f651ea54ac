-- What is said with one option more.
use Rattle.std.proofs.Common.{◌≡◌, ℕ, List, [], ◌∷◌, Bool, true, false, Option, Some, None, Ok, Err, refl, ap, ◌∙◌, bytes_eq}
use Rattle.std.specs.Prelude.{Result, if◌then◌else◌}
use Rattle.std.specs.List.{list_any}
use Rattle.std.proofs.lemmas.Slice.Eq.{bytes_eq-Decides}
use Rattle.std.specs.declared.net.socket_addr.SocketAddr.{SocketAddr}
use Rattle.doc_server_arguments.specs.declared.log_form.LogForm.{LogForm}
use Rattle.doc_server_arguments.specs.declared.options.Known.{Known}
use Rattle.doc_server_arguments.specs.declared.options.Known.TheVariants.{All, Journal}
use Rattle.doc_server_arguments.specs.Addresses.{listen_address_of}
use Rattle.doc_server_arguments.specs.Options.{Said, follow_word, form_of, journal_word, json_word, log_word, names_of, stated, status_word, takes_value, watch_word}
use Rattle.doc_server_arguments.specs.Numbers.{pause_of}
use Rattle.doc_server_arguments.specs.OptionSteps.{address_and, address_behind, file_behind, log_taken, onward, pause_and, pause_behind, status_at, taken_all, watch_each}
use Rattle.doc_server_arguments.specs.Usage.{Wrong, NoAddress, NeedsAddress, NeedsSeconds, StandsTwice, UnknownOption}

-- an option that the command doesn't have
pub unknown_more : (known : Known) (said : Said) (word : List ℕ) (words : List (List ℕ)) → list_any (bytes_eq word) (names_of known) ≡ false
    → Err (UnknownOption word) ≡ taken_all known said (stated (word ∷ words))
unknown_more known said word [] unknown = rw unknown refl
unknown_more known said word (next ∷ words) unknown = by (takes_value word)
  where
    by : (b : Bool) → Err (UnknownOption word)
        ≡ taken_all known said (if b then record { word = word; value = Some next } ∷ stated words
        else record { word = word; value = None } ∷ stated (next ∷ words))
    by true = rw unknown refl
    by false = rw unknown refl

isnt : (word name : List ℕ) → (word ≡ name → ⊥) → bytes_eq word name ≡ false
isnt word name other = by (bytes_eq word name) refl
  where
    by : (b : Bool) → bytes_eq word name ≡ b → b ≡ false
    by true e = absurd (other ((bytes_eq-Decides word name).0 e))
    by false e = refl

-- a word that is none of the six that options have
pub none_of_six : (known : Known) (said : Said) (word : List ℕ) (words : List (List ℕ)) → (word ≡ journal_word → ⊥)
    → (word ≡ follow_word → ⊥) → (word ≡ log_word → ⊥) → (word ≡ json_word → ⊥) → (word ≡ status_word → ⊥) → (word ≡ watch_word → ⊥)
    → Err (UnknownOption word) ≡ taken_all known said (stated (word ∷ words))
none_of_six All said word words j f l n s w =
    unknown_more All said word words
    (rw (
      isnt word journal_word j,
      isnt word follow_word f,
      isnt word log_word l,
      isnt word json_word n,
      isnt word status_word s,
      isnt word watch_word w,
    ) refl)
none_of_six Journal said word words j f l n s w = unknown_more Journal said word words (rw (isnt word journal_word j) refl)

same_wrong : {A : Type 0} (a b : Wrong) → ◌≡◌ {A = Result A Wrong} (Err a) (Err b) → a ≡ b
same_wrong a b e = cc

-- a word of the log, of a command that has more options than the journal's
pub log_more : (known : Known) (said : Said) (word : List ℕ) (words : List (List ℕ)) (more : Said) → (known ≡ Journal → ⊥)
    → word ≡ log_word
    → Ok more ≡ log_taken said (form_of log_word) said.log
    → taken_all known more (stated words) ≡ taken_all known said (stated (word ∷ words))
log_more Journal said word words more others is taken = absurd (others refl)
log_more All said word [] more others is taken = ap (onward (λ next. Ok next)) taken ∙ rw is refl
log_more All said word (next ∷ words) more others is taken =
    ap (onward (λ said. taken_all All said (stated (next ∷ words)))) taken ∙ rw is refl

pub json_more : (known : Known) (said : Said) (word : List ℕ) (words : List (List ℕ)) (more : Said) → (known ≡ Journal → ⊥)
    → word ≡ json_word
    → Ok more ≡ log_taken said (form_of json_word) said.log
    → taken_all known more (stated words) ≡ taken_all known said (stated (word ∷ words))
json_more Journal said word words more others is taken = absurd (others refl)
json_more All said word [] more others is taken = ap (onward (λ next. Ok next)) taken ∙ rw is refl
json_more All said word (next ∷ words) more others is taken =
    ap (onward (λ said. taken_all All said (stated (next ∷ words)))) taken ∙ rw is refl

-- the address that was found, and the words behind it
abbrev address_in : Result (SocketAddr × List (List ℕ)) Wrong → Option SocketAddr
address_in (Ok found) = Some found.0
address_in (Err wrong) = None

abbrev rest_in : Result (SocketAddr × List (List ℕ)) Wrong → List (List ℕ)
rest_in (Ok found) = found.1
rest_in (Err wrong) = []

status_found : (journal follow : Option (List ℕ)) (log : Option LogForm) (watch : Option ℕ) (read : Option SocketAddr)
    (words : List (List ℕ)) (address : SocketAddr) (rest : List (List ℕ)) → Ok (address, rest) ≡ address_and read words
    → taken_all All (record { journal = journal; follow = follow; log = log; status = Some address; watch = watch }) (stated rest)
    ≡ onward (λ more. taken_all All more (stated words))
    (status_at (record { journal = journal; follow = follow; log = log; status = None; watch = watch }) read)
status_found journal follow log watch None words address rest found = absurd (cc)
status_found journal follow log watch (Some read) words address rest found =
    ap (λ result. taken_all All (record { journal = journal; follow = follow; log = log; status = address_in result; watch = watch })
    (stated (rest_in result))) found

-- an address found behind the option, of a command that has more options than the journal's
pub status_more : (known : Known) (journal follow : Option (List ℕ)) (log : Option LogForm) (status : Option SocketAddr) (watch : Option ℕ)
    (word : List ℕ) (words : List (List ℕ)) (address : SocketAddr) (rest : List (List ℕ)) → (known ≡ Journal → ⊥)
    → word ≡ status_word
    → Ok (address, rest) ≡ address_behind word status words
    → taken_all known (record { journal = journal; follow = follow; log = log; status = Some address; watch = watch }) (stated rest)
    ≡ taken_all known (record { journal = journal; follow = follow; log = log; status = status; watch = watch }) (stated (word ∷ words))
status_more Journal journal follow log status watch word words address rest more is found = absurd (more refl)
status_more All journal follow log (Some before) watch word words address rest more is found = absurd (cc)
status_more All journal follow log None watch word [] address rest more is found = absurd (cc)
status_more All journal follow log None watch word (written ∷ words) address rest more is found =
    status_found journal follow log watch (listen_address_of written) words address rest found ∙ rw is refl

status_unread : (said : Said) (read : Option SocketAddr) (words rest : List (List ℕ)) (wrong : Wrong)
    → ◌≡◌ {A = Result (SocketAddr × List (List ℕ)) Wrong} (Err wrong) (address_and read words)
    → Err wrong ≡ onward (λ more. taken_all All more (stated rest)) (status_at said read)
status_unread said None words rest wrong found = ap (λ w. Err w) (same_wrong wrong NoAddress found)
status_unread said (Some read) words rest wrong found = absurd (cc)

-- no address found behind the option
pub status_wrong : (known : Known) (journal follow : Option (List ℕ)) (log : Option LogForm) (status : Option SocketAddr) (watch : Option ℕ)
    (word : List ℕ) (words : List (List ℕ)) (wrong : Wrong) → (known ≡ Journal → ⊥)
    → word ≡ status_word
    → ◌≡◌ {A = Result (SocketAddr × List (List ℕ)) Wrong} (Err wrong) (address_behind word status words)
    → Err wrong
    ≡ taken_all known (record { journal = journal; follow = follow; log = log; status = status; watch = watch }) (stated (word ∷ words))
status_wrong Journal journal follow log status watch word words wrong more is found = absurd (more refl)
status_wrong All journal follow log (Some before) watch word [] wrong more is found =
    ap (λ w. Err w) (same_wrong wrong (StandsTwice word) found) ∙ rw is refl
status_wrong All journal follow log (Some before) watch word (next ∷ words) wrong more is found =
    ap (λ w. Err w) (same_wrong wrong (StandsTwice word) found) ∙ rw is refl
status_wrong All journal follow log None watch word [] wrong more is found =
    ap (λ w. Err w) (same_wrong wrong (NeedsAddress word) found) ∙ rw is refl
status_wrong All journal follow log None watch word (written ∷ words) wrong more is found =
    status_unread (record { journal = journal; follow = follow; log = log; status = None; watch = watch }) (listen_address_of written) words
    words wrong found
    ∙ rw is refl

-- the file that was found, and the words behind it
abbrev file_in : Result (List ℕ × List (List ℕ)) Wrong → Option (List ℕ)
file_in (Ok found) = Some found.0
file_in (Err wrong) = None

abbrev left_in : Result (List ℕ × List (List ℕ)) Wrong → List (List ℕ)
left_in (Ok found) = found.1
left_in (Err wrong) = []

-- a file found behind the option of the journal that is followed, of a command that has more options than the journal's
pub follow_more : (known : Known) (journal follow : Option (List ℕ)) (log : Option LogForm) (status : Option SocketAddr) (watch : Option ℕ)
    (word : List ℕ) (words : List (List ℕ)) (file : List ℕ) (rest : List (List ℕ)) → (known ≡ Journal → ⊥)
    → word ≡ follow_word
    → Ok (file, rest) ≡ file_behind word follow words
    → taken_all known (record { journal = journal; follow = Some file; log = log; status = status; watch = watch }) (stated rest)
    ≡ taken_all known (record { journal = journal; follow = follow; log = log; status = status; watch = watch }) (stated (word ∷ words))
follow_more Journal journal follow log status watch word words file rest more is found = absurd (more refl)
follow_more All journal (Some before) log status watch word words file rest more is found = absurd (cc)
follow_more All journal None log status watch word [] file rest more is found = absurd (cc)
follow_more All journal None log status watch word (next ∷ words) file rest more is found =
    ap (λ result. taken_all All (record { journal = journal; follow = file_in result; log = log; status = status; watch = watch })
    (stated (left_in result))) found ∙ rw is refl

-- the seconds that were found
abbrev pause_in : Result (ℕ × List (List ℕ)) Wrong → Option ℕ
pause_in (Ok found) = Some found.0
pause_in (Err wrong) = None

abbrev behind_in : Result (ℕ × List (List ℕ)) Wrong → List (List ℕ)
behind_in (Ok found) = found.1
behind_in (Err wrong) = []

watch_found : (journal follow : Option (List ℕ)) (log : Option LogForm) (status : Option SocketAddr) (read : Option ℕ)
    (words : List (List ℕ)) (seconds : ℕ) (rest : List (List ℕ)) → Ok (seconds, rest) ≡ pause_and read words
    → taken_all All (record { journal = journal; follow = follow; log = log; status = status; watch = Some seconds }) (stated rest)
    ≡ onward (λ more. taken_all All more (stated words))
    (watch_each (record { journal = journal; follow = follow; log = log; status = status; watch = None }) read)
watch_found journal follow log status None words seconds rest found = absurd (cc)
watch_found journal follow log status (Some read) words seconds rest found =
    ap (λ result. taken_all All (record { journal = journal; follow = follow; log = log; status = status; watch = pause_in result })
    (stated (behind_in result))) found

-- seconds found behind the option, of a command that has more options than the journal's
pub watch_more : (known : Known) (journal follow : Option (List ℕ)) (log : Option LogForm) (status : Option SocketAddr) (watch : Option ℕ)
    (word : List ℕ) (words : List (List ℕ)) (seconds : ℕ) (rest : List (List ℕ)) → (known ≡ Journal → ⊥)
    → word ≡ watch_word
    → Ok (seconds, rest) ≡ pause_behind word watch words
    → taken_all known (record { journal = journal; follow = follow; log = log; status = status; watch = Some seconds }) (stated rest)
    ≡ taken_all known (record { journal = journal; follow = follow; log = log; status = status; watch = watch }) (stated (word ∷ words))
watch_more Journal journal follow log status watch word words seconds rest more is found = absurd (more refl)
watch_more All journal follow log status (Some before) word words seconds rest more is found = absurd (cc)
watch_more All journal follow log status None word [] seconds rest more is found = absurd (cc)
watch_more All journal follow log status None word (written ∷ words) seconds rest more is found =
    watch_found journal follow log status (pause_of written) words seconds rest found ∙ rw is refl

watch_unread : (said : Said) (read : Option ℕ) (words rest : List (List ℕ)) (wrong : Wrong)
    → ◌≡◌ {A = Result (ℕ × List (List ℕ)) Wrong} (Err wrong) (pause_and read words)
    → Err wrong ≡ onward (λ more. taken_all All more (stated rest)) (watch_each said read)
watch_unread said None words rest wrong found = ap (λ w. Err w) (same_wrong wrong NeedsSeconds found)
watch_unread said (Some read) words rest wrong found = absurd (cc)

-- no seconds found behind the option
pub watch_wrong : (known : Known) (journal follow : Option (List ℕ)) (log : Option LogForm) (status : Option SocketAddr) (watch : Option ℕ)
    (word : List ℕ) (words : List (List ℕ)) (wrong : Wrong) → (known ≡ Journal → ⊥)
    → word ≡ watch_word
    → ◌≡◌ {A = Result (ℕ × List (List ℕ)) Wrong} (Err wrong) (pause_behind word watch words)
    → Err wrong
    ≡ taken_all known (record { journal = journal; follow = follow; log = log; status = status; watch = watch }) (stated (word ∷ words))
watch_wrong Journal journal follow log status watch word words wrong more is found = absurd (more refl)
watch_wrong All journal follow log status (Some before) word [] wrong more is found =
    ap (λ w. Err w) (same_wrong wrong (StandsTwice word) found) ∙ rw is refl
watch_wrong All journal follow log status (Some before) word (next ∷ words) wrong more is found =
    ap (λ w. Err w) (same_wrong wrong (StandsTwice word) found) ∙ rw is refl
watch_wrong All journal follow log status None word [] wrong more is found =
    ap (λ w. Err w) (same_wrong wrong NeedsSeconds found) ∙ rw is refl
watch_wrong All journal follow log status None word (written ∷ words) wrong more is found =
    watch_unread (record { journal = journal; follow = follow; log = log; status = status; watch = None }) (pause_of written) words words
    wrong found
    ∙ rw is refl
