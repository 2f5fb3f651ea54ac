-- The reader that is refused for its name is the first of whose name a fault is told.
use Rattle.std.proofs.Common.{◌≡◌, ◌+◌, ℕ, List, [], ◌∷◌, ◌++◌, Bool, true, false, not, ◌&&◌, codes, refl, ap, ◌∙◌}
use Rattle.std.specs.Prelude.{Option, Some, None, Result, Ok, Err, if◌then◌else◌}
use Rattle.std.specs.Option.{option_or}
use Rattle.std.proofs.lemmas.Option.{same_Some}
use Rattle.toml.specs.Data.{Data, Items, no_items, item, Members, get, get_member}
use Rattle.doc_page_parts.proofs.Bools.{clash}
use Rattle.doc_store_readers.specs.Keys.{key_in}
use Rattle.doc_store_readers.specs.Readers.{tables_at}
use Rattle.doc_server_config.specs.declared.bounds.Bounds.{Bounds}
use Rattle.doc_server_config.specs.declared.folder.Folder.{Folder}
use Rattle.doc_server_config.specs.declared.folder.FolderFault.{FolderFault}
use Rattle.doc_server_config.specs.declared.listening.Listening.{Listening}
use Rattle.doc_server_config.specs.declared.listening.ListeningError.{ListeningError}
use Rattle.doc_server_config.specs.declared.listening.ListeningError.TheVariants.{BadFolder, BadName}
use Rattle.doc_server_config.specs.Bounds.{bounds_in}
use Rattle.doc_server_config.specs.Folders.{folder_of, folders_from}
use Rattle.doc_server_config.specs.Listenings.{listening_of_document, unless_named, with_bounds, with_folders, with_tables}
use Rattle.doc_server_config.specs.ReaderNames.{bad_name_from, bad_name_in, bad_name_of, has_good_name}
use Rattle.doc_server_lint_faults.specs.declared.finding.Finding.{Finding}
use Rattle.doc_server_lint.specs.declared.known_readers.KnownReaders.{KnownReaders}
use Rattle.doc_server_lint_faults.specs.declared.place.Place.{Place}
use Rattle.doc_server_lint_faults.specs.declared.place.Place.TheVariants as place
use Rattle.doc_server_lint_faults.specs.declared.what.What.{What}
use Rattle.doc_server_lint.specs.Faults.{faults_of_entry, faults_of_name, faults_of_reader}
use Rattle.doc_server_lint_faults.specs.TableFaults.{faults_of_folders, faults_of_pages}
use Rattle.doc_server_lint.specs.Faults.{faults_of_readers, nobody_known, with_reader}
use Rattle.doc_server_lint_faults.specs.TableFaults.{finding_of, rows_at, rows_of}
use Rattle.doc_server_lint.specs.Findings.{findings_of}
use Rattle.doc_server_lint.specs.Laws.{first_refusal, is_of_name, is_of_reader}
use Rattle.doc_server_lint_faults.specs.Rules.{name_key}
use Rattle.doc_server_lint_faults.specs.Values.{key_fault}
use Rattle.doc_server_lint.proofs.ClearRows.{name_clear}
use Rattle.doc_server_lint.proofs.FirstLaw.{bounds_refused, first_of_rows}
use Rattle.doc_server_lint.proofs.FirstReaders.{entry_unnamed, unnamed}
use Rattle.doc_server_lint.proofs.FirstSteps.{Each, IsAt, IsOff, each_map, first_append, first_there, none_of_clear, none_of_each}

-- whether a finding is of a reader's name
abbrev named : Finding → Bool
named finding = is_of_reader finding.place && is_of_name finding.key

-- ---- one reader

apart : (r k : Bool) → (r && not k) ≡ true → (r && k) ≡ false
apart false k is = refl
apart true true is = cc
apart true false is = refl

entry_off : (known : KnownReaders) (n : ℕ) (row : Data) → Each (λ finding. named finding ≡ false) (faults_of_entry known n row)
entry_off known n row =
    each_map (IsAt unnamed (place.Reader n)) (λ finding. named finding ≡ false) (faults_of_entry known n row)
    (λ one is. apart (is_of_reader one.place) (is_of_name one.key) is.0) (entry_unnamed known n row)

name_there : (n : ℕ) (what : Option What) → Each (IsAt named (place.Reader n)) (finding_of true (place.Reader n) (Some (codes "name")) what)
name_there n None = tt
name_there n (Some what) = ((refl, refl), tt)

reader_first : (known : KnownReaders) (n : ℕ) (row : Data)
    → first_refusal named (faults_of_reader known n row) ≡ first_refusal named (faults_of_name n row)
reader_first known n row =
    first_append named (faults_of_entry known n row) (faults_of_name n row)
    ∙ ap (λ one. option_or one (first_refusal named (faults_of_name n row)))
    (none_of_each named (faults_of_entry known n row) (entry_off known n row))

-- ---- all readers

bad_name_told : (known : KnownReaders) (n : ℕ) (rows : Items) (m : ℕ) → bad_name_from n rows ≡ Some m
    → first_refusal named (faults_of_readers known n rows) ≡ Some (place.Reader m)
bad_name_told known n no_items m is = cc
bad_name_told known n (item row rest) m is =
    by (has_good_name row) refl (bad_name_told (with_reader known (key_in row) n) (n + 1) rest m) is
  where
    more : List Finding
    more = faults_of_readers (with_reader known (key_in row) n) (n + 1) rest

    by : (b : Bool) → has_good_name row ≡ b → (bad_name_from (n + 1) rest ≡ Some m → first_refusal named more ≡ Some (place.Reader m))
        → (if b then bad_name_from (n + 1) rest else Some n) ≡ Some m
        → first_refusal named (faults_of_readers known n (item row rest)) ≡ Some (place.Reader m)
    by true good told is =
        first_append named (faults_of_reader known n row) more
        ∙ ap (λ one. option_or one (first_refusal named more))
        (reader_first known n row ∙ none_of_clear named (faults_of_name n row) (name_clear n row ∙ good))
        ∙ told is
    by false bad told is =
        first_append named (faults_of_reader known n row) more
        ∙ ap (λ one. option_or one (first_refusal named more))
        (reader_first known n row
        ∙ first_there named (place.Reader n) (faults_of_name n row) (name_there n (key_fault name_key.1 (get name_key.0 row)))
        (name_clear n row ∙ bad))
        ∙ ap (λ k. Some (place.Reader k)) (same_Some n m is)

-- ---- the document

folders_never : (found : List Folder) (k : ℕ) (rows : Items) (n : ℕ) → folders_from found k rows ≡ Err (BadName n) → ⊥
folders_never found k no_items n is = cc
folders_never found k (item row rest) n is = by (λ folder. folders_never (found ++ folder ∷ []) (k + 1) rest n) (folder_of row) is
  where
    by : ((folder : Folder) → folders_from (found ++ folder ∷ []) (k + 1) rest ≡ Err (BadName n) → ⊥)
        → (folder : Result Folder FolderFault)
        → elim folder as (λ _. Result (List Folder) ListeningError) [
          | Err fault ↦ Err (BadFolder k fault)
          | Ok folder ↦ folders_from (found ++ folder ∷ []) (k + 1) rest
        ] ≡ Err (BadName n) → ⊥
    by behind (Err fault) is = cc
    by behind (Ok folder) is = behind folder is

tables_never : (bounds : Bounds) (tables : Option Items) (n : ℕ) → with_tables bounds tables ≡ Err (BadName n) → ⊥
tables_never bounds None n is = cc
tables_never bounds (Some rows) n is = by (folders_from [] 1 rows) (folders_never [] 1 rows n) is
  where
    by : (found : Result (List Folder) ListeningError) → (found ≡ Err (BadName n) → ⊥) → with_folders bounds found ≡ Err (BadName n) → ⊥
    by (Ok found) never is = cc
    by (Err other) never is = never cc

-- bounds and folders aren't refused for a name
bounds_never : (document : Members) (n : ℕ) → with_bounds document (bounds_in document) ≡ Err (BadName n) → ⊥
bounds_never document n is = by (bounds_in document) refl is
  where
    refused : (e : ListeningError) → ◌≡◌ {A = Result Listening ListeningError} (Err e) (Err (BadName n))
        → ◌≡◌ {A = Result Bounds ListeningError} (Err e) (Err (BadName n))
    refused e is = cc

    by : (bounds : Result Bounds ListeningError) → bounds_in document ≡ bounds → with_bounds document bounds ≡ Err (BadName n) → ⊥
    by (Ok bounds) eq is = tables_never bounds (tables_at (get_member (codes "folder") document)) n is
    by (Err e) eq is = clash false (bounds_refused document (BadName n) (eq ∙ refused e is)) refl

same_row : (m n : ℕ) → ◌≡◌ {A = Result Listening ListeningError} (Err (BadName m)) (Err (BadName n)) → m ≡ n
same_row m n is = cc

of_names : (listening : Result Listening ListeningError) (bad : Option ℕ) (n : ℕ) → (listening ≡ Err (BadName n) → ⊥)
    → unless_named listening bad ≡ Err (BadName n) → bad ≡ Some n
of_names (Err e) bad n never is = absurd (never is)
of_names (Ok listening) None n never is = absurd (never is)
of_names (Ok listening) (Some row) n never is = ap Some (same_row row n is)

off : (place : Place) → is_of_reader place ≡ false → IsOff named place
off place is = λ one at. ap (λ place. is_of_reader place && is_of_name one.key) at ∙ ap (λ b. b && is_of_name one.key) is

pub bad_name_is_told : (document : Members) (n : ℕ) → listening_of_document document ≡ Err (BadName n)
    → first_refusal named (findings_of document) ≡ Some (place.Reader n)
bad_name_is_told document n is =
    let readers = faults_of_readers nobody_known 1 (rows_at (codes "reader") document) in
    let pages = faults_of_pages 1 (rows_at (codes "page") document) in
    let folders = faults_of_folders 1 (rows_at (codes "folder") document) in
    first_of_rows named document (off place.Document refl) (off place.Markdown refl) (off place.Listen refl) (off place.Browse refl)
    (place.Reader n)
    (first_append named (readers ++ pages) folders
    ∙ ap (λ one. option_or one (first_refusal named folders)) (first_append named readers pages
    ∙ ap (λ one. option_or one (first_refusal named pages))
    (by_tables (tables_at (get_member (codes "reader") document))
    (of_names (with_bounds document (bounds_in document)) (bad_name_in document) n (bounds_never document n) is))))
  where
    by_tables : (tables : Option Items) → bad_name_of tables ≡ Some n
        → first_refusal named (faults_of_readers nobody_known 1 (rows_of tables)) ≡ Some (place.Reader n)
    by_tables None is = cc
    by_tables (Some rows) is = bad_name_told nobody_known 1 rows n is
