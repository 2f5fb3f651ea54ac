-- The reader whose row is bad is the first of which a fault is told, but of its name and that an earlier reader has a token.
use Rattle.std.proofs.Common.{◌≡◌, ◌+◌, ℕ, List, [], ◌∷◌, ◌++◌, Bool, true, false, not, ◌&&◌, bytes_eq, is_some, codes, refl, ap, ◌∙◌}
use Rattle.std.specs.Prelude.{Option, Some, None, Result, Ok, Err, option_map, if◌then◌else◌}
use Rattle.std.specs.Option.{option_or}
use Rattle.toml.specs.Data.{Data, Items, no_items, item, Members, as_str, get, get_member}
use Rattle.doc_page_parts.proofs.Bools.{and_false}
use Rattle.doc_store_readers.specs.declared.entries.Entry.{Entry}
use Rattle.doc_store_readers.specs.declared.groups.GroupsError.{GroupsError}
use Rattle.doc_store_readers.specs.declared.groups.GroupsError.TheVariants as refusals
use Rattle.doc_store_readers.specs.declared.readers.ReadersError.{ReadersError}
use Rattle.doc_store_readers.specs.declared.readers.ReadersError.TheVariants.{BadRow, Twice}
use Rattle.doc_store_readers.specs.Groups.{groups_of_names}
use Rattle.doc_store_readers.specs.Keys.{key_in}
use Rattle.doc_store_readers.specs.Readers.{Listed, comes_again, entries_from, entries_of, entry_of, listed_with, none_listed, reader_tables}
use Rattle.doc_store_readers.specs.Readers.{readers_from, readers_of_document}
use Rattle.doc_store_readers.specs.Readers.{readers_of_entries, table_of, tables_at}
use Rattle.doc_server_config.specs.declared.config.ConfigError.TheVariants.{BadReaders}
use Rattle.doc_server_config.specs.Configurations.{config_of_document}
use Rattle.doc_server_lint_faults.specs.declared.finding.Finding.{Finding}
use Rattle.doc_server_lint_faults.specs.declared.place.Place.{Place}
use Rattle.doc_server_lint_faults.specs.declared.place.Place.TheVariants as place
use Rattle.doc_server_lint.specs.declared.known_readers.KnownReaders.{KnownReaders}
use Rattle.doc_server_lint_faults.specs.declared.rule.Form.{Form}
use Rattle.doc_server_lint_faults.specs.declared.rule.Form.TheVariants as form
use Rattle.doc_server_lint_faults.specs.declared.rule.Rule.TheVariants as rule
use Rattle.doc_server_lint_faults.specs.declared.what.What.{What}
use Rattle.doc_server_lint_faults.specs.declared.what.What.TheVariants.{TokenOf}
use Rattle.doc_server_lint.specs.Faults.{faults_of_entry, faults_of_key_again, faults_of_name}
use Rattle.doc_server_lint_faults.specs.TableFaults.{faults_of_folders, faults_of_keys}
use Rattle.doc_server_lint.specs.Faults.{faults_of_reader, faults_of_readers, faults_of_row, known_at}
use Rattle.doc_server_lint_faults.specs.TableFaults.{faults_of_pages, finding_of}
use Rattle.doc_server_lint.specs.Faults.{naming_fault, naming_key, nobody_known, with_reader}
use Rattle.doc_server_lint_faults.specs.TableFaults.{rows_at, rows_of}
use Rattle.doc_server_lint.specs.Findings.{findings_of}
use Rattle.doc_server_lint.specs.Laws.{first_refusal, is_again, is_of_name, is_of_reader}
use Rattle.doc_server_lint_faults.specs.Rules.{name_key, reader_keys}
use Rattle.doc_server_lint_faults.specs.Values.{form_told, group_told, groups_fault, is_form, key_fault, refused_groups, strings_of, text_fault}
use Rattle.doc_server_lint_faults.specs.Values.{told}
use Rattle.doc_server_lint.proofs.ClearRows.{reader_entry}
use Rattle.doc_server_lint.proofs.FirstLaw.{first_of_rows}
use Rattle.doc_server_lint.proofs.FirstReaders.{of_readers, of_table}
use Rattle.doc_server_lint.proofs.FirstSteps.{Each, IsAt, IsOff, each_append, first_append, first_there, keys_each, none_of_clear}
use Rattle.doc_server_lint.proofs.FirstSteps.{none_of_each}

-- whether a finding is a reader's own
abbrev own : Finding → Bool
own finding = is_of_reader finding.place && (not (is_of_name finding.key) && not (is_again finding.what))

-- ---- what isn't told of a key

-- whether it is told that an earlier reader has a token
abbrev tells_again : Option What → Bool
tells_again None = false
tells_again (Some what) = is_again what

told_apart : (what : What) (good : Bool) → is_again what ≡ false → tells_again (told what good) ≡ false
told_apart what true is = refl
told_apart what false is = is

text_apart : (form : Form) (text : Option (List ℕ)) → is_again (form_told form) ≡ false → tells_again (text_fault form text) ≡ false
text_apart form None is = refl
text_apart form (Some text) is = told_apart (form_told form) (is_form form text) is

token_apart : (held : Option Data) → tells_again (key_fault (rule.Text form.Token) held) ≡ false
token_apart None = refl
token_apart (Some value) = text_apart form.Token (as_str value) refl

digest_apart : (held : Option Data) → tells_again (key_fault (rule.Text form.Digest) held) ≡ false
digest_apart None = refl
digest_apart (Some value) = text_apart form.Digest (as_str value) refl

naming_apart : (token digest : Option Data) → tells_again (naming_fault token digest) ≡ false
naming_apart None None = refl
naming_apart (Some token) None = refl
naming_apart None (Some digest) = refl
naming_apart (Some token) (Some digest) = refl

owner_apart : (held : Option Data) → tells_again (key_fault rule.Boolean held) ≡ false
owner_apart None = refl
owner_apart (Some value) = told_apart _ _ refl

groups_apart : (names : Option (List (List ℕ))) → tells_again (groups_fault names) ≡ false
groups_apart None = refl
groups_apart (Some names) = by (groups_of_names names)
  where
    bad : (found : Option (List ℕ)) → is_again (group_told found) ≡ false
    bad None = refl
    bad (Some name) = refl

    by : (groups : Result (List (List ℕ)) GroupsError) → tells_again (refused_groups names groups) ≡ false
    by (Ok groups) = refl
    by (Err refusals.BadGroup) = bad _
    by (Err refusals.TooMany) = refl
    by (Err refusals.Memory) = bad _

held_apart : (held : Option Data) → tells_again (key_fault rule.Groups held) ≡ false
held_apart None = refl
held_apart (Some value) = groups_apart (strings_of value)

-- ---- the first of a reader's own

finding_own : (n : ℕ) (key : List ℕ) (what : Option What) → bytes_eq key (codes "name") ≡ false → tells_again what ≡ false
    → Each (IsAt own (place.Reader n)) (finding_of true (place.Reader n) (Some key) what)
finding_own n key None other is = tt
finding_own n key (Some what) other is = (((λ i. not (other i) && not (is i)), refl), tt)

row_own : (n : ℕ) (row : Data) → Each (IsAt own (place.Reader n)) (faults_of_row n row)
row_own n row =
    each_append (IsAt own (place.Reader n)) (finding_of true (place.Reader n) (Some (codes "token"))
    (naming_fault (get (codes "token") row) (get (codes "token_sha256") row)))
    (faults_of_keys (place.Reader n) reader_keys (λ key. get key row))
    (finding_own n (codes "token") _ refl (naming_apart (get (codes "token") row) (get (codes "token_sha256") row)))
    (keys_each (IsAt own (place.Reader n)) (place.Reader n) reader_keys (λ key. get key row) (
      finding_own n (codes "token") _ refl (token_apart (get (codes "token") row)),
      (
        finding_own n (codes "token_sha256") _ refl (digest_apart (get (codes "token_sha256") row)),
        (
          finding_own n (codes "owner") _ refl (owner_apart (get (codes "owner") row)),
          (finding_own n (codes "groups") _ refl (held_apart (get (codes "groups") row)), tt),
        ),
      ),
    ))

again_apart : (n : ℕ) (key : List ℕ) (earlier : Option ℕ)
    → first_refusal own (finding_of true (place.Reader n) (Some key) (option_map TokenOf earlier)) ≡ None
again_apart n key None = refl
again_apart n key (Some m) = none_of_each own (finding_of true (place.Reader n) (Some key) (Some (TokenOf m)))
    (and_false (not (bytes_eq key (codes "name"))), tt)

name_off : (n : ℕ) (what : Option What)
    → Each (λ finding. own finding ≡ false) (finding_of true (place.Reader n) (Some (codes "name")) what)
name_off n None = tt
name_off n (Some what) = (refl, tt)

module _ (known : KnownReaders) (n : ℕ) (row : Data) (rest : Items) where
  abbrev alone : List Finding
  alone = faults_of_row n row

  abbrev more : List Finding
  more = faults_of_readers (with_reader known (key_in row) n) (n + 1) rest

  reader_first : first_refusal own (faults_of_reader known n row) ≡ option_or (option_or (first_refusal own alone) None) None
  reader_first =
      let again = again_apart n (naming_key (key_in row)) (known_at known (key_in row)) in
      let name = none_of_each own (faults_of_name n row) (name_off n (key_fault name_key.1 (get name_key.0 row))) in
      first_append own (faults_of_entry known n row) (faults_of_name n row)
      ∙ ap (λ one. option_or one (first_refusal own (faults_of_name n row)))
      (first_append own alone (faults_of_key_again known n (key_in row)))
      ∙ (λ i. option_or (option_or (first_refusal own alone) (again i)) (name i))

  own_bad : is_some (entry_of row) ≡ false → first_refusal own (faults_of_readers known n (item row rest)) ≡ Some (place.Reader n)
  own_bad bad =
      first_append own (faults_of_reader known n row) more
      ∙ ap (λ one. option_or one (first_refusal own more))
      (reader_first ∙ ap (λ one. option_or (option_or one None) None) (first_there own (place.Reader n) alone (row_own n row)
      (reader_entry n row ∙ bad)))

  own_good : is_some (entry_of row) ≡ true → first_refusal own (faults_of_readers known n (item row rest)) ≡ first_refusal own more
  own_good good =
      first_append own (faults_of_reader known n row) more
      ∙ ap (λ one. option_or one (first_refusal own more))
      (reader_first ∙ ap (λ one. option_or (option_or one None) None) (none_of_clear own alone (reader_entry n row ∙ good)))

same_row : (m n : ℕ) → ◌≡◌ {A = Result (List Entry) ReadersError} (Err (BadRow m)) (Err (BadRow n)) → m ≡ n
same_row m n is = cc

bad_row_told : (found : List Entry) (known : KnownReaders) (n : ℕ) (rows : Items) (m : ℕ) → entries_from found n rows ≡ Err (BadRow m)
    → first_refusal own (faults_of_readers known n rows) ≡ Some (place.Reader m)
bad_row_told found known n no_items m is = cc
bad_row_told found known n (item row rest) m is =
    by (entry_of row) refl (λ entry. bad_row_told (found ++ entry ∷ []) (with_reader known (key_in row) n) (n + 1) rest m) is
  where
    by : (entry : Option Entry) → entry_of row ≡ entry
        → ((entry : Entry) → entries_from (found ++ entry ∷ []) (n + 1) rest ≡ Err (BadRow m)
        → first_refusal own (faults_of_readers (with_reader known (key_in row) n) (n + 1) rest) ≡ Some (place.Reader m))
        → elim entry as (λ _. Result (List Entry) ReadersError) [
          | None ↦ Err (BadRow n)
          | Some entry ↦ entries_from (found ++ entry ∷ []) (n + 1) rest
        ] ≡ Err (BadRow m)
        → first_refusal own (faults_of_readers known n (item row rest)) ≡ Some (place.Reader m)
    by None eq told is = own_bad known n row rest (ap is_some eq) ∙ ap (λ k. Some (place.Reader k)) (same_row n m is)
    by (Some entry) eq told is = own_good known n row rest (ap is_some eq) ∙ told entry is

-- ---- the document

readers_never : (before : Listed) (k : ℕ) (entries : List Entry) (m : ℕ)
    → readers_from before k entries ≡ Err (BadRow m) → ⊥
readers_never before k [] m is = cc
readers_never before k (entry ∷ rest) m is =
    by (comes_again before entry.key) (readers_never (listed_with before entry.key entry.reader) (k + 1) rest m) is
  where
    by : (b : Bool) → (readers_from (listed_with before entry.key entry.reader) (k + 1) rest ≡ Err (BadRow m) → ⊥)
        → (if b then Err (Twice k) else readers_from (listed_with before entry.key entry.reader) (k + 1) rest) ≡ Err (BadRow m) → ⊥
    by true never is = cc
    by false never is = never is

refused : (e : ReadersError) {m : ℕ} → ◌≡◌ {A = Result Listed ReadersError} (Err e) (Err (BadRow m))
    → ◌≡◌ {A = Result (List Entry) ReadersError} (Err e) (Err (BadRow m))
refused e is = cc

rows_bad : (rows : Items) (m : ℕ) → readers_of_entries (entries_from [] 1 rows) ≡ Err (BadRow m)
    → first_refusal own (faults_of_readers nobody_known 1 rows) ≡ Some (place.Reader m)
rows_bad rows m is = by (entries_from [] 1 rows) refl is
  where
    by : (entries : Result (List Entry) ReadersError) → entries_from [] 1 rows ≡ entries → readers_of_entries entries ≡ Err (BadRow m)
        → first_refusal own (faults_of_readers nobody_known 1 rows) ≡ Some (place.Reader m)
    by (Ok entries) eq is = absurd (readers_never none_listed 1 entries m is)
    by (Err e) eq is = bad_row_told [] nobody_known 1 rows m (eq ∙ refused e is)

off : (place : Place) → is_of_reader place ≡ false → IsOff own place
off place is = λ one at. ap (λ place. is_of_reader place && (not (is_of_name one.key) && not (is_again one.what))) at
    ∙ ap (λ b. b && (not (is_of_name one.key) && not (is_again one.what))) is

pub bad_row_is_told : (document : Members) (n : ℕ) → config_of_document document ≡ Err (BadReaders (BadRow n))
    → first_refusal own (findings_of document) ≡ Some (place.Reader n)
bad_row_is_told document n is =
    let readers = faults_of_readers nobody_known 1 (rows_at (codes "reader") document) in
    let pages = faults_of_pages 1 (rows_at (codes "page") document) in
    let folders = faults_of_folders 1 (rows_at (codes "folder") document) in
    first_of_rows own document (off place.Document refl) (off place.Markdown refl) (off place.Listen refl) (off place.Browse refl)
    (place.Reader n)
    (first_append own (readers ++ pages) folders
    ∙ ap (λ one. option_or one (first_refusal own folders)) (first_append own readers pages
    ∙ ap (λ one. option_or one (first_refusal own pages))
    (by_tables (tables_at (get_member (codes "reader") document)) (of_readers (readers_of_document document) document (BadRow n) is))))
  where
    by_tables : (tables : Option Items) → table_of (readers_of_entries (entries_of (reader_tables tables))) ≡ Err (BadRow n)
        → first_refusal own (faults_of_readers nobody_known 1 (rows_of tables)) ≡ Some (place.Reader n)
    by_tables None is = cc
    by_tables (Some rows) is = rows_bad rows n (of_table (readers_of_entries (entries_from [] 1 rows)) (BadRow n) is)
