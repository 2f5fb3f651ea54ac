-- The reader for which a document is refused is the first of which a fault is told.
use Rattle.std.proofs.Common.{◌≡◌, ◌+◌, ℕ, List, [], ◌∷◌, ◌++◌, Bool, true, false, not, ◌&&◌, bytes_eq, is_some, is_ok, codes, refl, ap, sym, ◌∙◌}
use Rattle.std.proofs.Common.{subst}
use Rattle.std.specs.Prelude.{Option, Some, None, option_map, Result, Ok, Err, if◌then◌else◌}
use Rattle.std.specs.Option.{option_or}
use Rattle.toml.specs.Data.{Data, Items, no_items, item, Members, get, get_member}
use Rattle.doc_page_parts.proofs.Bools.{and_first, and_second, clash}
use Rattle.doc_store_readers.specs.declared.entries.Entry.{Entry}
use Rattle.doc_store_readers.specs.declared.readers.ReadersError.{ReadersError}
use Rattle.doc_store_readers.specs.declared.readers.ReadersError.TheVariants.{BadRow, Twice}
use Rattle.doc_store_readers.specs.declared.keys.Key.{Key}
use Rattle.doc_store_readers.specs.declared.keys.Key.TheVariants.{Token, Digest}
use Rattle.doc_store_readers.specs.Keys.{key_in}
use Rattle.doc_store_readers.specs.Readers.{Listed, ReaderTable, comes_again, entries_from, entries_of, entry_of, groups_at, listed_with}
use Rattle.doc_store_readers.specs.Readers.{none_listed, owner_at, reader_tables}
use Rattle.doc_store_readers.specs.Readers.{readers_from, readers_of_document}
use Rattle.doc_store_readers.specs.Readers.{readers_of_entries, table_of, tables_at}
use Rattle.doc_server_config.specs.declared.config.ConfigError.{ConfigError}
use Rattle.doc_server_config.specs.declared.config.ConfigError.TheVariants.{BadPage, BadReaders}
use Rattle.doc_server_config.specs.declared.page_row.PageRow.{PageRow}
use Rattle.doc_server_config.specs.Configurations.{config_of_document, with_pages, with_readers, with_settings}
use Rattle.doc_server_config.specs.PageRows.{page_of, pages_from}
use Rattle.doc_server_config.specs.Settings.{settings_in}
use Rattle.doc_server_lint_faults.specs.declared.finding.Finding.{Finding}
use Rattle.doc_server_lint_faults.specs.declared.place.Place.{Place}
use Rattle.doc_server_lint_faults.specs.declared.place.Place.TheVariants as place
use Rattle.doc_server_lint.specs.declared.known_readers.KnownReaders.{KnownReaders}
use Rattle.doc_server_lint_faults.specs.declared.what.What.{What}
use Rattle.doc_server_lint_faults.specs.declared.what.What.TheVariants.{TokenOf}
use Rattle.doc_server_lint.specs.Faults.{faults_of_entry, faults_of_key_again, faults_of_name}
use Rattle.doc_server_lint_faults.specs.TableFaults.{faults_of_folders, faults_of_keys}
use Rattle.doc_server_lint.specs.Faults.{faults_of_reader, faults_of_readers, faults_of_row, known_at, known_with}
use Rattle.doc_server_lint_faults.specs.TableFaults.{faults_of_pages, finding_of}
use Rattle.doc_server_lint.specs.Faults.{naming_fault, naming_key, nobody_known, with_reader}
use Rattle.doc_server_lint_faults.specs.TableFaults.{rows_at, rows_of}
use Rattle.doc_server_lint.specs.Findings.{findings_of}
use Rattle.doc_server_lint.specs.Laws.{first_refusal, is_of_name, is_of_reader}
use Rattle.doc_server_lint_faults.specs.Rules.{name_key, reader_keys}
use Rattle.doc_server_lint_faults.specs.Values.{key_fault}
use Rattle.doc_server_lint.proofs.ClearReaders.{AreKnown, comes_known, entries_in, entries_are, entries_taken, is_reader, kept, key_is}
use Rattle.doc_server_lint.proofs.ClearReaders.{none_known, one_more}
use Rattle.doc_server_lint.proofs.ClearRows.{each, entry_clear}
use Rattle.doc_server_lint.proofs.FirstLaw.{first_of_rows}
use Rattle.doc_server_lint.proofs.FirstSteps.{Each, IsAt, IsOff, each_append, first_append, first_there, keys_each, none_of_clear}
use Rattle.doc_server_lint.proofs.FirstSteps.{none_of_each}

-- whether a finding is a reader's, and not of its name
abbrev pub unnamed : Finding → Bool
unnamed finding = is_of_reader finding.place && not (is_of_name finding.key)

-- the first of those
abbrev first : List Finding → Option Place
first found = first_refusal unnamed found

-- ---- all but its name

finding_unnamed : (n : ℕ) (key : List ℕ) (what : Option What) → bytes_eq key (codes "name") ≡ false
    → Each (IsAt unnamed (place.Reader n)) (finding_of true (place.Reader n) (Some key) what)
finding_unnamed n key None is = tt
finding_unnamed n key (Some what) is = ((ap not is, refl), tt)

row_unnamed : (n : ℕ) (row : Data) → Each (IsAt unnamed (place.Reader n)) (faults_of_row n row)
row_unnamed n row =
    each_append (IsAt unnamed (place.Reader n))
    (finding_of true (place.Reader n) (Some (codes "token")) (naming_fault (get (codes "token") row) (get (codes "token_sha256") row)))
    (faults_of_keys (place.Reader n) reader_keys (λ key. get key row))
    (finding_unnamed n (codes "token") (naming_fault (get (codes "token") row) (get (codes "token_sha256") row)) refl)
    (keys_each (IsAt unnamed (place.Reader n)) (place.Reader n) reader_keys (λ key. get key row) (
      finding_unnamed n (codes "token") _ refl,
      (
        finding_unnamed n (codes "token_sha256") _ refl,
        (
          finding_unnamed n (codes "owner") _ refl,
          (finding_unnamed n (codes "groups") _ refl, tt),
        ),
      ),
    ))

naming_unnamed : (key : Option Key) → bytes_eq (naming_key key) (codes "name") ≡ false
naming_unnamed None = refl
naming_unnamed (Some (Token token)) = refl
naming_unnamed (Some (Digest digest)) = refl

pub entry_unnamed : (known : KnownReaders) (n : ℕ) (row : Data) → Each (IsAt unnamed (place.Reader n)) (faults_of_entry known n row)
entry_unnamed known n row =
    each_append (IsAt unnamed (place.Reader n)) (faults_of_row n row) (faults_of_key_again known n (key_in row)) (row_unnamed n row)
    (finding_unnamed n (naming_key (key_in row)) (option_map TokenOf (known_at known (key_in row))) (naming_unnamed (key_in row)))

name_off : (n : ℕ) (what : Option What)
    → Each (λ finding. unnamed finding ≡ false) (finding_of true (place.Reader n) (Some (codes "name")) what)
name_off n None = tt
name_off n (Some what) = (refl, tt)

-- at another place than a reader's there is none
off : (place : Place) → is_of_reader place ≡ false → IsOff unnamed place
off place is = λ one at. ap (λ place. is_of_reader place && not (is_of_name one.key)) at
    ∙ ap (λ b. b && not (is_of_name one.key)) is

-- what is told of the readers that are left, where nothing or something is told of this one
module _ (known : KnownReaders) (n : ℕ) (row : Data) (rest : Items) (m : ℕ) where
  abbrev more : List Finding
  more = faults_of_readers (with_reader known (key_in row) n) (n + 1) rest

  reader_first : first (faults_of_reader known n row) ≡ option_or (first (faults_of_entry known n row)) None
  reader_first =
      first_append unnamed (faults_of_entry known n row) (faults_of_name n row)
      ∙ ap (option_or (first (faults_of_entry known n row)))
      (none_of_each unnamed (faults_of_name n row) (name_off n (key_fault name_key.1 (get name_key.0 row))))

  here : (is_some (entry_of row) && not (is_some (known_at known (key_in row)))) ≡ false → n ≡ m
      → first (faults_of_readers known n (item row rest)) ≡ Some (place.Reader m)
  here bad same =
      first_append unnamed (faults_of_reader known n row) more
      ∙ ap (λ one. option_or one (first more)) (reader_first
      ∙ ap (λ one. option_or one None) (first_there unnamed (place.Reader n) (faults_of_entry known n row) (entry_unnamed known n row)
      (entry_clear known n row ∙ bad)))
      ∙ ap (λ k. Some (place.Reader k)) same

  behind : (is_some (entry_of row) && not (is_some (known_at known (key_in row)))) ≡ true → first more ≡ Some (place.Reader m)
      → first (faults_of_readers known n (item row rest)) ≡ Some (place.Reader m)
  behind good found =
      first_append unnamed (faults_of_reader known n row) more
      ∙ ap (λ one. option_or one (first more)) (reader_first
      ∙ ap (λ one. option_or one None) (none_of_clear unnamed (faults_of_entry known n row) (entry_clear known n row ∙ good)))
      ∙ found

-- whether a row is taken beside the readers before it, by its entry
fresh_row : (before : Listed) (known : KnownReaders) (row : Data) (entry : Entry) (b : Bool) → AreKnown before known
    → entry_of row ≡ Some entry → comes_again before entry.key ≡ b
    → (is_some (entry_of row) && not (is_some (known_at known (key_in row)))) ≡ not b
fresh_row before known row entry b are is found =
    ap (λ one. is_some one && not (is_some (known_at known (key_in row)))) is
    ∙ ap (λ key. not (is_some (known_at known key)))
    (key_is (key_in row) (owner_at (get (codes "owner") row)) (groups_at (get (codes "groups") row)) entry is)
    ∙ ap not (comes_known before known entry.key are ∙ found)

same_row : (m n : ℕ) → ◌≡◌ {A = Result Listed ReadersError} (Err (Twice m)) (Err (Twice n)) → m ≡ n
same_row m n is = cc

-- the readers behind one of an entry
abbrev TwiceIsToldBehind : Listed → ℕ → KnownReaders → Items → ℕ → Type 0
TwiceIsToldBehind before n known rest m =
    (entry : Entry) → AreKnown (listed_with before entry.key entry.reader) (known_with known entry.key n)
    → readers_from (listed_with before entry.key entry.reader) (n + 1) (entries_in rest) ≡ Err (Twice m)
    → first (faults_of_readers (known_with known entry.key n) (n + 1) rest) ≡ Some (place.Reader m)

twice_told : (before : Listed) (n : ℕ) (known : KnownReaders) (rows : Items) (m : ℕ) → AreKnown before known
    → each is_reader rows ≡ true → readers_from before n (entries_in rows) ≡ Err (Twice m)
    → first (faults_of_readers known n rows) ≡ Some (place.Reader m)
twice_told before n known no_items m are all is = cc
twice_told before n known (item row rest) m are all is =
    by (λ entry are is. twice_told (listed_with before entry.key entry.reader) (n + 1) (known_with known entry.key n) rest m are
    (and_second _ _ all) is) (entry_of row) refl is
  where
    key_of_row : (entry : Entry) → entry_of row ≡ Some entry → key_in row ≡ Some entry.key
    key_of_row entry eq = key_is (key_in row) (owner_at (get (codes "owner") row)) (groups_at (get (codes "groups") row)) entry eq

    by_key : TwiceIsToldBehind before n known rest m → (entry : Entry) (b : Bool) → entry_of row ≡ Some entry
        → comes_again before entry.key ≡ b
        → (if b then Err (Twice n) else readers_from (listed_with before entry.key entry.reader) (n + 1) (entries_in rest)) ≡ Err (Twice m)
        → first (faults_of_readers known n (item row rest)) ≡ Some (place.Reader m)
    by_key told entry true eq found is =
        here known n row rest m (fresh_row before known row entry true are eq found) (same_row n m is)
    by_key told entry false eq found is =
        behind known n row rest m (fresh_row before known row entry false are eq found)
        (subst (λ key. first (faults_of_readers (with_reader known key n) (n + 1) rest) ≡ Some (place.Reader m))
        (sym (key_of_row entry eq))
        (told entry (one_more before known entry.key entry.reader n are) is))

    by : TwiceIsToldBehind before n known rest m → (entry : Option Entry) → entry_of row ≡ entry
        → readers_from before n (kept entry (entries_in rest)) ≡ Err (Twice m)
        → first (faults_of_readers known n (item row rest)) ≡ Some (place.Reader m)
    by told None eq is = absurd (clash (is_some (entry_of row)) (and_first _ _ all) (ap is_some eq))
    by told (Some entry) eq is = by_key told entry (comes_again before entry.key) eq refl is

-- ---- the document

-- rows alone are never refused for a token that comes again
never : (found : List Entry) (n : ℕ) (rows : Items) (m : ℕ) → entries_from found n rows ≡ Err (Twice m) → ⊥
never found n no_items m is = cc
never found n (item row rest) m is = by (λ entry. never (found ++ entry ∷ []) (n + 1) rest m) (entry_of row) is
  where
    by : ((entry : Entry) → entries_from (found ++ entry ∷ []) (n + 1) rest ≡ Err (Twice m) → ⊥) → (entry : Option Entry)
        → elim entry as (λ _. Result (List Entry) ReadersError) [
          | None ↦ Err (BadRow n)
          | Some entry ↦ entries_from (found ++ entry ∷ []) (n + 1) rest
        ] ≡ Err (Twice m) → ⊥
    by behind None is = cc
    by behind (Some entry) is = behind entry is

-- what readers are refused for, by their rows
rows_twice : (rows : Items) (m : ℕ) → readers_of_entries (entries_from [] 1 rows) ≡ Err (Twice m)
    → first (faults_of_readers nobody_known 1 rows) ≡ Some (place.Reader m)
rows_twice rows m is = by (each is_reader rows) refl
  where
    refused : (entries : Result (List Entry) ReadersError) → is_ok entries ≡ false → readers_of_entries entries ≡ Err (Twice m)
        → entries ≡ Err (Twice m)
    refused (Ok entries) bad is = cc
    refused (Err e) bad is = cc

    by : (b : Bool) → each is_reader rows ≡ b → first (faults_of_readers nobody_known 1 rows) ≡ Some (place.Reader m)
    by true all =
        twice_told none_listed 1 nobody_known rows m none_known all
        (sym (ap readers_of_entries (entries_are [] 1 rows all)) ∙ is)
    by false bad = absurd (never [] 1 rows m (refused (entries_from [] 1 rows) (entries_taken [] 1 rows ∙ bad) is))

pages_never : (found : List PageRow) (k : ℕ) (rows : Items) (e : ReadersError) → pages_from found k rows ≡ Err (BadReaders e) → ⊥
pages_never found k no_items e is = cc
pages_never found k (item row rest) e is = by (λ page. pages_never (found ++ page ∷ []) (k + 1) rest e) (page_of row) is
  where
    by : ((page : PageRow) → pages_from (found ++ page ∷ []) (k + 1) rest ≡ Err (BadReaders e) → ⊥) → (page : Option PageRow)
        → elim page as (λ _. Result (List PageRow) ConfigError) [
          | None ↦ Err (BadPage k)
          | Some page ↦ pages_from (found ++ page ∷ []) (k + 1) rest
        ] ≡ Err (BadReaders e) → ⊥
    by behind None is = cc
    by behind (Some page) is = behind page is

-- settings and pages aren't refused for readers
settings_never : (readers : ReaderTable) (settings : _) (tables : Option Items) (e : ReadersError)
    → with_settings readers settings tables ≡ Err (BadReaders e) → ⊥
settings_never readers None tables e is = cc
settings_never readers (Some settings) None e is = cc
settings_never readers (Some settings) (Some rows) e is = by (pages_from [] 1 rows) (pages_never [] 1 rows e) is
  where
    by : (found : Result (List PageRow) ConfigError) → (found ≡ Err (BadReaders e) → ⊥)
        → with_pages settings readers found ≡ Err (BadReaders e) → ⊥
    by (Ok found) never is = cc
    by (Err other) never is = never cc

pub of_readers : (readers : Result ReaderTable ReadersError) (document : Members) (e : ReadersError)
    → with_readers document readers ≡ Err (BadReaders e) → readers ≡ Err e
of_readers (Err other) document e is = cc
of_readers (Ok readers) document e is =
    absurd (settings_never readers (settings_in document) (tables_at (get_member (codes "page") document)) e is)

pub of_table : (readers : Result Listed ReadersError) (e : ReadersError) → table_of readers ≡ Err e → readers ≡ Err e
of_table (Ok readers) e is = cc
of_table (Err other) e is = cc

pub twice_is_told : (document : Members) (n : ℕ) → config_of_document document ≡ Err (BadReaders (Twice n))
    → first (findings_of document) ≡ Some (place.Reader n)
twice_is_told document n is =
    first_of_rows unnamed document (off place.Document refl) (off place.Markdown refl) (off place.Listen refl) (off place.Browse refl)
    (place.Reader n)
    (first_append unnamed
    (faults_of_readers nobody_known 1 (rows_at (codes "reader") document) ++ faults_of_pages 1 (rows_at (codes "page") document))
    (faults_of_folders 1 (rows_at (codes "folder") document))
    ∙ ap (λ one. option_or one (first (faults_of_folders 1 (rows_at (codes "folder") document))))
    (first_append unnamed (faults_of_readers nobody_known 1 (rows_at (codes "reader") document))
    (faults_of_pages 1 (rows_at (codes "page") document))
    ∙ ap (λ one. option_or one (first (faults_of_pages 1 (rows_at (codes "page") document))))
    (by_tables (tables_at (get_member (codes "reader") document)) (of_readers (readers_of_document document) document (Twice n) is))))
  where
    by_tables : (tables : Option Items) → table_of (readers_of_entries (entries_of (reader_tables tables))) ≡ Err (Twice n)
        → first (faults_of_readers nobody_known 1 (rows_of tables)) ≡ Some (place.Reader n)
    by_tables None is = cc
    by_tables (Some rows) is = rows_twice rows n (of_table (readers_of_entries (entries_from [] 1 rows)) (Twice n) is)
