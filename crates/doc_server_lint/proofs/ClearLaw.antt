-- A document is taken where it is refused for no finding, and only there.
use Rattle.std.proofs.Common.{◌≡◌, ℕ, List, [], ◌∷◌, ◌++◌, Bool, true, false, not, ◌&&◌, is_some, is_ok, codes, refl, ap, sym, ◌∙◌}
use Rattle.std.specs.Prelude.{Option, Some, None, Result, Ok, Err}
use Rattle.std.specs.List.{list_any}
use Rattle.toml.specs.Data.{Data, Items, Members, get_member}
use Rattle.doc_page_parts.proofs.Bools.{and_first, and_second, or_first, or_second, same_bool}
use Rattle.doc_store_readers.specs.declared.readers.ReadersError.{ReadersError}
use Rattle.doc_store_readers.specs.Readers.{ReaderTable, entries_of, entry_of, reader_tables, readers_of_document, readers_of_entries}
use Rattle.doc_store_readers.specs.Readers.{table_of, tables_at}
use Rattle.doc_server_config.specs.Bounds.{bounds_at, bounds_in}
use Rattle.doc_server_config.specs.Browsing.{browse_at}
use Rattle.doc_server_config.specs.Configurations.{with_pages, with_readers, with_settings}
use Rattle.doc_server_config.specs.Folders.{folder_of, folders_from}
use Rattle.doc_server_config.specs.declared.listening.Listening.{Listening}
use Rattle.doc_server_config.specs.declared.listening.ListeningError.{ListeningError}
use Rattle.doc_server_config.specs.Listenings.{unless_named, with_bounds, with_folders, with_tables}
use Rattle.doc_server_config.specs.Markdown.{markdown_at}
use Rattle.doc_server_config.specs.PageRows.{page_of, pages_from}
use Rattle.doc_server_config.specs.ReaderNames.{bad_name_in, bad_name_of, has_good_name}
use Rattle.doc_server_config.specs.Settings.{cache_at, entities_at, keep_alive_at, settings_in, settings_with}
use Rattle.doc_server_lint_faults.specs.declared.finding.Finding.{Finding}
use Rattle.doc_server_lint_faults.specs.declared.place.Place.TheVariants as place
use Rattle.doc_server_lint_faults.specs.declared.rule.Form.TheVariants as form
use Rattle.doc_server_lint_faults.specs.declared.rule.Rule.TheVariants as rule
use Rattle.doc_server_lint.specs.Faults.{faults_of, faults_of_readers}
use Rattle.doc_server_lint_faults.specs.TableFaults.{faults_of_folders, faults_of_held, faults_of_keys, faults_of_pages}
use Rattle.doc_server_lint.specs.Faults.{faults_of_rows}
use Rattle.doc_server_lint.specs.Faults.{faults_of_tables, nobody_known}
use Rattle.doc_server_lint_faults.specs.TableFaults.{rows_at, rows_of}
use Rattle.doc_server_lint.specs.Findings.{findings_of}
use Rattle.doc_server_lint.specs.Laws.{is_clear, is_of_site, is_taken}
use Rattle.doc_server_lint_faults.specs.Rules.{browse_keys, listen_keys, markdown_keys, top_keys}
use Rattle.doc_server_lint_faults.specs.Values.{key_fault}
use Rattle.doc_server_lint.specs.Warnings.{warnings_of}
use Rattle.doc_server_lint.proofs.Clear.{allows, cache_good, clear_append, entities_good, keys_clear, tables_good, told_allows}
use Rattle.doc_server_lint.proofs.ClearReaders.{readers_taken}
use Rattle.doc_server_lint.proofs.ClearRows.{are_fresh, each, folders_clear, folders_taken, names_taken, pages_clear, pages_taken, readers_clear}
use Rattle.doc_server_lint.proofs.ClearTables.{browse_clear, listen_clear, markdown_clear}
use Rattle.doc_server_lint.proofs.ClearWarnings.{warnings_quiet}

-- ---- the parts of a document

keep_alive_good : (held : Option Data) → allows (key_fault rule.Boolean held) ≡ is_some (keep_alive_at held)
keep_alive_good None = refl
keep_alive_good (Some value) = told_allows _ _ refl

settings_parts : (a : Option Bool) (b : Option ℕ) (c : Option (Option (List ℕ))) (d : _)
    → is_some (settings_with a b c d) ≡ (is_some a && (is_some b && (is_some c && is_some d)))
settings_parts None b c d = refl
settings_parts (Some a) None c d = refl
settings_parts (Some a) (Some b) None d = refl
settings_parts (Some a) (Some b) (Some c) None = refl
settings_parts (Some a) (Some b) (Some c) (Some d) = refl

-- rows that are tables, and good ones
abbrev good_rows : (Data → Bool) → Option Items → Bool
good_rows good None = false
good_rows good (Some rows) = each good rows

-- the rows of a key are taken where it holds tables, and its rows are good
rows_split : (good : Data → Bool) (tables : Option Items) → (is_some tables && each good (rows_of tables)) ≡ good_rows good tables
rows_split good None = refl
rows_split good (Some rows) = refl

readers_parts : (tables : Option Items)
    → (is_some tables && (each (λ row. is_some (entry_of row)) (rows_of tables) && are_fresh nobody_known 1 (rows_of tables)))
    ≡ is_ok (table_of (readers_of_entries (entries_of (reader_tables tables))))
readers_parts None = refl
readers_parts (Some rows) = sym (readers_taken rows) ∙ by (readers_of_entries (entries_of (Ok rows)))
  where
    by : (readers : _) → is_ok readers ≡ is_ok (table_of readers)
    by (Ok readers) = refl
    by (Err e) = refl

config_parts : (readers : Result ReaderTable ReadersError) (document : Members)
    → is_ok (with_readers document readers)
    ≡ (is_ok readers && (is_some (settings_in document)
    && good_rows (λ row. is_some (page_of row)) (tables_at (get_member (codes "page") document))))
config_parts (Err e) document = refl
config_parts (Ok readers) document = by (settings_in document) (tables_at (get_member (codes "page") document))
  where
    pages : (settings : _) (found : _) → is_ok (with_pages settings readers found) ≡ is_ok found
    pages settings (Ok found) = refl
    pages settings (Err e) = refl

    by : (settings : _) (tables : Option Items)
        → is_ok (with_settings readers settings tables) ≡ (is_some settings && good_rows (λ row. is_some (page_of row)) tables)
    by None tables = refl
    by (Some settings) None = refl
    by (Some settings) (Some tables) = pages settings (pages_from [] 1 tables) ∙ pages_taken [] 1 tables

listening_parts : (bounds : _) (document : Members)
    → is_ok (with_bounds document bounds)
    ≡ (is_ok bounds && good_rows (λ row. is_ok (folder_of row)) (tables_at (get_member (codes "folder") document)))
listening_parts (Err e) document = refl
listening_parts (Ok bounds) document = by (tables_at (get_member (codes "folder") document))
  where
    folders : (found : _) → is_ok (with_folders bounds found) ≡ is_ok found
    folders (Ok found) = refl
    folders (Err e) = refl

    by : (tables : Option Items) → is_ok (with_tables bounds tables) ≡ good_rows (λ row. is_ok (folder_of row)) tables
    by None = refl
    by (Some tables) = folders (folders_from [] 1 tables) ∙ folders_taken [] 1 tables

names_parts : (tables : Option Items) → each has_good_name (rows_of tables) ≡ not (is_some (bad_name_of tables))
names_parts None = refl
names_parts (Some rows) = sym (names_taken 1 rows)

named_parts : (listening : Result Listening ListeningError) (bad : Option ℕ)
    → is_ok (unless_named listening bad) ≡ (is_ok listening && not (is_some bad))
named_parts (Err e) bad = refl
named_parts (Ok listening) None = refl
named_parts (Ok listening) (Some row) = refl

-- ---- all parts together

both : (a b : Bool) → a ≡ true → b ≡ true → (a && b) ≡ true
both a b is_a is_b = λ i. is_a i && is_b i

-- the parts in the order of the findings, and in that of what is read
abbrev told_in_order : (a c e m4 r5 p6 l7 f8 b9 m l b r p f : Bool) → Bool
told_in_order a c e m4 r5 p6 l7 f8 b9 m l b r p f = (((a && (c && (e && (m4 && (r5 && (p6 && (l7 && (f8 && (b9 && true))))))))) && ((m
    && l) && b)) && ((r && p) && f))

abbrev read_in_order : (a c e m4 r5 p6 l7 f8 b9 m l b r p f : Bool) → Bool
read_in_order a c e m4 r5 p6 l7 f8 b9 m l b r p f = (((r5 && r) && ((a && (c && (e && (m4 && m)))) && (p6 && p))) && (((l7 && l)
    && (f8 && f)) && (b9 && b)))

module _ (a c e m4 r5 p6 l7 f8 b9 m l b r p f : Bool) where
  forth : told_in_order a c e m4 r5 p6 l7 f8 b9 m l b r p f ≡ true → read_in_order a c e m4 r5 p6 l7 f8 b9 m l b r p f ≡ true
  forth h =
      let h0 = and_first ((a && (c && (e && (m4 && (r5 && (p6 && (l7 && (f8 && (b9 && true))))))))) && ((m && l) && b)) ((r && p) && f) h in
      let h1 = and_second ((a && (c && (e && (m4 && (r5 && (p6 && (l7 && (f8 && (b9 && true))))))))) && ((m && l) && b)) ((r && p)
      && f) h in
      let h2 = and_first (a && (c && (e && (m4 && (r5 && (p6 && (l7 && (f8 && (b9 && true))))))))) ((m && l) && b) h0 in
      let h3 = and_second (a && (c && (e && (m4 && (r5 && (p6 && (l7 && (f8 && (b9 && true))))))))) ((m && l) && b) h0 in
      let h4 = and_first a (c && (e && (m4 && (r5 && (p6 && (l7 && (f8 && (b9 && true)))))))) h2 in
      let h5 = and_second a (c && (e && (m4 && (r5 && (p6 && (l7 && (f8 && (b9 && true)))))))) h2 in
      let h6 = and_first c (e && (m4 && (r5 && (p6 && (l7 && (f8 && (b9 && true))))))) h5 in
      let h7 = and_second c (e && (m4 && (r5 && (p6 && (l7 && (f8 && (b9 && true))))))) h5 in
      let h8 = and_first e (m4 && (r5 && (p6 && (l7 && (f8 && (b9 && true)))))) h7 in
      let h9 = and_second e (m4 && (r5 && (p6 && (l7 && (f8 && (b9 && true)))))) h7 in
      let h10 = and_first m4 (r5 && (p6 && (l7 && (f8 && (b9 && true))))) h9 in
      let h11 = and_second m4 (r5 && (p6 && (l7 && (f8 && (b9 && true))))) h9 in
      let h12 = and_first r5 (p6 && (l7 && (f8 && (b9 && true)))) h11 in
      let h13 = and_second r5 (p6 && (l7 && (f8 && (b9 && true)))) h11 in
      let h14 = and_first p6 (l7 && (f8 && (b9 && true))) h13 in
      let h15 = and_second p6 (l7 && (f8 && (b9 && true))) h13 in
      let h16 = and_first l7 (f8 && (b9 && true)) h15 in
      let h17 = and_second l7 (f8 && (b9 && true)) h15 in
      let h18 = and_first f8 (b9 && true) h17 in
      let h19 = and_second f8 (b9 && true) h17 in
      let h20 = and_first b9 true h19 in
      let h21 = and_second b9 true h19 in
      let h22 = and_first (m && l) b h3 in
      let h23 = and_second (m && l) b h3 in
      let h24 = and_first m l h22 in
      let h25 = and_second m l h22 in
      let h26 = and_first (r && p) f h1 in
      let h27 = and_second (r && p) f h1 in
      let h28 = and_first r p h26 in
      let h29 = and_second r p h26 in
      (both ((r5 && r) && ((a && (c && (e && (m4 && m)))) && (p6 && p))) (((l7 && l) && (f8 && f)) && (b9 && b)) (both (r5 && r) ((a
      && (c && (e && (m4 && m)))) && (p6 && p)) (both r5 r h12 h28) (both (a && (c && (e && (m4 && m)))) (p6 && p) (both a (c && (e
      && (m4 && m))) h4 (both c (e && (m4 && m)) h6 (both e (m4 && m) h8 (both m4 m h10 h24)))) (both p6 p h14 h29))) (both ((l7 && l)
      && (f8 && f)) (b9 && b) (both (l7 && l) (f8 && f) (both l7 l h16 h25) (both f8 f h18 h27)) (both b9 b h20 h23)))

  back : read_in_order a c e m4 r5 p6 l7 f8 b9 m l b r p f ≡ true → told_in_order a c e m4 r5 p6 l7 f8 b9 m l b r p f ≡ true
  back h =
      let h0 = and_first ((r5 && r) && ((a && (c && (e && (m4 && m)))) && (p6 && p))) (((l7 && l) && (f8 && f)) && (b9 && b)) h in
      let h1 = and_second ((r5 && r) && ((a && (c && (e && (m4 && m)))) && (p6 && p))) (((l7 && l) && (f8 && f)) && (b9 && b)) h in
      let h2 = and_first (r5 && r) ((a && (c && (e && (m4 && m)))) && (p6 && p)) h0 in
      let h3 = and_second (r5 && r) ((a && (c && (e && (m4 && m)))) && (p6 && p)) h0 in
      let h4 = and_first r5 r h2 in
      let h5 = and_second r5 r h2 in
      let h6 = and_first (a && (c && (e && (m4 && m)))) (p6 && p) h3 in
      let h7 = and_second (a && (c && (e && (m4 && m)))) (p6 && p) h3 in
      let h8 = and_first a (c && (e && (m4 && m))) h6 in
      let h9 = and_second a (c && (e && (m4 && m))) h6 in
      let h10 = and_first c (e && (m4 && m)) h9 in
      let h11 = and_second c (e && (m4 && m)) h9 in
      let h12 = and_first e (m4 && m) h11 in
      let h13 = and_second e (m4 && m) h11 in
      let h14 = and_first m4 m h13 in
      let h15 = and_second m4 m h13 in
      let h16 = and_first p6 p h7 in
      let h17 = and_second p6 p h7 in
      let h18 = and_first ((l7 && l) && (f8 && f)) (b9 && b) h1 in
      let h19 = and_second ((l7 && l) && (f8 && f)) (b9 && b) h1 in
      let h20 = and_first (l7 && l) (f8 && f) h18 in
      let h21 = and_second (l7 && l) (f8 && f) h18 in
      let h22 = and_first l7 l h20 in
      let h23 = and_second l7 l h20 in
      let h24 = and_first f8 f h21 in
      let h25 = and_second f8 f h21 in
      let h26 = and_first b9 b h19 in
      let h27 = and_second b9 b h19 in
      (both ((a && (c && (e && (m4 && (r5 && (p6 && (l7 && (f8 && (b9 && true))))))))) && ((m && l) && b)) ((r && p) && f) (both (a
      && (c && (e && (m4 && (r5 && (p6 && (l7 && (f8 && (b9 && true))))))))) ((m && l) && b) (both a (c && (e && (m4 && (r5 && (p6
      && (l7 && (f8 && (b9 && true)))))))) h8 (both c (e && (m4 && (r5 && (p6 && (l7 && (f8 && (b9 && true))))))) h10 (both e (m4
      && (r5 && (p6 && (l7 && (f8 && (b9 && true)))))) h12 (both m4 (r5 && (p6 && (l7 && (f8 && (b9 && true))))) h14 (both r5 (p6
      && (l7 && (f8 && (b9 && true)))) h4 (both p6 (l7 && (f8 && (b9 && true))) h16 (both l7 (f8 && (b9 && true)) h22 (both f8 (b9
      && true) h24 (both b9 true h26 refl))))))))) (both (m && l) b (both m l h15 h23) h27)) (both (r && p) f (both r p h5 h17) h25))

  sorted : told_in_order a c e m4 r5 p6 l7 f8 b9 m l b r p f ≡ read_in_order a c e m4 r5 p6 l7 f8 b9 m l b r p f
  sorted = same_bool (told_in_order a c e m4 r5 p6 l7 f8 b9 m l b r p f) (read_in_order a c e m4 r5 p6 l7 f8 b9 m l b r p f) forth back

-- names are told among the readers, and read behind the folders
named_behind : (r own name s l b : Bool) → (((r && (own && name)) && s) && (l && b)) ≡ (((r && own) && s) && ((l && name) && b))
named_behind false own name s l b = refl
named_behind true false name s l b = refl
named_behind true true true s true b = refl
named_behind true true true s false b = refl
named_behind true true false false l b = refl
named_behind true true false true true b = refl
named_behind true true false true false b = refl

-- ---- the law

document_clear : (document : Members) → is_clear (faults_of document) ≡ is_taken document
document_clear document =
    let at : List ℕ → Option Data = λ key. get_member key document in
    let keep_alive = keep_alive_good (at (codes "keep_alive")) in
    let cache = cache_good (at (codes "cache")) in
    let entities = entities_good (at (codes "entities")) in
    let readers = tables_good (at (codes "reader")) in
    let pages = tables_good (at (codes "page")) in
    let folders = tables_good (at (codes "folder")) in
    let m4 = allows (key_fault rule.Table (at (codes "markdown"))) in
    let l7 = allows (key_fault rule.Table (at (codes "listen"))) in
    let b9 = allows (key_fault rule.Table (at (codes "browse"))) in
    let keys = keys_clear place.Document top_keys at in
    let markdown = faults_of_held place.Markdown markdown_keys (at (codes "markdown")) in
    let listen = faults_of_held place.Listen listen_keys (at (codes "listen")) in
    let browse = faults_of_held place.Browse browse_keys (at (codes "browse")) in
    let reader_rows = faults_of_readers nobody_known 1 (rows_at (codes "reader") document) in
    let page_rows = faults_of_pages 1 (rows_at (codes "page") document) in
    let folder_rows = faults_of_folders 1 (rows_at (codes "folder") document) in
    let readers_good = readers_clear nobody_known 1 (rows_at (codes "reader") document) in
    let pages_good = pages_clear 1 (rows_at (codes "page") document) in
    let folders_good = folders_clear 1 (rows_at (codes "folder") document) in
    let tables = clear_append (markdown ++ listen) browse ∙ ap (λ x. x && is_clear browse) (clear_append markdown listen) in
    let rows = clear_append (reader_rows ++ page_rows) folder_rows
    ∙ ap (λ x. x && is_clear folder_rows) (clear_append reader_rows page_rows) in
    let top = faults_of_keys place.Document top_keys at in
    clear_append (top ++ faults_of_tables document) (faults_of_rows document)
    ∙ ap (λ x. x && is_clear (faults_of_rows document)) (clear_append top (faults_of_tables document))
    ∙ (λ i. (keys i && tables i) && rows i)
    ∙ sorted (allows (key_fault rule.Boolean (at (codes "keep_alive")))) (allows (key_fault (rule.Integer 4096) (at (codes "cache"))))
    (allows (key_fault (rule.Text form.Any) (at (codes "entities")))) m4 (allows (key_fault rule.Tables (at (codes "reader"))))
    (allows (key_fault rule.Tables (at (codes "page")))) l7 (allows (key_fault rule.Tables (at (codes "folder")))) b9
    (is_clear markdown) (is_clear listen) (is_clear browse) (is_clear reader_rows) (is_clear page_rows) (is_clear folder_rows)
    ∙ (λ i. ((readers i && readers_good i)
    && ((keep_alive i && (cache i && (entities i && markdown_clear (at (codes "markdown")) i))) && (pages i && pages_good i)))
    && ((listen_clear (at (codes "listen")) i && (folders i && folders_good i)) && browse_clear (at (codes "browse")) i))
    ∙ named_behind (is_some (tables_at (at (codes "reader"))))
    (each (λ row. is_some (entry_of row)) (rows_at (codes "reader") document)
    && are_fresh nobody_known 1 (rows_at (codes "reader") document))
    (each has_good_name (rows_at (codes "reader") document))
    ((is_some (keep_alive_at (at (codes "keep_alive"))) && (is_some (cache_at (at (codes "cache")))
    && (is_some (entities_at (at (codes "entities"))) && is_some (markdown_at (at (codes "markdown"))))))
    && (is_some (tables_at (at (codes "page"))) && each (λ row. is_some (page_of row)) (rows_at (codes "page") document)))
    (is_ok (bounds_at (at (codes "listen")))
    && (is_some (tables_at (at (codes "folder"))) && each (λ row. is_ok (folder_of row)) (rows_at (codes "folder") document)))
    (is_ok (browse_at (at (codes "browse"))))
    ∙ (λ i. (readers_parts (tables_at (at (codes "reader"))) i
    && (sym (settings_parts (keep_alive_at (at (codes "keep_alive"))) (cache_at (at (codes "cache"))) (entities_at (at (codes "entities")))
    (markdown_at (at (codes "markdown")))) i && rows_split (λ row. is_some (page_of row)) (tables_at (at (codes "page"))) i))
    && (((is_ok (bounds_at (at (codes "listen"))) && rows_split (λ row. is_ok (folder_of row)) (tables_at (at (codes "folder"))) i)
    && names_parts (tables_at (at (codes "reader"))) i)
    && is_ok (browse_at (at (codes "browse")))))
    ∙ (λ i. sym (config_parts (readers_of_document document) document) i
    && ((sym (listening_parts (bounds_in document) document) i && not (is_some (bad_name_in document)))
    && is_ok (browse_at (at (codes "browse")))))
    ∙ (λ i. is_ok (with_readers document (readers_of_document document))
    && (sym (named_parts (with_bounds document (bounds_in document)) (bad_name_in document)) i && is_ok (browse_at (at (codes "browse")))))

pub taken_is_clear : (document : Members) → is_clear (findings_of document) ≡ is_taken document
taken_is_clear document =
    clear_append (faults_of document) (warnings_of document)
    ∙ (λ i. document_clear document i && warnings_quiet document i)
    ∙ last (is_taken document)
  where
    last : (b : Bool) → (b && true) ≡ b
    last true = refl
    last false = refl

-- without a fault there is no refusal
calm : (found : List Finding) → list_any (λ finding. finding.is_fault) found ≡ false → is_clear found ≡ true
calm [] none = refl
calm (finding ∷ found) none =
    let first = or_first finding.is_fault _ none in
    let rest = calm found (or_second finding.is_fault _ none) in
    (λ i. not (first i && not (is_of_site finding.what)) && rest i)

pub no_fault_is_taken : (document : Members) → list_any (λ finding. finding.is_fault) (findings_of document) ≡ false
    → is_taken document ≡ true
no_fault_is_taken document none = sym (taken_is_clear document) ∙ calm (findings_of document) none
