-- The page or the folder for which a document is refused is the first of which a fault is told.
use Rattle.std.proofs.Common.{◌≡◌, ◌+◌, ℕ, List, [], ◌∷◌, ◌++◌, Bool, true, false, is_some, is_ok, codes, refl, ap, sym, ◌∙◌}
use Rattle.std.specs.Prelude.{Option, Some, None, Result, Ok, Err, if◌then◌else◌}
use Rattle.std.specs.Option.{option_or}
use Rattle.toml.specs.Data.{Data, Items, no_items, item, Members, as_table, get_member}
use Rattle.doc_page_parts.proofs.Bools.{clash}
use Rattle.doc_store_readers.specs.declared.readers.ReadersError.{ReadersError}
use Rattle.doc_store_readers.specs.Readers.{ReaderTable, readers_of_document, tables_at}
use Rattle.doc_server_config.specs.declared.bounds.Bounds.{Bounds}
use Rattle.doc_server_config.specs.declared.config.ConfigError.{ConfigError}
use Rattle.doc_server_config.specs.declared.config.ConfigError.TheVariants.{BadPage}
use Rattle.doc_server_config.specs.declared.config.SiteConfig.{SiteConfig}
use Rattle.doc_server_config.specs.declared.folder.Folder.{Folder}
use Rattle.doc_server_config.specs.declared.folder.FolderFault.{FolderFault}
use Rattle.doc_server_config.specs.declared.listening.Listening.{Listening}
use Rattle.doc_server_config.specs.declared.listening.ListeningError.{ListeningError}
use Rattle.doc_server_config.specs.declared.listening.ListeningError.TheVariants.{BadFolder, BadListen, BadName}
use Rattle.doc_server_config.specs.declared.page_row.PageRow.{PageRow}
use Rattle.doc_server_config.specs.Bounds.{bounds_at, bounds_in, bounds_of_table, bounds_with, connections_at, idle_seconds_at}
use Rattle.doc_server_config.specs.Bounds.{bounds_keys, follow_millis_at, media_bytes_at, request_seconds_at, stranger_seconds_at}
use Rattle.doc_server_config.specs.Configurations.{config_of_document, with_pages, with_readers, with_settings}
use Rattle.doc_server_config.specs.Folders.{folder_of, folders_from}
use Rattle.doc_server_config.specs.Listenings.{listening_of_document, unless_named, with_bounds, with_folders, with_tables}
use Rattle.doc_server_config.specs.Keys.{has_only}
use Rattle.doc_server_config.specs.PageRows.{page_of, pages_from}
use Rattle.doc_server_config.specs.ReaderNames.{bad_name_in}
use Rattle.doc_server_config.specs.Settings.{settings_in}
use Rattle.doc_server_lint_faults.specs.declared.finding.Finding.{Finding}
use Rattle.doc_server_lint_faults.specs.declared.place.Place.{Place}
use Rattle.doc_server_lint_faults.specs.declared.place.Place.TheVariants as place
use Rattle.doc_server_lint.specs.Faults.{faults_of}
use Rattle.doc_server_lint_faults.specs.TableFaults.{faults_of_closed, faults_of_folders, faults_of_held, faults_of_keys, faults_of_page}
use Rattle.doc_server_lint_faults.specs.TableFaults.{faults_of_pages}
use Rattle.doc_server_lint.specs.Faults.{faults_of_readers, faults_of_rows, faults_of_tables, nobody_known}
use Rattle.doc_server_lint_faults.specs.TableFaults.{rows_at, rows_of}
use Rattle.doc_server_lint.specs.Findings.{findings_of}
use Rattle.doc_server_lint.specs.Laws.{first_refusal, is_of_folder, is_of_page}
use Rattle.doc_server_lint_faults.specs.Rules.{browse_keys, folder_keys, listen_keys, markdown_keys, top_keys}
use Rattle.doc_server_lint.specs.Warnings.{warnings_of}
use Rattle.doc_server_lint.proofs.ClearRows.{folder_clear, page_clear}
use Rattle.doc_server_lint.proofs.FirstSteps.{IsOff, closed_at, first_append, first_here, held_at, keys_at_place, no_pages, no_readers}
use Rattle.doc_server_lint.proofs.FirstSteps.{none_of_clear, none_there, page_at}

-- the first of those that pass a test of places
abbrev first : (Place → Bool) → List Finding → Option Place
first test found = first_refusal (λ finding. test finding.place) found

-- ---- pages

bad_page : (m n : ℕ) → ◌≡◌ {A = Result (List PageRow) ConfigError} (Err (BadPage m)) (Err (BadPage n)) → m ≡ n
bad_page m n is = cc

bad_page_told : (found : List PageRow) (n : ℕ) (rows : Items) (m : ℕ) → pages_from found n rows ≡ Err (BadPage m)
    → first is_of_page (faults_of_pages n rows) ≡ Some (place.Page m)
bad_page_told found n no_items m is = cc
bad_page_told found n (item row rest) m is =
    by (page_of row) refl (λ page. bad_page_told (found ++ page ∷ []) (n + 1) rest m) is
  where
    here : is_some (page_of row) ≡ false → n ≡ m → first is_of_page (faults_of_pages n (item row rest)) ≡ Some (place.Page m)
    here bad same =
        first_append (λ finding. is_of_page finding.place) (faults_of_page n row) (faults_of_pages (n + 1) rest)
        ∙ ap (λ one. option_or one (first is_of_page (faults_of_pages (n + 1) rest)))
        (first_here is_of_page (place.Page n) (faults_of_page n row) refl (page_at n row) (page_clear n row ∙ bad))
        ∙ ap (λ k. Some (place.Page k)) same

    behind : is_some (page_of row) ≡ true → first is_of_page (faults_of_pages (n + 1) rest) ≡ Some (place.Page m)
        → first is_of_page (faults_of_pages n (item row rest)) ≡ Some (place.Page m)
    behind good more =
        first_append (λ finding. is_of_page finding.place) (faults_of_page n row) (faults_of_pages (n + 1) rest)
        ∙ ap (λ one. option_or one (first is_of_page (faults_of_pages (n + 1) rest)))
        (none_of_clear (λ finding. is_of_page finding.place) (faults_of_page n row) (page_clear n row ∙ good))
        ∙ more

    by : (page : Option PageRow) → page_of row ≡ page
        → ((page : PageRow) → pages_from (found ++ page ∷ []) (n + 1) rest ≡ Err (BadPage m)
        → first is_of_page (faults_of_pages (n + 1) rest) ≡ Some (place.Page m))
        → elim page as (λ _. Result (List PageRow) ConfigError) [
          | None ↦ Err (BadPage n)
          | Some page ↦ pages_from (found ++ page ∷ []) (n + 1) rest
        ] ≡ Err (BadPage m)
        → first is_of_page (faults_of_pages n (item row rest)) ≡ Some (place.Page m)
    by None eq more is = here (ap is_some eq) (bad_page n m is)
    by (Some page) eq more is = behind (ap is_some eq) (more page is)

-- ---- folders

bad_folder : (m n : ℕ) (a b : FolderFault) → ◌≡◌ {A = Result (List Folder) ListeningError} (Err (BadFolder m a)) (Err (BadFolder n b))
    → m ≡ n
bad_folder m n a b is = cc

bad_folder_told : (found : List Folder) (n : ℕ) (rows : Items) (m : ℕ) (fault : FolderFault)
    → folders_from found n rows ≡ Err (BadFolder m fault)
    → first is_of_folder (faults_of_folders n rows) ≡ Some (place.Folder m)
bad_folder_told found n no_items m fault is = cc
bad_folder_told found n (item row rest) m fault is =
    by (folder_of row) refl (λ folder. bad_folder_told (found ++ folder ∷ []) (n + 1) rest m fault) is
  where
    here : is_ok (folder_of row) ≡ false → n ≡ m → first is_of_folder (faults_of_folders n (item row rest)) ≡ Some (place.Folder m)
    here bad same =
        first_append (λ finding. is_of_folder finding.place) (faults_of_closed (place.Folder n) folder_keys row) (faults_of_folders
        (n + 1) rest)
        ∙ ap (λ one. option_or one (first is_of_folder (faults_of_folders (n + 1) rest)))
        (first_here is_of_folder (place.Folder n) (faults_of_closed (place.Folder n) folder_keys row) refl
        (closed_at (place.Folder n) folder_keys row) (folder_clear n row ∙ bad))
        ∙ ap (λ k. Some (place.Folder k)) same

    behind : is_ok (folder_of row) ≡ true → first is_of_folder (faults_of_folders (n + 1) rest) ≡ Some (place.Folder m)
        → first is_of_folder (faults_of_folders n (item row rest)) ≡ Some (place.Folder m)
    behind good more =
        first_append (λ finding. is_of_folder finding.place) (faults_of_closed (place.Folder n) folder_keys row) (faults_of_folders
        (n + 1) rest)
        ∙ ap (λ one. option_or one (first is_of_folder (faults_of_folders (n + 1) rest)))
        (none_of_clear (λ finding. is_of_folder finding.place) (faults_of_closed (place.Folder n) folder_keys row) (folder_clear n row
        ∙ good))
        ∙ more

    by : (folder : Result Folder FolderFault) → folder_of row ≡ folder
        → ((folder : Folder) → folders_from (found ++ folder ∷ []) (n + 1) rest ≡ Err (BadFolder m fault)
        → first is_of_folder (faults_of_folders (n + 1) rest) ≡ Some (place.Folder m))
        → elim folder as (λ _. Result (List Folder) ListeningError) [
          | Err bad ↦ Err (BadFolder n bad)
          | Ok folder ↦ folders_from (found ++ folder ∷ []) (n + 1) rest
        ] ≡ Err (BadFolder m fault)
        → first is_of_folder (faults_of_folders n (item row rest)) ≡ Some (place.Folder m)
    by (Err bad) eq more is = here (ap is_ok eq) (bad_folder n m bad fault is)
    by (Ok folder) eq more is = behind (ap is_ok eq) (more folder is)

-- what a table of bounds is refused for is neither a folder nor a name
abbrev pub is_of_bounds : ListeningError → Bool
is_of_bounds (BadFolder n fault) = false
is_of_bounds (BadName n) = false
is_of_bounds other = true

abbrev are_bounds : Result Bounds ListeningError → Bool
are_bounds (Ok bounds) = true
are_bounds (Err e) = is_of_bounds e

bounds_parts : (a b c d e f : Option ℕ) → are_bounds (bounds_with a b c d e f) ≡ true
bounds_parts None b c d e f = refl
bounds_parts (Some a) None c d e f = refl
bounds_parts (Some a) (Some b) None d e f = refl
bounds_parts (Some a) (Some b) (Some c) None e f = refl
bounds_parts (Some a) (Some b) (Some c) (Some d) None f = refl
bounds_parts (Some a) (Some b) (Some c) (Some d) (Some e) None = refl
bounds_parts (Some a) (Some b) (Some c) (Some d) (Some e) (Some f) = refl

bounds_table : (only : Bool) (bounds : Result Bounds ListeningError) → are_bounds bounds ≡ true
    → are_bounds (if only then bounds else Err BadListen) ≡ true
bounds_table true bounds are = are
bounds_table false bounds are = refl

bounds_held : (held : Option Data) → are_bounds (bounds_at held) ≡ true
bounds_held None = refl
bounds_held (Some value) = by (as_table value)
  where
    by : (table : Option Members) → are_bounds (bounds_of_table table) ≡ true
    by None = refl
    by (Some table) =
        let at : List ℕ → Option Data = λ key. get_member key table in
        bounds_table
        (has_only bounds_keys table)
        (bounds_with (connections_at (at (codes "connections"))) (idle_seconds_at (at (codes "idle_seconds")))
        (media_bytes_at (at (codes "media_bytes"))) (stranger_seconds_at (at (codes "stranger_seconds")))
        (request_seconds_at (at (codes "request_seconds"))) (follow_millis_at (at (codes "follow_millis"))))
        (bounds_parts (connections_at (at (codes "connections"))) (idle_seconds_at (at (codes "idle_seconds")))
        (media_bytes_at (at (codes "media_bytes"))) (stranger_seconds_at (at (codes "stranger_seconds")))
        (request_seconds_at (at (codes "request_seconds"))) (follow_millis_at (at (codes "follow_millis"))))

pub bounds_refused : (document : Members) (e : ListeningError) → bounds_in document ≡ Err e → is_of_bounds e ≡ true
bounds_refused document e is = sym (ap are_bounds is) ∙ bounds_held (get_member (codes "listen") document)

-- ---- the document

-- a document's own keys and its three tables have no rows
module _ (test : Finding → Bool) (document : Members) (off : IsOff test place.Document) (off_markdown : IsOff test place.Markdown)
    (off_listen : IsOff test place.Listen) (off_browse : IsOff test place.Browse) where
  abbrev at : List ℕ → Option Data
  at key = get_member key document

  tables_none : first_refusal test (faults_of_tables document) ≡ None
  tables_none =
      let markdown = none_there test place.Markdown (faults_of_held place.Markdown markdown_keys (at (codes "markdown"))) off_markdown
      (held_at place.Markdown markdown_keys (at (codes "markdown"))) in
      let listen = none_there test place.Listen (faults_of_held place.Listen listen_keys (at (codes "listen"))) off_listen
      (held_at place.Listen listen_keys (at (codes "listen"))) in
      let browse = none_there test place.Browse (faults_of_held place.Browse browse_keys (at (codes "browse"))) off_browse
      (held_at place.Browse browse_keys (at (codes "browse"))) in
      first_append test
      (faults_of_held place.Markdown markdown_keys (at (codes "markdown")) ++ faults_of_held place.Listen listen_keys (at (codes "listen")))
      (faults_of_held place.Browse browse_keys (at (codes "browse")))
      ∙ ap (λ one. option_or one (first_refusal test (faults_of_held place.Browse browse_keys (at (codes "browse")))))
      (first_append test (faults_of_held place.Markdown markdown_keys (at (codes "markdown")))
      (faults_of_held place.Listen listen_keys (at (codes "listen"))))
      ∙ (λ i. option_or (option_or (markdown i) (listen i)) (browse i))

  -- so what the rows tell first is what the document tells first
  pub first_of_rows : (row : Place) → first_refusal test (faults_of_rows document) ≡ Some row
      → first_refusal test (findings_of document) ≡ Some row
  first_of_rows row is =
      let top = none_there test place.Document (faults_of_keys place.Document top_keys at) off
      (keys_at_place place.Document top_keys at) in
      first_append test (faults_of document) (warnings_of document)
      ∙ ap (λ one. option_or one (first_refusal test (warnings_of document)))
      (first_append test (faults_of_keys place.Document top_keys at ++ faults_of_tables document)
      (faults_of_rows document)
      ∙ ap (λ one. option_or one (first_refusal test (faults_of_rows document)))
      (first_append test (faults_of_keys place.Document top_keys at) (faults_of_tables document))
      ∙ (λ i. option_or (option_or (top i) (tables_none i)) (is i)))

same_page : (e : ConfigError) (n : ℕ) → ◌≡◌ {A = Result SiteConfig ConfigError} (Err e) (Err (BadPage n))
    → ◌≡◌ {A = Result (List PageRow) ConfigError} (Err e) (Err (BadPage n))
same_page e n is = cc

pub bad_page_is_told : (document : Members) (n : ℕ) → config_of_document document ≡ Err (BadPage n)
    → first is_of_page (findings_of document) ≡ Some (place.Page n)
bad_page_is_told document n is =
    first_of_rows (λ finding. is_of_page finding.place) document (λ one. ap is_of_page) (λ one. ap is_of_page) (λ one. ap is_of_page)
    (λ one. ap is_of_page) (place.Page n)
    (first_append (λ finding. is_of_page finding.place)
    (faults_of_readers nobody_known 1 (rows_at (codes "reader") document) ++ faults_of_pages 1 (rows_at (codes "page") document))
    (faults_of_folders 1 (rows_at (codes "folder") document))
    ∙ ap (λ one. option_or one (first is_of_page (faults_of_folders 1 (rows_at (codes "folder") document))))
    (first_append (λ finding. is_of_page finding.place) (faults_of_readers nobody_known 1 (rows_at (codes "reader") document))
    (faults_of_pages 1 (rows_at (codes "page") document))
    ∙ (λ i. option_or (no_readers is_of_page (λ m. refl) nobody_known 1 (rows_at (codes "reader") document) i)
    (by_readers (readers_of_document document) is i))))
  where
    by_pages : (settings : _) (readers : ReaderTable) (rows : Items) (found : Result (List PageRow) ConfigError)
        → pages_from [] 1 rows ≡ found → with_pages settings readers found ≡ Err (BadPage n)
        → first is_of_page (faults_of_pages 1 rows) ≡ Some (place.Page n)
    by_pages settings readers rows (Ok found) eq is = cc
    by_pages settings readers rows (Err e) eq is = bad_page_told [] 1 rows n (eq ∙ same_page e n is)

    by_settings : (readers : ReaderTable) (settings : _) (tables : Option Items) → with_settings readers settings tables ≡ Err (BadPage n)
        → first is_of_page (faults_of_pages 1 (rows_of tables)) ≡ Some (place.Page n)
    by_settings readers None tables is = cc
    by_settings readers (Some settings) None is = cc
    by_settings readers (Some settings) (Some rows) is = by_pages settings readers rows (pages_from [] 1 rows) refl is

    by_readers : (readers : Result ReaderTable ReadersError) → with_readers document readers ≡ Err (BadPage n)
        → first is_of_page (faults_of_pages 1 (rows_at (codes "page") document)) ≡ Some (place.Page n)
    by_readers (Err e) is = cc
    by_readers (Ok readers) is = by_settings readers (settings_in document) (tables_at (get_member (codes "page") document)) is

same_folder : (e : ListeningError) (n : ℕ) (fault : FolderFault)
    → ◌≡◌ {A = Result Listening ListeningError} (Err e) (Err (BadFolder n fault))
    → ◌≡◌ {A = Result (List Folder) ListeningError} (Err e) (Err (BadFolder n fault))
same_folder e n fault is = cc

pub bad_folder_is_told : (document : Members) (n : ℕ) (fault : FolderFault) → listening_of_document document ≡ Err (BadFolder n fault)
    → first is_of_folder (findings_of document) ≡ Some (place.Folder n)
bad_folder_is_told document n fault is =
    first_of_rows (λ finding. is_of_folder finding.place) document (λ one. ap is_of_folder) (λ one. ap is_of_folder)
    (λ one. ap is_of_folder) (λ one. ap is_of_folder) (place.Folder n)
    (first_append (λ finding. is_of_folder finding.place)
    (faults_of_readers nobody_known 1 (rows_at (codes "reader") document) ++ faults_of_pages 1 (rows_at (codes "page") document))
    (faults_of_folders 1 (rows_at (codes "folder") document))
    ∙ ap (λ one. option_or one (first is_of_folder (faults_of_folders 1 (rows_at (codes "folder") document))))
    (first_append (λ finding. is_of_folder finding.place) (faults_of_readers nobody_known 1 (rows_at (codes "reader") document))
    (faults_of_pages 1 (rows_at (codes "page") document)))
    ∙ (λ i. option_or (option_or (no_readers is_of_folder (λ m. refl) nobody_known 1 (rows_at (codes "reader") document) i)
    (no_pages is_of_folder (λ m. refl) 1 (rows_at (codes "page") document) i))
    (by_bounds (bounds_in document) refl (by_names (with_bounds document (bounds_in document)) (bad_name_in document) is) i)))
  where
    by_folders : (bounds : _) (rows : Items) (found : Result (List Folder) ListeningError)
        → folders_from [] 1 rows ≡ found → with_folders bounds found ≡ Err (BadFolder n fault)
        → first is_of_folder (faults_of_folders 1 rows) ≡ Some (place.Folder n)
    by_folders bounds rows (Ok found) eq is = cc
    by_folders bounds rows (Err e) eq is = bad_folder_told [] 1 rows n fault (eq ∙ same_folder e n fault is)

    by_tables : (bounds : _) (tables : Option Items) → with_tables bounds tables ≡ Err (BadFolder n fault)
        → first is_of_folder (faults_of_folders 1 (rows_of tables)) ≡ Some (place.Folder n)
    by_tables bounds None is = cc
    by_tables bounds (Some rows) is = by_folders bounds rows (folders_from [] 1 rows) refl is

    refused : (e : ListeningError) → ◌≡◌ {A = Result Listening ListeningError} (Err e) (Err (BadFolder n fault))
        → ◌≡◌ {A = Result Bounds ListeningError} (Err e) (Err (BadFolder n fault))
    refused e is = cc

    by_bounds : (bounds : Result Bounds ListeningError) → bounds_in document ≡ bounds
        → with_bounds document bounds ≡ Err (BadFolder n fault)
        → first is_of_folder (faults_of_folders 1 (rows_at (codes "folder") document)) ≡ Some (place.Folder n)
    by_bounds (Ok bounds) eq is = by_tables bounds (tables_at (get_member (codes "folder") document)) is
    by_bounds (Err e) eq is = absurd (clash false (bounds_refused document (BadFolder n fault) (eq ∙ refused e is)) refl)

    by_names : (listening : Result Listening ListeningError) (bad : Option ℕ) → unless_named listening bad ≡ Err (BadFolder n fault)
        → listening ≡ Err (BadFolder n fault)
    by_names (Err e) bad is = is
    by_names (Ok listening) None is = is
    by_names (Ok listening) (Some row) is = cc
