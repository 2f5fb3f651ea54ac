-- What in a configuration may be meant otherwise, as far as its document tells it. The order is that of the faults.
use Rattle.std.specs.Prelude.{ℕ, ◌+◌, List, [], ◌∷◌, ◌++◌, Bool, false, ◌||◌, ◌==◌, codes, length, nat_le, Option, Some, None, option_map}
use Rattle.std.specs.Prelude.{if◌then◌else◌}
use Rattle.std.specs.FinMap as map
use Rattle.std.specs.List.{flat_map}
use Rattle.toml.specs.Data.{Data, Items, no_items, item, Members, get, get_member}
use Rattle.doc_store_readers.specs.Keys.{key_in}
use Rattle.doc_store_readers.specs.Readers.{groups_at, owner_at}
use Rattle.doc_store_readers.specs.declared.keys.Key.{Key}
use Rattle.doc_store_readers.specs.declared.keys.Key.TheVariants as keys
use Rattle.doc_server_config.specs.PageRows.{path_at}
use Rattle.doc_server_lint_faults.specs.declared.finding.Finding.{Finding}
use Rattle.doc_server_lint_faults.specs.declared.place.Place.{Place}
use Rattle.doc_server_lint_faults.specs.declared.place.Place.TheVariants.{Document, Reader, Page, Folder}
use Rattle.doc_server_lint_faults.specs.declared.what.What.{What}
use Rattle.doc_server_lint_faults.specs.declared.what.What.TheVariants.{ShortToken, ClearToken, NoReaders, NoOwner, Covers, Unheld}
use Rattle.doc_server_lint.specs.Faults.{Rows, row_of, with_row}
use Rattle.doc_server_lint_faults.specs.TableFaults.{finding_of, rows_at}
use Rattle.doc_server_lint_faults.specs.RowPlaces.{count_items}
use Rattle.doc_server_lint_faults.specs.Rules.{names_of, top_keys, known_reader_keys, page_keys}
use Rattle.doc_server_lint_faults.specs.Unknown.{unknown_in, unknown_keys}
use Rattle.doc_server_lint_faults.specs.Values.{told}

-- ---- readers

-- whether a reader is an owner, where what says so is good
abbrev pub is_owner : Option Bool → Bool
is_owner None = false
is_owner (Some owner) = owner

abbrev pub has_owner : Items → Bool
has_owner no_items = false
has_owner (item row rest) = is_owner (owner_at (get (codes "owner") row)) || has_owner rest

-- without an owner nobody edits the site
abbrev pub owners_warning : Items → Option What
owners_warning rows = if count_items rows == 0 then Some NoReaders else told NoOwner (has_owner rows)

-- 22 characters of 64 are 132 bits
abbrev pub clear_token : List ℕ → What
clear_token token = if nat_le 22 (length token) then ClearToken else ShortToken

abbrev pub token_warning : Option Key → Option What
token_warning None = None
token_warning (Some (keys.Token token)) = Some (clear_token token)
token_warning (Some (keys.Digest digest)) = None

abbrev pub warnings_of_reader : ℕ → Data → List Finding
warnings_of_reader n row =
    unknown_in false (Reader n) (names_of known_reader_keys) row
    ++ finding_of false (Reader n) (Some (codes "token")) (token_warning (key_in row))

abbrev pub warnings_of_readers : ℕ → Items → List Finding
warnings_of_readers n no_items = []
warnings_of_readers n (item row rest) = warnings_of_reader n row ++ warnings_of_readers (n + 1) rest

-- ---- groups that nobody has

-- the groups of a value, where it is good
abbrev pub good_groups : Option (List (List ℕ)) → List (List ℕ)
good_groups None = []
good_groups (Some names) = names

abbrev pub groups_of : Data → List (List ℕ)
groups_of row = good_groups (groups_at (get (codes "groups") row))

-- the rows that have a text, and this one, which has these
abbrev pub with_texts : Rows → List (List ℕ) → ℕ → Rows
with_texts rows [] n = rows
with_texts rows (text ∷ texts) n = with_texts (map.insert rows text n) texts n

abbrev pub with_groups : Rows → ℕ → Items → Rows
with_groups held n no_items = held
with_groups held n (item row rest) = with_groups (with_texts held (groups_of row) n) (n + 1) rest

abbrev pub guest_groups : Option Data → List (List ℕ)
guest_groups None = []
guest_groups (Some browse) = good_groups (groups_at (get (codes "guest") browse))

-- the groups that a reader or a guest has
abbrev pub held_groups : Members → Rows
held_groups document =
    with_texts (with_groups map.empty 1 (rows_at (codes "reader") document)) (guest_groups (get_member (codes "browse") document)) 0

abbrev pub unheld_group : Rows → Place → List ℕ → List Finding
unheld_group held place name =
    if map.contains_key held name then [] else finding_of false place (Some (codes "groups")) (Some (Unheld name))

abbrev pub unheld_groups : Rows → Place → Data → List Finding
unheld_groups held place row = flat_map (unheld_group held place) (groups_of row)

-- ---- pages and folders

-- what is told of a page, beside the paths of those before it
abbrev pub warnings_of_page : Rows → Rows → ℕ → Data → List Finding
warnings_of_page held paths n row =
    unknown_in false (Page n) (names_of page_keys) row
    ++ unheld_groups held (Page n) row
    ++ finding_of false (Page n) (Some (codes "path")) (option_map Covers (row_of paths (path_at (get (codes "path") row))))

abbrev pub warnings_of_pages : Rows → Rows → ℕ → Items → List Finding
warnings_of_pages held paths n no_items = []
warnings_of_pages held paths n (item row rest) =
    warnings_of_page held paths n row ++ warnings_of_pages held (with_row paths (path_at (get (codes "path") row)) n) (n + 1) rest

abbrev pub warnings_of_folders : Rows → ℕ → Items → List Finding
warnings_of_folders held n no_items = []
warnings_of_folders held n (item row rest) = unheld_groups held (Folder n) row ++ warnings_of_folders held (n + 1) rest

-- ---- the document

abbrev pub warnings_of_rows : Rows → Members → List Finding
warnings_of_rows held document =
    warnings_of_readers 1 (rows_at (codes "reader") document)
    ++ warnings_of_pages held map.empty 1 (rows_at (codes "page") document)
    ++ warnings_of_folders held 1 (rows_at (codes "folder") document)

abbrev pub warnings_of : Members → List Finding
warnings_of document =
    unknown_keys false Document (names_of top_keys) document
    ++ finding_of false Document None (owners_warning (rows_at (codes "reader") document))
    ++ warnings_of_rows (held_groups document) document
