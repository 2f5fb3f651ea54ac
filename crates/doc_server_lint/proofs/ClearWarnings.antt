-- A document isn't refused for a warning.
use Rattle.std.proofs.Common.{◌≡◌, ◌+◌, ℕ, List, [], ◌∷◌, ◌++◌, Bool, true, false, ◌&&◌, codes, refl, ◌∙◌}
use Rattle.std.specs.Prelude.{Option, Some, None, option_map, if◌then◌else◌}
use Rattle.std.specs.FinMap as map
use Rattle.std.specs.List.{flat_map}
use Rattle.toml.specs.Data.{Data, Items, no_items, item, Members, get, as_table}
use Rattle.doc_store_readers.specs.Keys.{key_in}
use Rattle.doc_server_config.specs.Keys.{is_one_of, keys_in}
use Rattle.doc_server_config.specs.PageRows.{path_at}
use Rattle.doc_server_lint_faults.specs.declared.finding.Finding.{Finding}
use Rattle.doc_server_lint_faults.specs.declared.place.Place.{Place}
use Rattle.doc_server_lint_faults.specs.declared.place.Place.TheVariants as place
use Rattle.doc_server_lint_faults.specs.declared.what.What.{What}
use Rattle.doc_server_lint_faults.specs.declared.what.What.TheVariants.{Unknown, Unheld, Covers}
use Rattle.doc_server_lint.specs.Faults.{Rows, row_of, with_row}
use Rattle.doc_server_lint_faults.specs.TableFaults.{finding_of, rows_at}
use Rattle.doc_server_lint.specs.Laws.{is_clear}
use Rattle.doc_server_lint_faults.specs.Rules.{known_reader_keys, names_of, page_keys, top_keys}
use Rattle.doc_server_lint_faults.specs.Unknown.{meant, unknown_in, unknown_in_table, unknown_key, unknown_keys}
use Rattle.doc_server_lint.specs.Warnings.{groups_of, held_groups, owners_warning, token_warning, unheld_group, unheld_groups, warnings_of}
use Rattle.doc_server_lint.specs.Warnings.{warnings_of_folders, warnings_of_page, warnings_of_pages, warnings_of_reader}
use Rattle.doc_server_lint.specs.Warnings.{warnings_of_readers, warnings_of_rows}
use Rattle.doc_server_lint.proofs.Clear.{clear_append}

finding_quiet : (place : Place) (key : Option (List ℕ)) (what : Option What) → is_clear (finding_of false place key what) ≡ true
finding_quiet place key None = refl
finding_quiet place key (Some what) = refl

both_quiet : (found more : List Finding) → is_clear found ≡ true → is_clear more ≡ true → is_clear (found ++ more) ≡ true
both_quiet found more a b = clear_append found more ∙ (λ i. a i && b i)

all_quiet : {X : Type 0} (tell : X → List Finding) (xs : List X) → ((x : X) → is_clear (tell x) ≡ true) → is_clear (flat_map tell xs) ≡ true
all_quiet tell [] each = refl
all_quiet tell (x ∷ xs) each = both_quiet (tell x) (flat_map tell xs) (each x) (all_quiet tell xs each)

unknown_quiet : (place : Place) (known : List (List ℕ)) (key : List ℕ) → is_clear (unknown_key false place known key) ≡ true
unknown_quiet place known key = by (is_one_of known key)
  where
    by : (b : Bool)
        → is_clear (if b then []
        else record { place = place; key = Some key; what = Unknown (meant known key); is_fault = false } ∷ []) ≡ true
    by true = refl
    by false = refl

keys_quiet : (place : Place) (known : List (List ℕ)) (table : Members) → is_clear (unknown_keys false place known table) ≡ true
keys_quiet place known table = all_quiet (unknown_key false place known) (keys_in table) (unknown_quiet place known)

row_quiet : (place : Place) (known : List (List ℕ)) (row : Data) → is_clear (unknown_in false place known row) ≡ true
row_quiet place known row = by (as_table row)
  where
    by : (table : Option Members) → is_clear (unknown_in_table false place known table) ≡ true
    by None = refl
    by (Some table) = keys_quiet place known table

reader_quiet : (n : ℕ) (row : Data) → is_clear (warnings_of_reader n row) ≡ true
reader_quiet n row =
    both_quiet (unknown_in false (place.Reader n) (names_of known_reader_keys) row)
    (finding_of false (place.Reader n) (Some (codes "token")) (token_warning (key_in row)))
    (row_quiet (place.Reader n) (names_of known_reader_keys) row)
    (finding_quiet (place.Reader n) (Some (codes "token")) (token_warning (key_in row)))

readers_quiet : (n : ℕ) (rows : Items) → is_clear (warnings_of_readers n rows) ≡ true
readers_quiet n no_items = refl
readers_quiet n (item row rest) =
    both_quiet (warnings_of_reader n row) (warnings_of_readers (n + 1) rest) (reader_quiet n row) (readers_quiet (n + 1) rest)

group_quiet : (held : Rows) (place : Place) (name : List ℕ) → is_clear (unheld_group held place name) ≡ true
group_quiet held place name = by (map.contains_key held name)
  where
    by : (b : Bool) → is_clear (if b then [] else finding_of false place (Some (codes "groups")) (Some (Unheld name))) ≡ true
    by true = refl
    by false = refl

groups_quiet : (held : Rows) (place : Place) (row : Data) → is_clear (unheld_groups held place row) ≡ true
groups_quiet held place row = all_quiet (unheld_group held place) (groups_of row) (group_quiet held place)

page_quiet : (held paths : Rows) (n : ℕ) (row : Data) → is_clear (warnings_of_page held paths n row) ≡ true
page_quiet held paths n row =
    both_quiet (unknown_in false (place.Page n) (names_of page_keys) row ++ unheld_groups held (place.Page n) row) _
    (both_quiet (unknown_in false (place.Page n) (names_of page_keys) row) (unheld_groups held (place.Page n) row)
    (row_quiet (place.Page n) (names_of page_keys) row) (groups_quiet held (place.Page n) row))
    (finding_quiet (place.Page n) (Some (codes "path")) (option_map Covers (row_of paths (path_at (get (codes "path") row)))))

pages_quiet : (held paths : Rows) (n : ℕ) (rows : Items) → is_clear (warnings_of_pages held paths n rows) ≡ true
pages_quiet held paths n no_items = refl
pages_quiet held paths n (item row rest) =
    both_quiet (warnings_of_page held paths n row) _ (page_quiet held paths n row)
    (pages_quiet held (with_row paths (path_at (get (codes "path") row)) n) (n + 1) rest)

folders_quiet : (held : Rows) (n : ℕ) (rows : Items) → is_clear (warnings_of_folders held n rows) ≡ true
folders_quiet held n no_items = refl
folders_quiet held n (item row rest) =
    both_quiet (unheld_groups held (place.Folder n) row) (warnings_of_folders held (n + 1) rest) (groups_quiet held (place.Folder n) row)
    (folders_quiet held (n + 1) rest)

rows_quiet : (held : Rows) (document : Members) → is_clear (warnings_of_rows held document) ≡ true
rows_quiet held document =
    both_quiet (warnings_of_readers 1 (rows_at (codes "reader") document)
    ++ warnings_of_pages held map.empty 1 (rows_at (codes "page") document))
    (warnings_of_folders held 1 (rows_at (codes "folder") document))
    (both_quiet (warnings_of_readers 1 (rows_at (codes "reader") document))
    (warnings_of_pages held map.empty 1 (rows_at (codes "page") document)) (readers_quiet 1 (rows_at (codes "reader") document))
    (pages_quiet held map.empty 1 (rows_at (codes "page") document)))
    (folders_quiet held 1 (rows_at (codes "folder") document))

pub warnings_quiet : (document : Members) → is_clear (warnings_of document) ≡ true
warnings_quiet document =
    both_quiet
    (unknown_keys false place.Document (names_of top_keys) document
    ++ finding_of false place.Document None (owners_warning (rows_at (codes "reader") document)))
    (warnings_of_rows (held_groups document) document)
    (both_quiet (unknown_keys false place.Document (names_of top_keys) document)
    (finding_of false place.Document None (owners_warning (rows_at (codes "reader") document)))
    (keys_quiet place.Document (names_of top_keys) document)
    (finding_quiet place.Document None (owners_warning (rows_at (codes "reader") document))))
    (rows_quiet (held_groups document) document)
