-- The faults of a table by itself, key by key, and of pages and folders by row.
use Rattle.std.specs.Prelude.{ℕ, ◌+◌, List, [], ◌∷◌, ◌++◌, Bool, true, codes, Option, Some, None}
use Rattle.std.specs.List.{flat_map}
use Rattle.toml.specs.Data.{Data, Items, no_items, item, Members, get, get_member}
use Rattle.doc_store_readers.specs.Readers.{tables_at}
use Rattle.doc_server_lint_faults.specs.declared.finding.Finding.{Finding}
use Rattle.doc_server_lint_faults.specs.declared.place.Place.{Place}
use Rattle.doc_server_lint_faults.specs.declared.place.Place.TheVariants.{Page, Folder}
use Rattle.doc_server_lint_faults.specs.declared.rule.Rule.{Rule}
use Rattle.doc_server_lint_faults.specs.declared.what.What.{What}
use Rattle.doc_server_lint_faults.specs.declared.what.What.TheVariants.{NoSource, TwoSources}
use Rattle.doc_server_lint_faults.specs.Rules.{Keys, names_of, page_keys, folder_keys}
use Rattle.doc_server_lint_faults.specs.Unknown.{unknown_in}
use Rattle.doc_server_lint_faults.specs.Values.{key_fault}

-- ---- the keys of a table

-- what is told of a key, if anything is
abbrev pub finding_of : Bool → Place → Option (List ℕ) → Option What → List Finding
finding_of is_fault place key None = []
finding_of is_fault place key (Some what) = record { place = place; key = key; what = what; is_fault = is_fault } ∷ []

abbrev pub fault_of_key : Place → (List ℕ → Option Data) → List ℕ × Rule → List Finding
fault_of_key place held key = finding_of true place (Some key.0) (key_fault key.1 (held key.0))

-- the faults of the keys of a table, by what it holds under them
abbrev pub faults_of_keys : Place → Keys → (List ℕ → Option Data) → List Finding
faults_of_keys place keys held = flat_map (fault_of_key place held) keys

-- the faults of a table that has these keys alone
abbrev pub faults_of_closed : Place → Keys → Data → List Finding
faults_of_closed place keys value = unknown_in true place (names_of keys) value ++ faults_of_keys place keys (λ key. get key value)

-- the same of what a document holds under a key
abbrev pub faults_of_held : Place → Keys → Option Data → List Finding
faults_of_held place keys None = []
faults_of_held place keys (Some value) = faults_of_closed place keys value

-- ---- pages

-- a page has one of its two sources, and not both
abbrev pub source_fault : Option Data → Option Data → Option What
source_fault None None = Some NoSource
source_fault (Some text) None = None
source_fault None (Some file) = None
source_fault (Some text) (Some file) = Some TwoSources

abbrev pub faults_of_page : ℕ → Data → List Finding
faults_of_page n row =
    faults_of_keys (Page n) page_keys (λ key. get key row)
    ++ finding_of true (Page n) None (source_fault (get (codes "text") row) (get (codes "file") row))

abbrev pub faults_of_pages : ℕ → Items → List Finding
faults_of_pages n no_items = []
faults_of_pages n (item row rest) = faults_of_page n row ++ faults_of_pages (n + 1) rest

-- ---- folders

abbrev pub faults_of_folders : ℕ → Items → List Finding
faults_of_folders n no_items = []
faults_of_folders n (item row rest) = faults_of_closed (Folder n) folder_keys row ++ faults_of_folders (n + 1) rest

-- ---- rows

-- the rows of what should be an array of tables
abbrev pub rows_of : Option Items → Items
rows_of None = no_items
rows_of (Some rows) = rows

abbrev pub rows_at : List ℕ → Members → Items
rows_at key document = rows_of (tables_at (get_member key document))
