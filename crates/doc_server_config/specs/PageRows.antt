-- The pages of a configuration: the tables of its array `page`. Their keys are this project's choice.
use Rattle.std.specs.Prelude.{ℕ, ◌+◌, List, [], ◌∷◌, ◌++◌, codes, Option, Some, None, option_map, option_and_then, Result, Ok, Err}
use Rattle.std.specs.Result.{result_ok}
use Rattle.toml.specs.Data.{Data, Items, no_items, item, get, as_str}
use Rattle.doc_page_parts.specs.Paths.{path_of}
use Rattle.doc_store_readers.specs.Readers.{groups_at}
use Rattle.doc_server_config.specs.declared.config.ConfigError.{ConfigError}
use Rattle.doc_server_config.specs.declared.config.ConfigError.TheVariants.{BadPage}
use Rattle.doc_server_config.specs.declared.page_row.PageRow.{PageRow}
use Rattle.doc_server_config.specs.declared.page_row.Source.{Source}
use Rattle.doc_server_config.specs.declared.page_row.Source.TheVariants.{Text, File}

-- the path of a page: what the key holds, where that is a string that is a path; a page must have one
abbrev pub path_at : Option Data → Option (List ℕ)
path_at value = option_and_then (λ text. result_ok (path_of text)) (option_and_then as_str value)

-- the source of a page: its text or the name of its file, a string each; a page has one of the two, and not both
abbrev pub source_of : Option Data → Option Data → Option Source
source_of None None = None
source_of (Some text) None = option_map Text (as_str text)
source_of None (Some file) = option_map File (as_str file)
source_of (Some text) (Some file) = None

-- a page of these parts, where all are good
abbrev pub page_with : Option (List ℕ) → Option (List (List ℕ)) → Option Source → Option PageRow
page_with None groups source = None
page_with (Some path) None source = None
page_with (Some path) (Some groups) None = None
page_with (Some path) (Some groups) (Some source) = Some (record { path = path; groups = groups; source = source })

-- the page that a table is; other keys don't count
abbrev pub page_of : Data → Option PageRow
page_of row =
    page_with (path_at (get (codes "path") row)) (groups_at (get (codes "groups") row))
    (source_of (get (codes "text") row) (get (codes "file") row))

-- the pages found so far, then those of more tables, the first of which has the number n
abbrev pub pages_from : List PageRow → ℕ → Items → Result (List PageRow) ConfigError
pages_from found n no_items = Ok found
pages_from found n (item row rest) = elim (page_of row) [
  | None ↦ Err (BadPage n)
  | Some page ↦ pages_from (found ++ page ∷ []) (n + 1) rest
]
