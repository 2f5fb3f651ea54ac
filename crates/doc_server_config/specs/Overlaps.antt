-- Paths that two sources of pages give, of which one is a folder. All of this is this project's choice.
use Rattle.std.specs.Prelude.{ℕ, List, [], ◌∷◌, map, Bool, false, bytes_eq, Option, if◌then◌else◌}
use Rattle.std.specs.List.{find, list_any}
use Rattle.std.specs.Option.{option_or}
use Rattle.doc_server_config.specs.declared.folder_pages.FolderMedium.{FolderMedium}
use Rattle.doc_server_config.specs.declared.page_row.PageRow.{PageRow}

-- the paths of some pages
abbrev pub paths_of : List PageRow → List (List ℕ)
paths_of pages = map (λ page. page.path) pages

-- the paths of some media
abbrev pub media_paths : List FolderMedium → List (List ℕ)
media_paths media = map (λ medium. medium.path) media

-- whether a path is among some
abbrev pub is_among : List (List ℕ) → List ℕ → Bool
is_among paths path = list_any (bytes_eq path) paths

-- whether it is among them more than once
abbrev pub is_twice : List (List ℕ) → List ℕ → Bool
is_twice [] path = false
is_twice (first ∷ rest) path = if bytes_eq path first then is_among rest path else is_twice rest path

-- the first path, in the order of a configuration's rows and of the pages of its folders behind them, that two of these give, of which one
-- is a folder's: where there is none, the paths of the folders' pages differ from each other and from those of the rows
abbrev pub first_overlap : List (List ℕ) → List (List ℕ) → Option (List ℕ)
first_overlap rows others = option_or (find (is_among others) rows) (find (is_twice others) others)
