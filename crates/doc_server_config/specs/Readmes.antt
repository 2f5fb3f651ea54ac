-- READMEs that become the indexes of their folders. All of this is this project's choice.
use Rattle.std.specs.Prelude.{ℕ, List, ◌++◌, Bool, not, bytes_eq, codes, Option, Some, None, option_and_then, if◌then◌else◌}
use Rattle.std.specs.Path.{rsplit_once}
use Rattle.doc_page_parts.specs.Paths.{is_path}
use Rattle.doc_server_config.specs.declared.readme.Move.{Move}
use Rattle.doc_server_config.specs.Overlaps.{is_among}

abbrev pub is_readme : List ℕ → Bool
is_readme name = bytes_eq name (codes "README.md")

-- the path of the index in a folder, where the name is that of a README
abbrev pub index_in : List ℕ → List ℕ → Option (List ℕ)
index_in folder name = if is_readme name then Some (folder ++ codes "/index.md") else None

-- the same where no folder has it
abbrev pub index_alone : List ℕ → Option (List ℕ)
index_alone name = if is_readme name then Some (codes "index.md") else None

-- the same of a path that is cut at its last slash, where it has one
abbrev pub index_beside : List ℕ → Option (List ℕ × List ℕ) → Option (List ℕ)
index_beside path None = index_alone path
index_beside path (Some cut) = index_in cut.0 cut.1

-- the path of the index beside a README of this path
abbrev pub index_of : List ℕ → Option (List ℕ)
index_of path = index_beside path (rsplit_once 47 path)

-- the move of a page to this path, where it is one
abbrev pub move_to : List ℕ → List ℕ → Option Move
move_to from to = if is_path to then Some (record { from = from; to = to }) else None

-- the move by which the page of this path becomes the index of its folder, where its last part is `README.md`
abbrev pub index_move : List ℕ → Option Move
index_move path = option_and_then (move_to path) (index_of path)

-- whether no page has the goal of a move
abbrev pub is_free : List (List ℕ) → Move → Bool
is_free paths one = not (is_among paths one.to)
