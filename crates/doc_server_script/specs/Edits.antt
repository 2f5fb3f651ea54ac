-- Edits of pages as lines of a script, without their line feed. All of this is this project's choice.
use Rattle.std.specs.Prelude.{ℕ, List, [], ◌∷◌, ◌++◌, bytes_eq, codes, if◌then◌else◌}
use Rattle.std.specs.List.{flat_map}
use Rattle.doc_server_script.specs.Escapes.{escaped, spaceless}

-- each name behind a comma
abbrev pub behind_commas : List (List ℕ) → List ℕ
behind_commas names = flat_map (λ name. 44 ∷ name) names

-- Names of groups joined by commas. `-` is none; the one group `-` is written twice.
abbrev pub groups_text : List (List ℕ) → List ℕ
groups_text [] = codes "-"
groups_text (name ∷ []) = if bytes_eq name (codes "-") then codes "-,-" else name
groups_text (name ∷ other ∷ names) = name ++ behind_commas (other ∷ names)

-- 32 is the space between two fields

abbrev pub put_line : List ℕ → List (List ℕ) → List ℕ → List ℕ
put_line path groups text = codes "put " ++ (spaceless path ++ 32 ∷ (groups_text groups ++ 32 ∷ escaped text))

abbrev pub remove_line : List ℕ → List ℕ
remove_line path = codes "remove " ++ spaceless path

abbrev pub move_line : List ℕ → List ℕ → List ℕ
move_line from to = codes "move " ++ (spaceless from ++ 32 ∷ spaceless to)
