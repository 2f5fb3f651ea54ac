-- The markers of task list items (GitHub Flavored Markdown 0.29, section 5.3).
use Rattle.std.specs.Prelude.{ℕ, Bool, true, false, ◌&&◌, ◌||◌, ◌==◌, [], ◌∷◌, Option, Some, None, option_map}
use Rattle.doc_rules.specs.Characters.{Text, is_space_or_tab, strip_front}

-- the character of a marker, and whether it says that the task is done
unfoldable pub mark_of : ℕ → Option Bool
mark_of c = elim (c == 32) [ true ↦ Some false | false ↦ elim ((c == 120) || (c == 88)) [ true ↦ Some true | false ↦ None ] ]

-- what stands behind the spaces and tabs behind a marker: some text on the same line
unfoldable pub behind_mark : Text → Option Text
behind_mark text = elim (strip_front is_space_or_tab text) [
  | [] ↦ None
  | c ∷ rest ↦ elim (c == 10) [ true ↦ None | false ↦ Some (c ∷ rest) ]
]

-- whether the task is done whose marker stands at the front of a paragraph, and the text behind the marker and a space or a tab
unfoldable pub task_in : Text → Option (Bool × Text)
task_in (a ∷ b ∷ c ∷ d ∷ rest) = elim ((a == 91) && (c == 93) && is_space_or_tab d) [
  | false ↦ None
  | true ↦ elim (mark_of b) [ None ↦ None | Some done ↦ option_map (λ text. (done, text)) (behind_mark rest) ]
]
task_in text = None
