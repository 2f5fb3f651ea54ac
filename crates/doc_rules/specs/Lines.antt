-- Lines and line endings (CommonMark 0.31.2, sections 2.1 and 2.3).
use Rattle.std.specs.Prelude.{ℕ, Bool, true, false, not, ◌&&◌, ◌||◌, ◌==◌, List, [], ◌∷◌, map, if◌then◌else◌}
use Rattle.doc_rules.specs.Characters.{Text, is_ending}

-- a character before this rest ends a line: a LF, or a CR that no LF follows (2.1)
unfoldable pub ends_line : ℕ → Text → Bool
ends_line c [] = (c == 10) || (c == 13)
ends_line c (d ∷ rest) = (c == 10) || ((c == 13) && not (d == 10))

-- a character put before the first of these lines
unfoldable pub onto_first : ℕ → List Text → List Text
onto_first c [] = (c ∷ []) ∷ []
onto_first c (line ∷ more) = (c ∷ line) ∷ more

-- the lines of a text, each up to and with its line ending; the last one may have none (2.1)
unfoldable pub lines_of : Text → List Text
lines_of [] = []
lines_of (c ∷ rest) = elim (ends_line c rest) [ true ↦ (c ∷ []) ∷ lines_of rest | false ↦ onto_first c (lines_of rest) ]

-- a line without its ending
unfoldable pub without_ending : Text → Text
without_ending [] = []
without_ending (c ∷ rest) = elim (is_ending c) [ true ↦ [] | false ↦ c ∷ without_ending rest ]

-- U+0000 reads as U+FFFD (2.3)
unfoldable pub secure_char : ℕ → ℕ
secure_char c = if c == 0 then 0xFFFD else c

-- what is read of a line
abbrev pub line_content : Text → Text
line_content line = map secure_char (without_ending line)
