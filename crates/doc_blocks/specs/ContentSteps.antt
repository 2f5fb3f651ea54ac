-- Where the first line of a text ends.
use Rattle.std.specs.Prelude.{◌≡◌, ℕ, Bool, true, false, ◌||◌, ◌==◌, [], ◌∷◌}
use Rattle.doc_rules.specs.Characters.{Text, is_ending}
use Rattle.doc_rules.specs.Lines.{lines_of, without_ending}

-- a character of a line ending, or U+0000
unfoldable pub ends_plain : ℕ → Bool
ends_plain c = is_ending c || (c == 0)

-- the text behind the LF at its front, if one stands there
unfoldable pub behind_lf : Text → Text
behind_lf [] = []
behind_lf (c ∷ rest) = elim (c == 10) [ true ↦ rest | false ↦ c ∷ rest ]

-- the text behind the line ending at its front, if one stands there
unfoldable pub behind_ending : Text → Text
behind_ending [] = []
behind_ending (c ∷ rest) = elim (c == 10) [ true ↦ rest | false ↦ elim (c == 13) [ true ↦ behind_lf rest | false ↦ c ∷ rest ] ]

-- this is the first line of a text, without its ending, and this the text behind it
pub record IsFirstLine (text line rest : Text) : Type 0 where
  pub whole : Text
  pub first : lines_of text ≡ whole ∷ lines_of rest
  pub content : line ≡ without_ending whole
