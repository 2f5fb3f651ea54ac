-- The text of a code span, as the code finds it.
use Rattle.std.specs.Prelude.{◌≡◌, ℕ, true, [], ◌∷◌, ◌++◌, Option, Some, None, chars}
use denote.Ref.{Bor}
use Rattle.doc_rules.specs.Characters.{Text}
use Rattle.doc_rules.specs.CodeSpans.{is_code_space, code_text}

-- this text stands between two spaces
pub record IsBetweenSpaces (inner text : Text) : Type 0 where
  pub first : ℕ
  pub last : ℕ
  pub split : text ≡ first ∷ (inner ++ (last ∷ []))
  pub spaces : (is_code_space first ≡ true) × (is_code_space last ≡ true)

-- or else nothing is taken off
abbrev pub IsBetween : Text → Option (Bor Text) → Type 0
IsBetween text None = code_text text ≡ text
IsBetween text (Some inner) = IsBetweenSpaces (chars inner.now) text
