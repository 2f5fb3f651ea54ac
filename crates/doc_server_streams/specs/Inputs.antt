-- Inputs that are texts.
use Rattle.std.specs.Prelude.{◌≡◌, ℕ, List, Option, IfSome}
use Rattle.std.specs.Str.{IsUtf8}

-- Something holds of all that the input had left, where that is known; it is UTF-8.
abbrev pub OfText : Option (List ℕ) → (List ℕ → Type 0) → Type 0
OfText input Holds = (text : List ℕ) × IfSome input (λ left. text ≡ left) × IsUtf8 text × Holds text
