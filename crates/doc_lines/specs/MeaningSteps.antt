-- What an escape or a character reference means, as the code answers it: one or two characters, and the text behind.
use Rattle.std.specs.Prelude.{◌≡◌, ℕ, ◌<◌, ◌≤◌, ◌-◌, Bool, true, length, Option, Some, None}
use Rattle.std.specs.List.{list_all}
use denote.Ref.{Bor}
use Rattle.std.specs.Prelude.{chars}
use Rattle.doc_rules.specs.Characters.{Text}
use Rattle.doc_rules.specs.Escapes.{Meaning}
use Rattle.doc_lines.specs.Entities.{characters}

-- these characters and the text behind, as a meaning at the front of a text
abbrev pub meaning_of : Option ((ℕ × Option ℕ) × Bor Text) → Text → Option Meaning
meaning_of None text = None
meaning_of (Some found) text = Some (characters found.0, length text - length (chars found.1.now))

-- the text behind, if anything was found
abbrev pub behind_of : {A : Type 0} → Option (A × Bor Text) → Option Text
behind_of None = None
behind_of (Some found) = Some (chars found.1.now)

-- one digit of this class at least, and so many at most
pub record IsDigits (class : ℕ → Bool) (most : ℕ) (digits : Text) : Type 0 where
  pub some : 0 < length digits
  pub few : length digits ≤ most
  pub all : list_all class digits ≡ true
