-- Steps from the end of an address: what goes from it, and the parentheses that are left.
use Rattle.std.specs.Prelude.{◌≡◌, ℕ, ◌+◌, ◌<◌, Bool, not, ◌||◌, ◌==◌, length, reverse, drop, Some}
use Rattle.std.specs.Char.{is_ascii_alphabetic}
use Rattle.doc_rules.specs.Characters.{Text, is_white}
use Rattle.doc_rules.specs.Parsers.{many}
use Rattle.doc_rules.specs.BareLinks.{count_of, reference_before, without_end}
use Rattle.doc_inlines_addresses.specs.Fronts.{StandsInFront}

-- a character that isn't where an address ends
abbrev pub is_inside : ℕ → Bool
is_inside c = not (is_white c || (c == 60))

-- nothing goes
abbrev pub IsEnd : Text → Type 0
IsEnd text = without_end 0 (reverse text) ≡ reverse text

-- what is left of a text has as many '(' as before, and so many ')' fewer
pub record Leaves (text left : Text) (closed : ℕ) : Type 0 where
  pub front : StandsInFront left text
  pub opening : count_of 40 text ≡ count_of 40 left
  pub closing : count_of 41 text ≡ count_of 41 left + closed

-- something goes
pub record Goes (text left : Text) (closed : ℕ) : Type 0 where
  pub leaves : Leaves text left closed
  pub same : without_end 0 (reverse text) ≡ without_end 0 (reverse left)
  pub shorter : length left < length text

-- a reference goes that would end before a ';' behind this text, if one stands there
pub record IsBeforeReference (text left : Text) : Type 0 where
  pub leaves : Leaves text left 0
  pub value : reverse left ≡ drop (reference_before (reverse text)) (reverse text)

-- the letters go that stand at the end
pub record IsBeforeLetters (text left : Text) : Type 0 where
  pub leaves : Leaves text left 0
  pub value : many is_ascii_alphabetic (reverse text) ≡ Some (reverse left)
