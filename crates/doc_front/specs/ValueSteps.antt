-- What steps over a value answer.
use Rattle.std.specs.Prelude.{ℕ, List, true, false, ◌==◌, Option, Some, None, chars}
use Rattle.doc_rules.specs.Characters.{Text}
use Rattle.doc_rules.specs.Parsers.{is}

-- the characters of the value that there may be
abbrev pub value_shown : Option (List ℕ) → Option Text
value_shown None = None
value_shown (Some value) = Some (chars value)

-- what stands behind a character, and behind the second "'" where it is the first of two
unfoldable pub behind_unit : ℕ → Text → Option Text
behind_unit c rest = elim (c == 39) [ true ↦ is 39 rest | false ↦ Some rest ]
