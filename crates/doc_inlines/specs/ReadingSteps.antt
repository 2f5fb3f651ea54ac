-- Reading on in a text: what stands before the rest, what was made of it, and the rest.
use Rattle.std.specs.Prelude.{ℕ, ◌==◌, Bool, true, false, not, ◌&&◌, ◌||◌, List, [], ◌∷◌, ◌++◌, ◌≡◌}
use Rattle.doc_rules.specs.Characters.{Text, last_or, one_of}
use Rattle.doc_rules.specs.Rules.{Rules}
use Rattle.doc_rules.specs.Definitions.{Definition}
use Rattle.doc_rules.specs.Inlines.{Inline}
use Rattle.doc_rules.specs.Reading.{read}
use Rattle.std.specs.Prelude.{codes}

-- all inlines of a text, where this stands before the rest and these were made of it, the nearest first
abbrev pub reading : Rules → List Definition → Text → List Inline → Text → List Inline
reading rules refs behind made rest = read rules refs (last_or 10 behind) made 0 rest

-- a character that begins something without any extension, or is written in HTML otherwise
abbrev pub begins_always : ℕ → Bool
begins_always c = one_of (codes "\n*_[]`<&\\!>\"") c

-- a character that begins something in an extension, where strikethrough and bare links are read or not
abbrev pub begins_by : Bool → Bool → ℕ → Bool
begins_by strikes links c = (strikes && (c == 126)) || (links && one_of (codes "whHfF") c)

-- a character that begins something by these rules, or is written in HTML otherwise
abbrev pub begins_something : Rules → ℕ → Bool
begins_something rules c = begins_always c || begins_by rules.strikethrough rules.bare_links c

-- a character that begins nothing, or a space, and is written in HTML as it is
abbrev pub is_plain : Rules → ℕ → Bool
is_plain rules c = not (begins_something rules c)

-- spaces, if any, and then a line ending, stand at the front of a text
unfoldable pub breaks : Text → Bool
breaks [] = false
breaks (c ∷ rest) = elim (32 == c) [ true ↦ breaks rest | false ↦ c == 10 ]

-- none of these characters is a space before a line ending
abbrev pub Quiet : Text → Text → Type 0
Quiet [] rest = Unit {0}
Quiet (c ∷ run) rest = ((c == 32) ≡ true → breaks (run ++ rest) ≡ false) × Quiet run rest
