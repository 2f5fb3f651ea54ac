-- A line from a place on.
use Rattle.std.specs.Prelude.{◌≡◌, Bool, true, false, Option, Some, None}
use Rattle.std.specs.Option.{is_some}
use Rattle.doc_rules.specs.Characters.{Text}
use Rattle.doc_rules.specs.Parsers.{is}
use Rattle.doc_rules.specs.Columns.{Line, cells_from}
use Rattle.doc_lines.specs.Cursors.{Position, left_of}

-- the line inside a container, of which a cursor stands at this place where the container begins or goes on there
abbrev pub inside_of : Bool → Position → Option Line
inside_of true place = Some (left_of place)
inside_of false place = None

-- the text behind a line's indentation, where a marker may stand, begins with the one of a quote
abbrev pub is_quoted : Option Text → Bool
is_quoted None = false
is_quoted (Some text) = is_some (is 62 text)

-- what is left at this place begins with a whole character: the place is not inside a tab
abbrev pub IsPlain : Position → Type 0
IsPlain from = left_of from ≡ cells_from from.column from.rest
