-- What steps over the lines of a text answer.
use Rattle.std.specs.Prelude.{List, Option, Some, None, chars}
use denote.Ref.{Bor}
use Rattle.doc_rules.specs.Characters.{Text}
use Rattle.doc_rules.specs.Lines.{lines_of}
use Rattle.doc_front.specs.declared.fences.Matter.{Matter}

-- the lines of the text that there may be
abbrev pub lines_in : Option (Bor Text) → Option (List Text)
lines_in None = None
lines_in (Some text) = Some (lines_of (chars text.now))

-- the lines of front matter and behind it, if there is some
abbrev pub places_of : Option Matter → Option (List Text × List Text)
places_of None = None
places_of (Some matter) = Some (lines_of (chars matter.inside.now), lines_of (chars matter.behind.now))
