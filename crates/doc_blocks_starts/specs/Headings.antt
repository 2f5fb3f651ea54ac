-- Headings, seen as levels and texts (CommonMark 0.31.2, section 4.2).
use Rattle.std.specs.Prelude.{ℕ, Option, Some, None, chars}
use Rattle.doc_rules.specs.Characters.{Text}
use Rattle.doc_blocks_starts.specs.declared.heading.Heading.{Heading}

-- the level and the text of a heading that may be there
abbrev pub heading_of : Option Heading → Option (ℕ × Text)
heading_of None = None
heading_of (Some heading) = Some (heading.level, chars heading.text.now)
