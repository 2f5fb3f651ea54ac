-- The lines of a text as bytes and as characters (CommonMark 0.31.2, section 2.1).
use Rattle.std.specs.Prelude.{◌≡◌, ℕ, List, map, chars}
use Rattle.std.specs.Str.{IsUtf8}
use Rattle.doc_page_parts.specs.Lines.{lines}
use Rattle.doc_rules.specs.Lines.{lines_of}

-- the characters of the lines of a text are the lines of its characters
abbrev pub LinesAreLines : Type 0
LinesAreLines = (text : List ℕ) → IsUtf8 text → map chars (lines text) ≡ lines_of (chars text)
