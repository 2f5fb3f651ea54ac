-- What is found, as the items that a reader of inlines makes of it (CommonMark 0.31.2, section 6).
use Rattle.std.specs.Prelude.{suc, ◌-◌, List, ◌∷◌, ◌++◌, replicate, length, Option, Some, None, codes}
use Rattle.doc_rules.specs.Characters.{Text}
use Rattle.doc_rules.specs.Inlines as inlines
use Rattle.doc_rules.specs.Inlines.{Inline, Literal, Code}
use Rattle.doc_rules.specs.Reading.{Step, as_literal, autolink}
use Rattle.doc_inlines_marks.specs.Enclosed.{Enclosing, Uri, Mail, Raw}

-- behind a backtick: a code span, or the backticks of the run
abbrev pub code_read : List Inline → Text → Option Text × Text → Step
code_read made text (Some content, behind) = (Code content ∷ made, length text - length behind)
code_read made text (None, behind) = (replicate (suc (length text - length behind)) (Literal 96) ++ made, length text - length behind)

-- what is enclosed, as inlines
abbrev pub enclosed_read : List Inline → Enclosing → List Inline
enclosed_read made (Uri address) = autolink address address made
enclosed_read made (Mail address) = autolink (codes "mailto:" ++ address) address made
enclosed_read made (Raw text) = inlines.Raw text ∷ made

-- behind a '<' with this text behind it
abbrev pub angle_read : List Inline → Text → Option (Enclosing × Text) → Step
angle_read made inside None = as_literal 60 made
angle_read made inside (Some found) = (enclosed_read made found.0, length inside - length found.1)
