-- Marks one after another, as HTML and as plain texts.
use Rattle.std.specs.Prelude.{ℕ, ◌+◌, ◌-◌, Bool, nat_lt, List, [], ◌∷◌, chars}
use Rattle.std.specs.List.{list_all}
use Rattle.doc_rules.specs.Characters as rules
use Rattle.doc_lines.specs.Entities.{characters as both}
use Rattle.doc_rules.specs.CodeSpans.{spaced}
use Rattle.doc_rules.specs.Escaping.{html_escape}
use Rattle.doc_rules.specs.Inlines as inlines
use Rattle.doc_rules.specs.Inlines.{Inline}
use Rattle.doc_rules.specs.Html.{Output, characters, inline_html, span_start, span_end, images_after}
use Rattle.doc_inlines_marks.specs.Views.{span_shown}
use Rattle.doc_inlines_marks.specs.declared.mark_ref.SpanRef.TheVariants as span
use Rattle.doc_inlines_marks.specs.declared.mark_ref.MarkRef.{MarkRef}
use Rattle.doc_inlines_marks.specs.declared.mark_ref.MarkRef.TheVariants.{Text, Code, Soft, Hard, Raw, Reference, Start, End}

-- how many images stand around what follows these inlines, where n stand around them
unfoldable pub images_along : ℕ → List Inline → ℕ
images_along n [] = n
images_along n (inline ∷ more) = images_along (images_after n inline) more

-- the same of one mark
abbrev pub images_behind : ℕ → MarkRef → ℕ
images_behind n (Start (span.Image target)) = n + 1
images_behind n (End (span.Image target)) = n - 1
images_behind n mark = n

-- a mark that stands in no image
abbrev pub mark_html : MarkRef → Output
mark_html (Text text) = characters (html_escape (chars text.now))
mark_html (Code text) = inline_html (inlines.Code (chars text.now))
mark_html Soft = inline_html inlines.SoftBreak
mark_html Hard = inline_html inlines.HardBreak
mark_html (Raw text) = characters (chars text.now)
mark_html (Reference reference) = characters (html_escape (both reference.now.those))
mark_html (Start span) = span_start (span_shown span)
mark_html (End span) = characters (span_end (span_shown span))

-- the plain text of a mark
abbrev pub mark_plain : MarkRef → rules.Text
mark_plain (Text text) = chars text.now
mark_plain (Code text) = spaced (chars text.now)
mark_plain Soft = 32 ∷ []
mark_plain Hard = 32 ∷ []
mark_plain (Raw text) = []
mark_plain (Reference reference) = both reference.now.those
mark_plain (Start span) = []
mark_plain (End span) = []

-- a text of ASCII characters alone, whose characters are its bytes
abbrev pub is_ascii : List ℕ → Bool
is_ascii text = list_all (λ b. nat_lt b 128) text
