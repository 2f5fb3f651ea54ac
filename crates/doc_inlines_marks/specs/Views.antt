-- The marks of the code, seen as inlines (CommonMark 0.31.2, section 6).
use Rattle.std.specs.Prelude.{List, [], ◌∷◌, flat_map, chars}
use Rattle.doc_rules.specs.Inlines as rules
use Rattle.doc_rules.specs.Inlines.{Inline, literals}
use Rattle.doc_lines.specs.Entities.{characters}
use Rattle.doc_inlines_marks.specs.Targets.{named}
use Rattle.doc_inlines_marks.specs.declared.mark_ref.SpanRef.{SpanRef}
use Rattle.doc_inlines_marks.specs.declared.mark_ref.SpanRef.TheVariants as span
use Rattle.doc_inlines_marks.specs.declared.mark_ref.MarkRef.{MarkRef}
use Rattle.doc_inlines_marks.specs.declared.mark_ref.MarkRef.TheVariants.{Text, Code, Soft, Hard, Raw, Reference, Start, End}

unfoldable pub span_shown : SpanRef → rules.Span
span_shown span.Emphasis = rules.Emphasis
span_shown span.Strong = rules.Strong
span_shown span.Strike = rules.Strike
span_shown (span.Link target) = rules.Link (named target.now)
span_shown (span.Image target) = rules.Image (named target.now)

-- the inlines of one mark: of a text each character is one
unfoldable pub inlines_in : MarkRef → List Inline
inlines_in (Text text) = literals (chars text.now)
inlines_in (Code text) = rules.Code (chars text.now) ∷ []
inlines_in Soft = rules.SoftBreak ∷ []
inlines_in Hard = rules.HardBreak ∷ []
inlines_in (Raw text) = rules.Raw (chars text.now) ∷ []
inlines_in (Reference reference) = rules.Reference (chars reference.now.source.now) (characters reference.now.those) ∷ []
inlines_in (Start span) = rules.Start (span_shown span) ∷ []
inlines_in (End span) = rules.End (span_shown span) ∷ []

-- the inlines of marks in a row
abbrev pub inlines_shown : List MarkRef → List Inline
inlines_shown marks = flat_map inlines_in marks
