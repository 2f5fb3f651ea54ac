-- Marks that own what they name, seen as inlines (CommonMark 0.31.2, section 6), and where their texts stand.
use Rattle.std.specs.Prelude.{◌≡◌, true, List, [], ◌∷◌, flat_map, chars, ⊤}
use Rattle.doc_rules.specs.Characters as rules
use Rattle.doc_rules.specs.Inlines as inlines
use Rattle.doc_rules.specs.Inlines.{Inline, literals}
use Rattle.doc_refs_parts.specs.Targets.{target_shown}
use Rattle.doc_inlines_marks.specs.Slices.{StandIn, is_cut}
use Rattle.doc_inlines_marks.specs.Slices as lent
use Rattle.doc_inlines_marks.specs.Views as lent_views
use Rattle.doc_inlines_marks.specs.declared.mark_ref.MarkRef.{MarkRef}
use Rattle.doc_inlines.specs.declared.mark.Span.{Span}
use Rattle.doc_inlines.specs.declared.mark.Span.TheVariants as span
use Rattle.doc_inlines.specs.declared.mark.Mark.{Mark}
use Rattle.doc_inlines.specs.declared.mark.Mark.TheVariants.{Text, Code, Soft, Hard, Raw, Reference, Start, End}

unfoldable pub span_shown : Span → inlines.Span
span_shown span.Emphasis = inlines.Emphasis
span_shown span.Strong = inlines.Strong
span_shown span.Strike = inlines.Strike
span_shown (span.Link target) = inlines.Link (target_shown target)
span_shown (span.Image target) = inlines.Image (target_shown target)

-- the inlines of one mark: of a text each character is one
unfoldable pub inlines_in : Mark → List Inline
inlines_in (Text text) = literals (chars text.now)
inlines_in (Code text) = inlines.Code (chars text.now) ∷ []
inlines_in Soft = inlines.SoftBreak ∷ []
inlines_in Hard = inlines.HardBreak ∷ []
inlines_in (Raw text) = inlines.Raw (chars text.now) ∷ []
inlines_in (Reference source text) = inlines.Reference (chars source.now) (chars text) ∷ []
inlines_in (Start span) = inlines.Start (span_shown span) ∷ []
inlines_in (End span) = inlines.End (span_shown span) ∷ []

-- the inlines of marks in a row
abbrev pub inlines_shown : List Mark → List Inline
inlines_shown marks = flat_map inlines_in marks

-- the slice of a mark, if it has one: of a reference its source
unfoldable pub slice_in : Mark → List rules.Text
slice_in (Text text) = chars text.now ∷ []
slice_in (Code text) = chars text.now ∷ []
slice_in Soft = []
slice_in Hard = []
slice_in (Raw text) = chars text.now ∷ []
slice_in (Reference source text) = chars source.now ∷ []
slice_in (Start span) = []
slice_in (End span) = []

-- the slices of the marks stand in the text one after another
abbrev pub AreSlices : rules.Text → List Mark → Type 0
AreSlices text marks = StandIn text (flat_map slice_in marks)

-- a text that HTML writes otherwise is a character alone
abbrev pub IsCut : Mark → Type 0
IsCut (Text text) = is_cut (chars text.now) ≡ true
IsCut mark = ⊤

abbrev pub AreCut : List Mark → Type 0
AreCut [] = ⊤
AreCut (mark ∷ more) = IsCut mark × AreCut more

-- ---- what borrows, and the same that owns

pub record IsOwned (lent_mark : MarkRef) (mark : Mark) : Type 0 where
  pub shown : inlines_in mark ≡ lent_views.inlines_in lent_mark
  pub slice : slice_in mark ≡ lent.slice_in lent_mark
  pub cut : lent.IsCut lent_mark → IsCut mark
