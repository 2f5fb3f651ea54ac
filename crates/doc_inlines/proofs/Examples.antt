-- Examples: marks seen as inlines, and where their texts stand (sections 6.2 and 6.3).
use Rattle.std.proofs.Common.{◌≡◌, ℕ, List, [], ◌∷◌, chars, refl, ap, ◌∙◌}
use Rattle.std.specs.Prelude.{None, codes, flat_map}
use denote.Ref.{Bor}
use Rattle.doc_rules.specs.Characters.{Text}
use Rattle.doc_rules.specs.Destinations as rules
use Rattle.doc_rules.specs.Inlines as inlines
use Rattle.doc_rules.specs.Inlines.{Inline, literals}
use Rattle.doc_refs_parts.specs.Targets.{target_shown}
use Rattle.doc_refs_parts.specs.declared.target.Target.{Target}
use Rattle.doc_inlines.specs.Marks.{inlines_in, inlines_shown, slice_in, span_shown}
use Rattle.doc_inlines.specs.declared.mark.Mark.{Mark}
use Rattle.doc_inlines.specs.declared.mark.Mark.TheVariants as mark
use Rattle.doc_inlines.specs.declared.mark.Span.TheVariants as span

-- of `[a*b*](/url)`
abbrev marks : Target → Bor (List ℕ) → Bor (List ℕ) → List Mark
marks target a b =
    mark.Start (span.Link target) ∷ mark.Text a ∷ mark.Start span.Emphasis ∷ mark.Text b ∷ mark.End span.Emphasis
    ∷ mark.End (span.Link target) ∷ []

abbrev shown_by : rules.Target → Text → Text → List Inline
shown_by target a b =
    flat_map (λ part. part) ((inlines.Start (inlines.Link target) ∷ []) ∷ literals a ∷ (inlines.Start inlines.Emphasis ∷ []) ∷ literals b
    ∷ (inlines.End inlines.Emphasis ∷ []) ∷ (inlines.End (inlines.Link target) ∷ []) ∷ [])

abbrev url : rules.Target
url = record { dest = codes "/url"; title = None }

link : shown_by url (codes "a") (codes "b")
    ≡ inlines.Start (inlines.Link url) ∷ inlines.Literal 97 ∷ inlines.Start inlines.Emphasis ∷ inlines.Literal 98
    ∷ inlines.End inlines.Emphasis ∷ inlines.End (inlines.Link url) ∷ []
link = refl

marks_shown : (target : Target) (a b : Bor (List ℕ)) → target_shown target ≡ url → chars a.now ≡ codes "a" → chars b.now ≡ codes "b"
    → inlines_shown (marks target a b) ≡ shown_by url (codes "a") (codes "b")
unfolding inlines_in span_shown
marks_shown target a b e f g =
    ap (λ t. shown_by t (chars a.now) (chars b.now)) e
    ∙ (ap (λ t. shown_by url t (chars b.now)) f ∙ ap (λ t. shown_by url (codes "a") t) g)

slices : (target : Target) (a b : Bor (List ℕ)) → flat_map slice_in (marks target a b) ≡ chars a.now ∷ chars b.now ∷ []
unfolding slice_in
slices target a b = refl
