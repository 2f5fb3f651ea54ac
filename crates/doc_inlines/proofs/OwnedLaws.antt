-- Marks that own what they name, mark by mark.
use Rattle.std.proofs.Common.{◌≡◌, ℕ, ◌+◌, ◌<◌, List, [], ◌∷◌, ◌++◌, take, length, get_or, flat_map, refl, ap, ap₂, sym, subst, ◌∙◌}
use Rattle.std.proofs.Common.{chars}
use Rattle.std.proofs.lemmas.List.{take_more}
use Rattle.std.proofs.lemmas.List.Concat.{flat_map-append}
use denote.Ref.{Bor}
use Rattle.doc_lines.proofs.Ends.{empty_chars}
use Rattle.doc_lines.specs.Entities.{characters}
use Rattle.doc_rules.specs.Characters.{Text}
use Rattle.doc_rules.specs.Inlines as inlines
use Rattle.doc_inlines_marks.specs.Slices as lent
use Rattle.doc_inlines_marks.specs.Views as lent_views
use Rattle.doc_inlines_marks.specs.declared.mark_ref.ReferenceRef.{ReferenceRef}
use Rattle.doc_inlines_marks.specs.declared.mark_ref.MarkRef.{MarkRef}
use Rattle.doc_inlines_marks.specs.declared.mark_ref.MarkRef.TheVariants as borrowed
use Rattle.doc_inlines_marks.specs.declared.mark_ref.SpanRef.{SpanRef}
use Rattle.doc_inlines.specs.Marks.{span_shown, inlines_in, inlines_shown, slice_in, IsCut, AreCut, IsOwned}
use Rattle.doc_inlines.specs.declared.mark.Mark.{Mark}
use Rattle.doc_inlines.specs.declared.mark.Mark.TheVariants as mark
use Rattle.doc_inlines.specs.declared.mark.Span.{Span}

-- ---- one mark

pub text_owned : (text : Bor (List ℕ)) → IsOwned (borrowed.Text text) (mark.Text text)
unfolding inlines_in lent_views.inlines_in slice_in lent.slice_in
text_owned text = record { shown = refl; slice = refl; cut = λ h. h }

pub code_owned : (text : Bor (List ℕ)) → IsOwned (borrowed.Code text) (mark.Code text)
unfolding inlines_in lent_views.inlines_in slice_in lent.slice_in
code_owned text = record { shown = refl; slice = refl; cut = λ h. h }

pub soft_owned : IsOwned borrowed.Soft mark.Soft
unfolding inlines_in lent_views.inlines_in slice_in lent.slice_in
soft_owned = record { shown = refl; slice = refl; cut = λ h. h }

pub hard_owned : IsOwned borrowed.Hard mark.Hard
unfolding inlines_in lent_views.inlines_in slice_in lent.slice_in
hard_owned = record { shown = refl; slice = refl; cut = λ h. h }

pub raw_owned : (text : Bor (List ℕ)) → IsOwned (borrowed.Raw text) (mark.Raw text)
unfolding inlines_in lent_views.inlines_in slice_in lent.slice_in
raw_owned text = record { shown = refl; slice = refl; cut = λ h. h }

pub reference_owned : (reference : Bor ReferenceRef) (text : List ℕ) → chars text ≡ characters reference.now.those
    → IsOwned (borrowed.Reference reference) (mark.Reference reference.now.source text)
unfolding inlines_in lent_views.inlines_in slice_in lent.slice_in
reference_owned reference text e = record {
  shown = ap (λ t. inlines.Reference (chars reference.now.source.now) t ∷ []) e;
  slice = refl;
  cut = λ h. h;
}

pub start_owned : (span : SpanRef) (own : Span) → span_shown own ≡ lent_views.span_shown span
    → IsOwned (borrowed.Start span) (mark.Start own)
unfolding inlines_in lent_views.inlines_in slice_in lent.slice_in
start_owned span own e = record { shown = ap (λ s. inlines.Start s ∷ []) e; slice = refl; cut = λ h. h }

pub end_owned : (span : SpanRef) (own : Span) → span_shown own ≡ lent_views.span_shown span → IsOwned (borrowed.End span) (mark.End own)
unfolding inlines_in lent_views.inlines_in slice_in lent.slice_in
end_owned span own e = record { shown = ap (λ s. inlines.End s ∷ []) e; slice = refl; cut = λ h. h }

-- ---- marks in a row

-- these own what those name
pub record AreOwned (made : List Mark) (marks : List MarkRef) : Type 0 where
  pub shown : inlines_shown made ≡ lent_views.inlines_shown marks
  pub slices : flat_map slice_in made ≡ flat_map lent.slice_in marks
  pub cut : lent.AreCut marks → AreCut made

pub none_owned : (made : List Mark) → made ≡ [] → AreOwned made []
none_owned made e = subst (λ those. AreOwned those []) (sym e) (record { shown = refl; slices = refl; cut = λ h. h })

cut_behind : (xs : List Mark) (y : Mark) → AreCut xs → IsCut y → AreCut (xs ++ (y ∷ []))
cut_behind [] y h g = (g, h)
cut_behind (x ∷ xs) y h g = (h.0, cut_behind xs y h.1 g)

cut_parts : (xs : List MarkRef) (y : MarkRef) → lent.AreCut (xs ++ (y ∷ [])) → lent.AreCut xs × lent.IsCut y
cut_parts [] y h = (h.1, h.0)
cut_parts (x ∷ xs) y h = let parts = cut_parts xs y h.1 in ((h.0, parts.0), parts.1)

one_behind : (made : List Mark) (marks : List MarkRef) (one : Mark) (own : MarkRef) → AreOwned made marks → IsOwned own one
    → AreOwned (made ++ (one ∷ [])) (marks ++ (own ∷ []))
one_behind made marks one own all h = record {
  shown = flat_map-append inlines_in made (one ∷ [])
      ∙ (ap₂ (λ xs ys. xs ++ (ys ++ [])) all.shown h.shown ∙ sym (flat_map-append lent_views.inlines_in marks (own ∷ [])));
  slices = flat_map-append slice_in made (one ∷ [])
      ∙ (ap₂ (λ xs ys. xs ++ (ys ++ [])) all.slices h.slice ∙ sym (flat_map-append lent.slice_in marks (own ∷ [])));
  cut = λ those. let parts = cut_parts marks own those in cut_behind made one (all.cut parts.0) (h.cut parts.1);
}

pub owned_more : (made new : List Mark) (marks : List MarkRef) (i : ℕ) (own : MarkRef) (one : Mark) → i < length marks
    → own ≡ get_or marks i own → AreOwned made (take i marks) → IsOwned own one → new ≡ made ++ (one ∷ [])
    → AreOwned new (take (i + 1) marks)
owned_more made new marks i own one less e all h f =
    subst (λ those. AreOwned those (take (i + 1) marks)) (sym f)
    (subst (AreOwned (made ++ (one ∷ []))) (sym (take_more marks i own less ∙ ap (λ (m : MarkRef). take i marks ++ (m ∷ [])) (sym e)))
    (one_behind made (take i marks) one own all h))

-- ---- a text of its own

pub text_made : (result after old those : Text) → result ≡ after → chars after ≡ chars old ++ those → old ≡ [] → chars result ≡ those
text_made result after old those e f g = ap chars e ∙ (f ∙ (ap (λ t. chars t ++ those) g ∙ ap (λ t. t ++ those) (empty_chars [] refl)))
