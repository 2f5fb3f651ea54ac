-- Slices and cuts of marks that come or change.
use Rattle.std.proofs.Common.{◌≡◌, ℕ, zero, suc, List, [], ◌∷◌, ◌++◌, set, refl, ap, sym, ◌∙◌, subst, append_assoc, append-nil}
use Rattle.std.specs.Prelude.{flat_map}
use Rattle.std.proofs.lemmas.Grind.{flat_map-append}
use Rattle.doc_rules.specs.Characters.{Text}
use Rattle.doc_inlines_marks.specs.declared.mark_ref.MarkRef.{MarkRef}
use Rattle.doc_inlines_marks.specs.declared.mark_ref.MarkRef.TheVariants as mark
use Rattle.doc_inlines_marks.specs.declared.mark_ref.SpanRef.{SpanRef}
use Rattle.doc_inlines_marks.specs.Slices.{slice_in, StandIn, AreSlices, IsCut, AreCut}

widened : (text front rest : Text) (slices : List Text) → text ≡ front ++ rest → StandIn rest slices → StandIn text slices
widened text front rest [] e h = tt
widened text front rest (s ∷ more) e h = (
  front ++ h.0,
  h.1,
  (
    e
        ∙ (ap (λ t. front ++ t) h.2.0 ∙ sym (append_assoc front h.0 (s ++ h.1))),
    h.2.1,
  ),
)

stand_behind : (text : Text) (front slices : List Text) → StandIn text (front ++ slices) → StandIn text slices
stand_behind text [] slices h = h
stand_behind text (s ∷ front) slices h =
    widened text (h.0 ++ s) h.1 slices (h.2.0 ∙ sym (append_assoc h.0 s h.1)) (stand_behind h.1 front slices h.2.1)

stand_same_front : (text : Text) (front a b : List Text) → ((t : Text) → StandIn t a → StandIn t b) → StandIn text (front ++ a)
    → StandIn text (front ++ b)
stand_same_front text [] a b f h = f text h
stand_same_front text (s ∷ front) a b f h = (h.0, h.1, (h.2.0, stand_same_front h.1 front a b f h.2.1))

pub slices_set : (text : Text) (items : List MarkRef) (m : ℕ) (x : MarkRef) → slice_in x ≡ [] → AreSlices text items
    → AreSlices text (set items m x)
slices_set text [] m x e h = h
slices_set text (y ∷ ys) zero x e h = subst (λ own. StandIn text (own ++ flat_map slice_in ys)) (sym e)
    (stand_behind text (slice_in y) (flat_map slice_in ys) h)
slices_set text (y ∷ ys) (suc m) x e h = stand_same_front text (slice_in y) (flat_map slice_in ys) (flat_map slice_in (set ys m x))
    (λ t g. slices_set t ys m x e g) h

stand_both : (front rest : Text) (a b : List Text) → StandIn front a → StandIn rest b → StandIn (front ++ rest) (a ++ b)
stand_both front rest [] b h g = widened (front ++ rest) front rest b refl g
stand_both front rest (s ∷ a) b h g = (
  h.0,
  h.1 ++ rest,
  (
    ap (λ t. t ++ rest) h.2.0 ∙ (append_assoc h.0 (s ++ h.1) rest
        ∙ ap (λ t. h.0 ++ t) (append_assoc s h.1 rest)),
    stand_both h.1 rest a b h.2.1 g,
  ),
)

pub slices_both : (front rest : Text) (xs ys : List MarkRef) → AreSlices front xs → AreSlices rest ys → AreSlices (front ++ rest) (xs ++ ys)
slices_both front rest xs ys h g = subst (λ those. StandIn (front ++ rest) those) (sym (flat_map-append slice_in xs ys))
    (stand_both front rest (flat_map slice_in xs) (flat_map slice_in ys) h g)

pub slices_widened : (text front rest : Text) (items : List MarkRef) → text ≡ front ++ rest → AreSlices rest items → AreSlices text items
slices_widened text front rest items e h = widened text front rest (flat_map slice_in items) e h

pub slices_with : (text : Text) (items next : List MarkRef) (m : MarkRef) → next ≡ items ++ (m ∷ []) → slice_in m ≡ []
    → AreSlices text items
    → AreSlices text next
slices_with text items next m e f h =
    subst (λ those. StandIn text those) (sym (ap (flat_map slice_in) e
    ∙ (flat_map-append slice_in items (m ∷ []) ∙ (ap (λ own. flat_map slice_in items ++ (own ++ [])) f
    ∙ append-nil (flat_map slice_in items))))) h

-- ---- cuts

pub cut_both : (xs ys : List MarkRef) → AreCut xs → AreCut ys → AreCut (xs ++ ys)
cut_both [] ys h g = g
cut_both (x ∷ xs) ys h g = (h.0, cut_both xs ys h.1 g)

pub cut_set : (items : List MarkRef) (m : ℕ) (x : MarkRef) → IsCut x → AreCut items → AreCut (set items m x)
cut_set [] m x e h = h
cut_set (y ∷ ys) zero x e h = (e, h.1)
cut_set (y ∷ ys) (suc m) x e h = (h.0, cut_set ys m x e h.1)

-- ---- a bracket that turns into a link

pub link_slices : (text : Text) (wrapped turned next : List MarkRef) (m : ℕ) (start end : SpanRef)
    → turned ≡ set wrapped m (mark.Start start)
    → next ≡ turned ++ (mark.End end ∷ []) → AreSlices text wrapped → AreSlices text next
unfolding slice_in
link_slices text wrapped turned next m start end e f h =
    slices_with text turned next (mark.End end) f refl (subst (λ those. AreSlices text those) (sym e)
    (slices_set text wrapped m (mark.Start start) refl h))

pub link_cut : (wrapped turned next : List MarkRef) (m : ℕ) (start end : SpanRef) → turned ≡ set wrapped m (mark.Start start)
    → next ≡ turned ++ (mark.End end ∷ []) → AreCut wrapped → AreCut next
link_cut wrapped turned next m start end e f h =
    subst AreCut (sym f) (cut_both turned (mark.End end ∷ []) (subst AreCut (sym e) (cut_set wrapped m (mark.Start start) tt h)) (tt, tt))
