-- A reader whose rest and marks move on.
use Rattle.std.proofs.Common.{◌≡◌, Bool, true, ◌&&◌, ◌||◌, ◌==◌, chars, ℕ, List, [], ◌∷◌, ◌++◌, length, refl, ap, ap₂, sym, ◌∙◌}
use Rattle.std.proofs.Common.{subst, append_assoc, append-nil}
use denote.Ref.{Bor}
use Rattle.std.proofs.lemmas.Bool.{eqb-true}
use Rattle.doc_lines.proofs.Ends.{empty_chars}
use Rattle.std.specs.List.{list_all}
use Rattle.std.proofs.lemmas.List.Folds.{list_all-append}
use Rattle.std.proofs.lemmas.List.{map-append}
use Rattle.std.proofs.Math.Bool.{or-true}
use Rattle.doc_rules.specs.Characters.{Text}
use Rattle.doc_rules.specs.Parsers.{before}
use Rattle.doc_rules.specs.Inlines.{Inline, literals, onto}
use Rattle.doc_rules.specs.Rests.{IsRest}
use Rattle.doc_rules.proofs.ParserLaws.{before_rest, is_rest_again}
use Rattle.doc_inlines_marks.specs.declared.mark_ref.MarkRef.{MarkRef}
use Rattle.doc_inlines_marks.specs.declared.mark_ref.MarkRef.TheVariants as mark
use Rattle.doc_inlines_marks.specs.Slices.{slice_in, AreSlices, is_cut, IsCut, AreCut}
use Rattle.doc_inlines_marks.specs.Views.{inlines_in}
use Rattle.doc_inlines.specs.declared.bracket.Bracket.{Bracket}
use Rattle.doc_inlines.specs.ReaderSteps.{is_uncut, AllBehind, made_before}
use Rattle.doc_inlines.proofs.ReadingLaws.{before_is}
use Rattle.doc_inlines.proofs.MadeLaws.{onto_both}
use Rattle.doc_inlines.proofs.SliceLaws.{slices_both, cut_both}

-- what stands before a rest, and what stands between it and the next one
pub before_both : (text rest next : Text) → IsRest rest text → IsRest next rest → before next text ≡ before rest text ++ before next rest
before_both text rest next h g =
    let whole : text ≡ (before rest text ++ before next rest) ++ next =
    before_rest rest text h ∙ (ap (λ t. before rest text ++ t) (before_rest next rest g)
    ∙ sym (append_assoc (before rest text) (before next rest) next)) in
    ap (before next) whole ∙ before_is (before rest text ++ before next rest) next

pub literals_onto : (xs ys : Text) (made : List Inline) → onto (literals (xs ++ ys)) made ≡ onto (literals ys) (onto (literals xs) made)
literals_onto xs ys made = ap (λ those. onto those made) (map-append _ xs ys) ∙ onto_both (literals xs) (literals ys) made

-- ---- passing

pub passed_made : (made : List Inline) (plain rest next : Text) → IsRest rest plain → IsRest next rest
    → made_before made plain next ≡ onto (literals (before next rest)) (made_before made plain rest)
unfolding made_before
passed_made made plain rest next h g =
    ap (λ t. onto (literals t) made) (before_both plain rest next h g) ∙ literals_onto (before rest plain) (before next rest) made

pub passed_pending : (plain rest next : Text) → IsRest rest plain → IsRest next rest → list_all is_uncut (before rest plain) ≡ true
    → list_all is_uncut (before next rest) ≡ true →
    list_all is_uncut (before next plain) ≡ true
passed_pending plain rest next h g e f =
    ap (list_all is_uncut) (before_both plain rest next h g)
    ∙ (list_all-append is_uncut (before rest plain) (before next rest) ∙ ap₂ (λ a b. a && b) e f)

pub behind_next : (rest next : Text) (brackets : List Bracket) → IsRest next rest → AllBehind rest brackets → AllBehind next brackets
behind_next rest next [] g h = tt
behind_next rest next (b ∷ more) g h = (is_rest_again (chars b.behind.now) rest next g h.0, behind_next rest next more g h.1)

-- ---- nothing is pending

pub before_all : (text : Text) → before text text ≡ []
before_all text = before_is [] text

pub nothing_pending : (made : List Inline) (rest : Text) → made_before made rest rest ≡ made
unfolding made_before
nothing_pending made rest = ap (λ t. onto (literals t) made) (before_all rest)

pub all_of_itself : (text : Text) → IsRest text text
all_of_itself text = record { front = []; split = refl }

-- ---- the text that is in no mark yet gets one

pub flushed_made : (made new : List Inline) (plain rest : Text) (text : Bor Text) → chars text.now ≡ before rest plain
    → new ≡ onto (inlines_in (mark.Text text)) made →
    made_before new rest rest ≡ made_before made plain rest
unfolding inlines_in made_before
flushed_made made new plain rest text e f = nothing_pending new rest ∙ (f ∙ ap (λ t. onto (literals t) made) e)

pub flushed_none : (made : List Inline) (plain rest : Text) (text : Text) → text ≡ before rest plain → text ≡ []
    → made_before made rest rest ≡ made_before made plain rest
unfolding made_before
flushed_none made plain rest text e f = ap (λ t. onto (literals t) made) (before_all rest ∙ (sym f ∙ e))

pub own_slice : (text : Bor Text) → AreSlices (chars text.now) (mark.Text text ∷ [])
unfolding slice_in
own_slice text = ([], [], (sym (append-nil (chars text.now)), tt))

pub flushed_slices : (whole plain rest : Text) (items next : List MarkRef) (text : Bor Text) → IsRest plain whole → IsRest rest plain
    → chars text.now ≡ before rest plain → next ≡ items ++ (mark.Text text ∷ []) →
    AreSlices (before plain whole) items → AreSlices (before rest whole) next
flushed_slices whole plain rest items next text h g e f s =
    subst (λ those. AreSlices (before rest whole) those) (sym f)
    (subst (λ t. AreSlices t (items ++ (mark.Text text ∷ []))) (sym (before_both whole plain rest h g
    ∙ ap (λ t. before plain whole ++ t) (sym e)))
    (slices_both (before plain whole) (chars text.now) items (mark.Text text ∷ []) s (own_slice text)))

pub none_slices : (whole plain rest text : Text) (items : List MarkRef) → IsRest plain whole → IsRest rest plain → text ≡ before rest plain
    → text ≡ [] →
    AreSlices (before plain whole) items → AreSlices (before rest whole) items
none_slices whole plain rest text items h g e f s =
    subst (λ t. AreSlices t items) (sym (before_both whole plain rest h g
    ∙ (ap (λ t. before plain whole ++ t) (sym e ∙ f) ∙ append-nil (before plain whole)))) s

uncut_is_cut : (text : Text) → list_all is_uncut text ≡ true → is_cut text ≡ true
unfolding is_cut
uncut_is_cut text e = ap (λ b. (length text == 1) || b) e ∙ or-true (length text == 1)

pub flushed_cut : (plain rest : Text) (items next : List MarkRef) (text : Bor Text) → chars text.now ≡ before rest plain
    → next ≡ items ++ (mark.Text text ∷ []) → list_all is_uncut (before rest plain) ≡ true → AreCut items → AreCut next
flushed_cut plain rest items next text e f u h =
    subst AreCut (sym f) (cut_both items (mark.Text text ∷ []) h (uncut_is_cut (chars text.now) (ap (list_all is_uncut) e ∙ u), tt))

pub none_uncut : (rest : Text) → list_all is_uncut (before rest rest) ≡ true
none_uncut rest = ap (list_all is_uncut) (before_all rest)

-- ---- a mark between two rests

pub put_slices : (whole rest next : Text) (items those : List MarkRef) (m : MarkRef) → IsRest rest whole → IsRest next rest
    → those ≡ items ++ (m ∷ []) → AreSlices (before rest whole) items → AreSlices (before next rest) (m ∷ []) →
    AreSlices (before next whole) those
put_slices whole rest next items those m h g f s t =
    subst (λ x. AreSlices (before next whole) x) (sym f)
    (subst (λ x. AreSlices x (items ++ (m ∷ []))) (sym (before_both whole rest next h g))
    (slices_both (before rest whole) (before next rest) items (m ∷ []) s t))

pub put_cut : (items those : List MarkRef) (m : MarkRef) → those ≡ items ++ (m ∷ []) → AreCut items → IsCut m → AreCut those
put_cut items those m f h g = subst AreCut (sym f) (cut_both items (m ∷ []) h (g, tt))

pub put_made : (made new : List Inline) (plain rest next : Text) (m : MarkRef) (before_it : List Inline) → plain ≡ rest
    → new ≡ onto (inlines_in m) made → made_before made plain rest ≡ before_it →
    made_before new next next ≡ onto (inlines_in m) before_it
put_made made new plain rest next m before_it e f g =
    nothing_pending new next
    ∙ (f ∙ ap (onto (inlines_in m)) (sym (nothing_pending made rest) ∙ (ap (λ t. made_before made t rest) (sym e) ∙ g)))

-- ---- where the text that is in no mark yet begins at the rest

pub plain_moved : (whole plain rest next : Text) → IsRest plain whole → plain ≡ rest → IsRest next rest → IsRest next whole
plain_moved whole plain rest next h e g = is_rest_again whole rest next g (subst (λ t. IsRest t whole) e h)

pub moved_slices : (whole plain rest next : Text) (items those : List MarkRef) (m : MarkRef) → IsRest plain whole → plain ≡ rest
    → IsRest next rest → those ≡ items ++ (m ∷ []) → AreSlices (before plain whole) items →
    AreSlices (before next rest) (m ∷ []) → AreSlices (before next whole) those
moved_slices whole plain rest next items those m h e g f s t =
    put_slices whole rest next items those m (subst (λ t. IsRest t whole) e h) g f (subst (λ t. AreSlices (before t whole) items) e s) t

pub moved_behind : (old rest next : Text) (brackets those : List Bracket) → old ≡ rest → IsRest next rest → those ≡ brackets
    → AllBehind old brackets → AllBehind next those
moved_behind old rest next brackets those e g f h = subst (λ b. AllBehind next b) (sym f)
    (behind_next rest next brackets g (subst (λ t. AllBehind t brackets) e h))

chars_nil : (bs : List ℕ) → (length bs == 0) ≡ true → chars bs ≡ []
chars_nil bs e = empty_chars bs (eqb-true (length bs) 0 e)

pub is_nothing : (bs : List ℕ) (b : Bool) → b ≡ true → b ≡ (length bs == 0) → chars bs ≡ []
is_nothing bs b e f = chars_nil bs (sym f ∙ e)
