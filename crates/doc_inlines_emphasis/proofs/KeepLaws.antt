-- What a mark that stands for a start, an end or nothing keeps of the marks around it, and what a pair of marks shows.
use Rattle.std.proofs.Common.{◌≡◌, ◌≢◌, ◌⊎◌, inl, inr, ℕ, zero, suc, ◌≤◌, true, false, List, [], ◌∷◌, ◌++◌, set, refl, ap, ap₂, sym, ◌∙◌}
use Rattle.std.proofs.Common.{subst, arith, append_assoc, length-set}
use Rattle.std.specs.Prelude.{◌==◌, flat_map, chars}
use Rattle.std.proofs.lemmas.List.{map-set, take-set-le}
use Rattle.std.proofs.lemmas.Str.{chars-nil}
use denote.Ref.{Bor}
use Rattle.doc_rules.specs.Characters as rules
use Rattle.doc_rules.specs.Inlines.{Inline}
use Rattle.doc_rules.specs.Inlines as inlines
use Rattle.doc_rules.specs.Emphasis.{span_of}
use Rattle.doc_inlines_emphasis.specs.Marks as delimiters
use Rattle.doc_inlines_emphasis.specs.InPlace.{paired}
use Rattle.doc_inlines_emphasis.specs.PassSteps.{OneOrTwo}
use Rattle.doc_inlines_marks.specs.declared.mark_ref.SpanRef.{SpanRef}
use Rattle.doc_inlines_marks.specs.declared.mark_ref.MarkRef.{MarkRef}
use Rattle.doc_inlines_marks.specs.declared.mark_ref.MarkRef.TheVariants.{Text, Start, End}
use Rattle.doc_inlines_marks.specs.Slices.{slice_in, StandIn, AreSlices, is_cut, IsCut, AreCut}
use Rattle.doc_inlines_marks.specs.Views.{span_shown, inlines_in}
use Rattle.doc_inlines_emphasis.specs.Steps.{Keeps}
use Rattle.doc_inlines_emphasis.specs.Views.{marks_shown}

-- ---- texts that stand in a text

pub stand_behind : (front text : rules.Text) (slices : List rules.Text) → StandIn text slices → StandIn (front ++ text) slices
stand_behind front text [] h = tt
stand_behind front text (slice ∷ more) h = (
  front ++ h.0,
  h.1,
  (
    ap (λ t. front ++ t) h.2.0
        ∙ sym (append_assoc front h.0 (slice ++ h.1)),
    h.2.1,
  ),
)

pub stand_without : (text : rules.Text) (xs ys : List rules.Text) → StandIn text (xs ++ ys) → StandIn text ys
stand_without text [] ys h = h
stand_without text (x ∷ xs) ys h =
    subst (λ t. StandIn t ys) (sym (h.2.0 ∙ sym (append_assoc h.0 x h.1))) (stand_behind (h.0 ++ x) h.1 ys (stand_without h.1 xs ys h.2.1))

pub stand_map : (text : rules.Text) (xs ys zs : List rules.Text) → ((t : rules.Text) → StandIn t ys → StandIn t zs)
    → StandIn text (xs ++ ys) → StandIn text (xs ++ zs)
stand_map text [] ys zs f h = f text h
stand_map text (x ∷ xs) ys zs f h = (h.0, h.1, (h.2.0, stand_map h.1 xs ys zs f h.2.1))

-- a mark without a text, or with an empty one
pub record IsBare (mark : MarkRef) : Type 0 where
  pub slice : (slice_in mark ≡ []) ⊎ (slice_in mark ≡ [] ∷ [])
  pub cut : IsCut mark

stand_bare : (text : rules.Text) (own ys : List rules.Text) → (own ≡ []) ⊎ (own ≡ [] ∷ []) → StandIn text ys → StandIn text (own ++ ys)
stand_bare text own ys (inl e) h = subst (λ xs. StandIn text (xs ++ ys)) (sym e) h
stand_bare text own ys (inr e) h = subst (λ xs. StandIn text (xs ++ ys)) (sym e) ([], text, (refl, h))

pub slices_set : (marks : List MarkRef) (i : ℕ) (mark : MarkRef) → IsBare mark → (text : rules.Text) → AreSlices text marks
    → AreSlices text (set marks i mark)
slices_set [] i mark b text h = h
slices_set (x ∷ xs) zero mark b text h = stand_bare text (slice_in mark) (flat_map slice_in xs) b.slice
    (stand_without text (slice_in x) (flat_map slice_in xs) h)
slices_set (x ∷ xs) (suc i) mark b text h =
    stand_map text (slice_in x) (flat_map slice_in xs) (flat_map slice_in (set xs i mark)) (λ t k. slices_set xs i mark b t k) h

pub cut_set : (marks : List MarkRef) (i : ℕ) (mark : MarkRef) → IsBare mark → AreCut marks → AreCut (set marks i mark)
cut_set [] i mark b h = h
cut_set (x ∷ xs) zero mark b h = (b.cut, h.1)
cut_set (x ∷ xs) (suc i) mark b h = (h.0, cut_set xs i mark b h.1)

pub start_is_bare : (span : SpanRef) → IsBare (Start span)
unfolding slice_in
start_is_bare span = record { slice = inl refl; cut = tt }

pub end_is_bare : (span : SpanRef) → IsBare (End span)
unfolding slice_in
end_is_bare span = record { slice = inl refl; cut = tt }

-- ---- what is kept

pub keeps_all : (place : ℕ) (marks : List MarkRef) → Keeps place marks marks
keeps_all place marks = record { size = refl; front = refl; slices = λ text h. h; cut = λ h. h }

pub keeps_on : (place : ℕ) (marks next last : List MarkRef) → Keeps place marks next → Keeps place next last → Keeps place marks last
keeps_on place marks next last h g = record {
  size = g.size ∙ h.size;
  front = g.front ∙ h.front;
  slices = λ text k. g.slices text (h.slices text k);
  cut = λ k. g.cut (h.cut k);
}

pub keeps_set : (place : ℕ) (marks : List MarkRef) (i : ℕ) (mark : MarkRef) → IsBare mark → place ≤ i → Keeps place marks (set marks i mark)
keeps_set place marks i mark b h = record {
  size = length-set marks i mark;
  front = take-set-le place marks i mark h;
  slices = λ text k. slices_set marks i mark b text k;
  cut = λ k. cut_set marks i mark b k;
}

-- ---- a pair of marks

-- a mark that stands for nothing
pub record IsEmpty (mark : MarkRef) : Type 0 where
  pub bare : IsBare mark
  pub shows : inlines_in mark ≡ []

one_set : (marks : List MarkRef) (xs : delimiters.Marks) (i : ℕ) (mark : MarkRef) (x : List Inline) → marks_shown marks ≡ xs
    → inlines_in mark ≡ x → marks_shown (set marks i mark) ≡ set xs i x
one_set marks xs i mark x h g = map-set inlines_in marks i mark ∙ ap₂ (λ ys y. set ys i y) h g

abbrev two_ends : List MarkRef → ℕ → ℕ → SpanRef → SpanRef → List MarkRef
two_ends marks o c s e = set (set marks o (Start s)) c (End e)

ends_shown : (marks : List MarkRef) (o c d n : ℕ) (s e : SpanRef) → span_shown s ≡ span_of d n → span_shown e ≡ span_of d n →
    marks_shown (two_ends marks o c s e)
    ≡ set (set (marks_shown marks) o (inlines.Start (span_of d n) ∷ [])) c (inlines.End (span_of d n) ∷ [])
unfolding inlines_in
ends_shown marks o c d n s e h g =
    one_set (set marks o (Start s)) (set (marks_shown marks) o (inlines.Start (span_of d n) ∷ [])) c (End e) (inlines.End (span_of d n) ∷ [])
    (one_set marks (marks_shown marks) o (Start s) (inlines.Start (span_of d n) ∷ []) refl (ap (λ x. inlines.Start x ∷ []) h))
    (ap (λ x. inlines.End x ∷ []) g)

pub one_shown : (marks : List MarkRef) (o c d n : ℕ) (s e : SpanRef) → span_shown s ≡ span_of d n → span_shown e ≡ span_of d n
    → (n == 2) ≡ false →
    marks_shown (two_ends marks o c s e) ≡ paired (marks_shown marks) o c d n
unfolding paired
one_shown marks o c d n s e h g f =
    let ends : delimiters.Marks = set (set (marks_shown marks) o (inlines.Start (span_of d n) ∷ [])) c (inlines.End (span_of d n) ∷ []) in
    ends_shown marks o c d n s e h g
    ∙ sym (ap (λ m. elim m as (λ _. delimiters.Marks) [ true ↦ set (set ends (suc o) []) (suc c) [] | false ↦ ends ]) f)

pub two_shown : (marks : List MarkRef) (o c d n p q : ℕ) (s e : SpanRef) (t u : MarkRef) → span_shown s ≡ span_of d n
    → span_shown e ≡ span_of d n
    → (n == 2) ≡ true → p ≡ suc o → q ≡ suc c → IsEmpty t → IsEmpty u →
    marks_shown (set (set (two_ends marks o c s e) p t) q u) ≡ paired (marks_shown marks) o c d n
unfolding paired
two_shown marks o c d n p q s e t u h g f i j a b =
    let ends : delimiters.Marks = set (set (marks_shown marks) o (inlines.Start (span_of d n) ∷ [])) c (inlines.End (span_of d n) ∷ []) in
    one_set (set (two_ends marks o c s e) p t) (set ends p []) q u []
    (one_set (two_ends marks o c s e) ends p t [] (ends_shown marks o c d n s e h g) a.shows) b.shows
    ∙ (ap₂ (λ x y. set (set ends x []) y []) i j
    ∙ sym (ap (λ m. elim m as (λ _. delimiters.Marks) [ true ↦ set (set ends (suc o) []) (suc c) [] | false ↦ ends ]) f))

pub one_keeps : (marks : List MarkRef) (o c : ℕ) (s e : SpanRef) (place : ℕ) → place ≤ o → o ≤ c
    → Keeps place marks (two_ends marks o c s e)
one_keeps marks o c s e place h g =
    keeps_on place marks (set marks o (Start s)) (two_ends marks o c s e) (keeps_set place marks o (Start s) (start_is_bare s) h)
    (keeps_set place (set marks o (Start s)) c (End e) (end_is_bare e) (omega arith))

pub two_keeps : (marks : List MarkRef) (o c p q : ℕ) (s e : SpanRef) (t u : MarkRef) → p ≡ suc o → q ≡ suc c → IsEmpty t
    → IsEmpty u → (place : ℕ)
    → place ≤ o → o ≤ c →
    Keeps place marks (set (set (two_ends marks o c s e) p t) q u)
two_keeps marks o c p q s e t u i j a b place h g =
    keeps_on place marks (set (two_ends marks o c s e) p t) (set (set (two_ends marks o c s e) p t) q u)
    (keeps_on place marks (two_ends marks o c s e) (set (two_ends marks o c s e) p t) (one_keeps marks o c s e place h g)
    (keeps_set place (two_ends marks o c s e) p t a.bare (omega arith)))
    (keeps_set place (set (two_ends marks o c s e) p t) q u b.bare (omega arith))

pub empty_text : (text : Bor rules.Text) → text.now ≡ [] → IsEmpty (Text text)
unfolding slice_in inlines_in is_cut
empty_text text e =
    let none : chars text.now ≡ [] = ap chars e ∙ chars-nil in
    record {
      bare = record { slice = inr (ap (λ t. t ∷ []) none); cut = ap is_cut none };
      shows = ap inlines.literals none;
    }

pub is_not_two : (n : ℕ) → OneOrTwo n → n ≢ 2 → (n == 2) ≡ false
is_not_two n (inl e) h = ap (λ k. k == 2) e
is_not_two n (inr e) h = absurd (h e)

pub is_two : (n : ℕ) → n ≡ 2 → (n == 2) ≡ true
is_two n e = ap (λ k. k == 2) e
