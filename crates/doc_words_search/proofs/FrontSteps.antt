-- What the first bytes of words tell of their order.
use Rattle.std.proofs.Common.{◌≡◌, ◌≢◌, ℕ, zero, suc, ◌<◌, ◌≤◌, List, [], ◌∷◌, get_or, refl, ap, sym, ◌∙◌, arith, inl, inr, nat_cmp}
use Rattle.std.proofs.Common.{Less, Greater, lt-ltb}
use Rattle.std.specs.Cmp.Lexicographic.{slice_cmp}
use Rattle.std.specs.Ordering.{ordering_reverse, ordering_then}
use Rattle.std.proofs.lemmas.Bool.{cases_lt}
use Rattle.std.proofs.lemmas.Cmp.{nat_cmp_total, nat_list_cmp_total, tied_itself}
use Rattle.doc_words_search.specs.Fronts.{AreBytes, front_number}

-- the same number is that of the same bytes
same_bytes : (n : ℕ) (a b : List ℕ) → AreBytes a → AreBytes b → front_number n a ≡ front_number n b
    → (i : ℕ) → i < n → get_or a i 0 ≡ get_or b i 0
same_bytes zero a b s t e i low = absurd (omega (arith, low))
same_bytes (suc n) a b s t e i low =
    let x : get_or a n 0 < 256 = s n in
    let y : get_or b n 0 < 256 = t n in
    let last : get_or a n 0 ≡ get_or b n 0 = omega (arith, e, x, y) in
    let more : front_number n a ≡ front_number n b = omega (arith, e, x, y) in
    elim (cases_lt i n) [
      | inl less ↦ same_bytes n a b s t more i less
      | inr rest ↦ let all : i ≡ n = omega (arith, low, rest) in ap (λ k. get_or a k 0) all ∙ last ∙ ap (λ k. get_or b k 0) (sym all)
    ]

-- bytes that differ at a place first are told apart there
told_at : (n : ℕ) (a b : List ℕ) → ((i : ℕ) → i < n → get_or a i 0 ≡ get_or b i 0) → get_or a n 0 < get_or b n 0
    → slice_cmp nat_cmp a b ≡ Less
told_at zero [] [] same less = absurd (omega (arith, less))
told_at zero [] (y ∷ b) same less = refl
told_at zero (x ∷ a) [] same less = absurd (omega (arith, less))
told_at zero (x ∷ a) (y ∷ b) same less = rw (lt-ltb x y less) refl
told_at (suc n) [] [] same less = absurd (omega (arith, less))
told_at (suc n) [] (y ∷ b) same less = refl
told_at (suc n) (x ∷ a) [] same less = absurd (omega (arith, less))
told_at (suc n) (x ∷ a) (y ∷ b) same less =
    let first : x ≡ y = same 0 (omega arith) in
    ap (λ o. ordering_then o (slice_cmp nat_cmp a b)) (ap (nat_cmp x) (sym first) ∙ tied_itself nat_cmp_total x)
    ∙ told_at n a b (λ i low. same (suc i) (omega (arith, low))) less

-- the lower number is that of the lower word
pub lower : (n : ℕ) (a b : List ℕ) → AreBytes a → AreBytes b → front_number n a < front_number n b → slice_cmp nat_cmp a b ≡ Less
lower zero a b s t less = absurd (omega (arith, less))
lower (suc n) a b s t less =
    let x : get_or a n 0 < 256 = s n in
    let y : get_or b n 0 < 256 = t n in
    elim (cases_lt (front_number n a) (front_number n b)) [
      | inl low ↦ lower n a b s t low
      | inr rest ↦ told_at n a b (same_bytes n a b s t (omega (arith, less, rest, x, y))) (omega (arith, less, rest, x, y))
    ]

-- words with different numbers are told apart by these
pub told_by_fronts : (a b : List ℕ) (f g : ℕ) → AreBytes a → AreBytes b → f ≡ front_number 8 a → g ≡ front_number 8 b → f ≢ g
    → nat_cmp f g ≡ slice_cmp nat_cmp a b
told_by_fronts a b f g s t e h apart = elim (cases_lt f g) [
  | inl low ↦ rw (lt-ltb f g low) (sym (lower 8 a b s t (omega (arith, low, e, h))))
  | inr rest ↦
      let high : g < f = higher f g apart rest in
      let less : slice_cmp nat_cmp b a ≡ Less = lower 8 b a t s (omega (arith, high, e, h)) in
      greater f g high ∙ sym (nat_list_cmp_total.antisymm a b ∙ ap ordering_reverse less)
]
  where
    higher : (f g : ℕ) → f ≢ g → g ≤ f → g < f
    higher f g apart le = elim (cases_lt g f) [
      | inl low ↦ low
      | inr rest ↦ absurd (apart (omega (arith, le, rest)))
    ]

    is_less : (f g : ℕ) → f < g → nat_cmp f g ≡ Less
    is_less f g low = rw (lt-ltb f g low) refl

    greater : (f g : ℕ) → g < f → nat_cmp f g ≡ Greater
    greater f g high = nat_cmp_total.antisymm f g ∙ ap ordering_reverse (is_less g f high)
