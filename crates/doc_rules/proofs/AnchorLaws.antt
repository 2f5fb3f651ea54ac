-- Anchors are pairwise distinct.
use Rattle.std.proofs.Common.{◌≡◌, ℕ, zero, suc, ◌+◌, ◌<◌, ◌≤◌, ◌^◌, Bool, true, false, List, [], ◌∷◌, length, refl, ap, sym, ◌∙◌, subst}
use Rattle.std.proofs.Common.{arith}
use Rattle.std.specs.Prelude.{◌||◌, bytes_eq, decimal, drop}
use Rattle.std.specs.List.{AllByRecursion, IsDistinct}
use Rattle.std.specs.Set.{is_member}
use Rattle.std.proofs.lemmas.Fmt.{decimal_injective}
use Rattle.std.proofs.lemmas.List.{append_cancel_left}
use Rattle.std.proofs.lemmas.Slice.Eq.{bytes_eq-Decides}
use Rattle.std.proofs.lemmas.Cmp.{nat_list_eq_equiv}
use Rattle.std.proofs.lemmas.Map.Made.{length-le_from_is_member}
use Rattle.doc_rules.specs.Characters.{Text}
use Rattle.doc_rules.specs.Anchors.{is_used, with_number, free_number, free_anchor, anchor_name, anchors_behind}
use Rattle.doc_rules.specs.Laws.{AnchorsDiffer}
use Rattle.doc_page_parts.proofs.Bools.{or_first, or_second}

-- NAME-n, .., NAME-(n+most)
names_from : ℕ → ℕ → Text → List Text
names_from zero n name = with_number name n ∷ []
names_from (suc most) n name = with_number name n ∷ names_from most (suc n) name

abbrev AllUsed : List Text → List Text → Type 0
AllUsed used names = AllByRecursion (λ y. is_used used y ≡ true) names

all_used : (most n : ℕ) (used : List Text) (name : Text) → is_used used (free_number most n used name) ≡ true
    → AllUsed used (names_from most n name)
unfolding free_number names_from
all_used zero n used name e = (e, tt)
all_used (suc most) n used name e = at (λ f. all_used most (suc n) used name f) (is_used used (with_number name n)) refl e
  where
    at : (is_used used (free_number most (suc n) used name) ≡ true → AllUsed used (names_from most (suc n) name)) →
        (b : Bool) → is_used used (with_number name n) ≡ b →
        is_used used (elim b [ true ↦ free_number most (suc n) used name | false ↦ with_number name n ]) ≡ true
        → AllUsed used (with_number name n ∷ names_from most (suc n) name)
    at more true f g = (f, more g)
    at more false f g = absurd cc

same_number : (name : Text) (k n : ℕ) → k < 2 ^ 64 → n < 2 ^ 64 → with_number name k ≡ with_number name n → k ≡ n
same_number name k n h i e =
    decimal_injective k n h i (ap (drop 1) (append_cancel_left name (45 ∷ decimal k) (45 ∷ decimal n) e))

differ : (name : Text) (k n : ℕ) → k < n → n < 2 ^ 64 → (b : Bool) → bytes_eq (with_number name k) (with_number name n) ≡ b → b ≡ false
differ name k n h i false e = refl
differ name k n h i true e =
    let f : k ≡ n = same_number name k n (omega arith) i ((bytes_eq-Decides (with_number name k) (with_number name n)).0 e) in
    absurd (omega arith)

later_differ : (most n : ℕ) (name : Text) (k : ℕ) → k < n → n + most < 2 ^ 64
    → AllByRecursion (λ y. bytes_eq (with_number name k) y ≡ false) (names_from most n name)
unfolding names_from
later_differ zero n name k h i = (differ name k n h (omega arith) (bytes_eq (with_number name k) (with_number name n)) refl, tt)
later_differ (suc most) n name k h i = (
  differ name k n h (omega arith) (bytes_eq (with_number name k) (with_number name n)) refl,
  later_differ most (suc n) name k
      (omega arith) (omega arith),
)

names_differ : (most n : ℕ) (name : Text) → n + most < 2 ^ 64 → IsDistinct bytes_eq (names_from most n name)
unfolding names_from IsDistinct
names_differ zero n name h = (tt, tt)
names_differ (suc most) n name h = (
  later_differ most (suc n) name n (omega arith) (omega arith),
  names_differ most (suc n) name
      (omega arith),
)

names_count : (most n : ℕ) (name : Text) → length (names_from most n name) ≡ suc most
unfolding names_from
names_count zero n name = refl
names_count (suc most) n name = ap suc (names_count most (suc n) name)

members_used : (used names : List Text) (q : Text) → AllUsed used names → is_member bytes_eq names q ≡ true
    → is_member bytes_eq used q ≡ true
members_used used [] q h e = absurd cc
members_used used (name ∷ more) q h e = at (λ f. members_used used more q h.1 f) (bytes_eq q name) refl e
  where
    at : (is_member bytes_eq more q ≡ true → is_member bytes_eq used q ≡ true) → (b : Bool) → bytes_eq q name ≡ b
        → (b || is_member bytes_eq more q) ≡ true → is_member bytes_eq used q ≡ true
    at go true f g = subst (λ t. is_used used t ≡ true) (sym ((bytes_eq-Decides q name).0 f)) h.0
    at go false f g = go g

-- one of NAME-1, .., NAME-(count of the used + 1) is free
number_free : (used : List Text) (name : Text) → suc (length used) < 2 ^ 64 → (b : Bool)
    → is_used used (free_number (length used) 1 used name) ≡ b → b ≡ false
number_free used name h false e = refl
number_free used name h true e =
    let names : List Text = names_from (length used) 1 name in
    let i : AllUsed used names = all_used (length used) 1 used name e in
    let j : IsDistinct bytes_eq names = names_differ (length used) 1 name (omega arith) in
    let k : length names ≤ length used = length-le_from_is_member nat_list_eq_equiv names used j (λ q f. members_used used names q i f) in
    let l : length names ≡ suc (length used) = names_count (length used) 1 name in
    absurd (omega arith)

fresh_free : (used : List Text) (name : Text) → suc (length used) < 2 ^ 64 → is_used used (free_anchor used name) ≡ false
unfolding free_anchor
fresh_free used name h = at (is_used used name) refl
  where
    at : (b : Bool) → is_used used name ≡ b → is_used used (elim b [ true ↦ free_number (length used) 1 used name | false ↦ name ]) ≡ false
    at true e = number_free used name h (is_used used (free_number (length used) 1 used name)) refl
    at false e = e

abbrev AllFree : List Text → List Text → Type 0
AllFree used names = AllByRecursion (λ y. is_used used y ≡ false) names

-- free of one more is free, and differs from it
still_free : (used : List Text) (a : Text) (names : List Text) → AllFree (a ∷ used) names → AllFree used names
still_free used a [] h = tt
still_free used a (name ∷ more) h = (or_second (bytes_eq name a) (is_used used name) h.0, still_free used a more h.1)

differs_from : (used : List Text) (a : Text) (names : List Text) → AllFree (a ∷ used) names
    → AllByRecursion (λ y. bytes_eq a y ≡ false) names
differs_from used a [] h = tt
differs_from used a (name ∷ more) h = (
  nat_list_eq_equiv.symm a name
      ∙ or_first (bytes_eq name a) (is_used used name) h.0,
  differs_from used a more h.1,
)

after_differ : (used headings : List Text) → length used + length headings < 2 ^ 64
    → AllFree used (anchors_behind used headings) × IsDistinct bytes_eq (anchors_behind used headings)
unfolding anchors_behind IsDistinct
after_differ used [] h = (tt, tt)
after_differ used (heading ∷ more) h =
    let a : Text = free_anchor used (anchor_name heading) in
    let rest : AllFree (a ∷ used) (anchors_behind (a ∷ used) more)
    × IsDistinct bytes_eq (anchors_behind (a ∷ used) more) = after_differ (a ∷ used) more (omega arith) in (
      (fresh_free used (anchor_name heading) (omega arith), still_free used a (anchors_behind (a ∷ used) more) rest.0),
      (differs_from used a (anchors_behind (a ∷ used) more) rest.0, rest.1),
    )

pub anchors_differ : AnchorsDiffer
anchors_differ headings h = (after_differ [] headings (omega arith)).1
