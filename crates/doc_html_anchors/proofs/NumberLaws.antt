-- Names with numbers: which number is the first that is free.
use Rattle.std.proofs.Common.{rules, ◌≡◌, ℕ, zero, suc, ◌+◌, ◌<◌, ◌≤◌, ◌^◌, Bool, true, false, List, [], ◌∷◌, length, refl, ap, sym, ◌∙◌}
use Rattle.std.proofs.Common.{subst, arith, inl, inr}
use Rattle.std.specs.Prelude.{◌||◌, bytes_eq, decimal, drop, chars, ◌++◌}
use Rattle.std.specs.List.{AllByRecursion, IsDistinct}
use Rattle.std.specs.Set.{is_member}
use Rattle.std.proofs.lemmas.Bool.{cases_lt}
use Rattle.std.proofs.lemmas.Fmt.{decimal_injective}
use Rattle.std.specs.Str.{IsUtf8, IsAscii}
use Rattle.std.proofs.lemmas.Fmt.{IsAscii-decimal}
use Rattle.std.proofs.lemmas.Str.{chars-append, chars-IsAscii}
use Rattle.std.proofs.lemmas.List.{append_cancel_left}
use Rattle.std.proofs.lemmas.Slice.Eq.{bytes_eq-Decides}
use Rattle.std.proofs.lemmas.Cmp.{nat_list_eq_equiv}
use Rattle.std.proofs.lemmas.Map.Made.{length-le_from_is_member}
use Rattle.doc_rules.specs.Characters.{Text}
use Rattle.doc_rules.specs.Anchors.{is_used, with_number, free_number, free_anchor}
use Rattle.doc_html_anchors.specs.Numbers.{AreUsed, IsNext}
use Rattle.doc_html_anchors.specs.Uses.{IsAnchor}

-- ---- how a number is spelled

dash_ascii : (bs : List ℕ) → IsAscii bs → IsAscii (45 ∷ bs)
dash_ascii bs h = search rules

-- the bytes of a name, '-' and a number spell the name with the number
pub spelled : (name out : List ℕ) (n : ℕ) → IsUtf8 name → n < 2 ^ 64 → out ≡ name ++ (45 ∷ decimal n)
    → chars out ≡ with_number (chars name) n
spelled name out n u h e =
    ap chars e ∙ chars-append name (45 ∷ decimal n) u ∙ ap (λ t. chars name ++ t)
    (chars-IsAscii (45 ∷ decimal n) (dash_ascii (decimal n) (IsAscii-decimal n h)))

-- ---- numbers that are used are no more than the names used

-- NAME-n, .., NAME-1
numbered : ℕ → Text → List Text
numbered zero name = []
numbered (suc n) name = with_number name (suc n) ∷ numbered n name

numbered_count : (n : ℕ) (name : Text) → length (numbered n name) ≡ n
unfolding numbered
numbered_count zero name = refl
numbered_count (suc n) name = ap suc (numbered_count n name)

differ : (name : Text) (k n : ℕ) → k < n → n < 2 ^ 64 → (b : Bool) → bytes_eq (with_number name n) (with_number name k) ≡ b → b ≡ false
differ name k n h i false e = refl
differ name k n h i true e =
    let same : with_number name n ≡ with_number name k = (bytes_eq-Decides (with_number name n) (with_number name k)).0 e in
    let f : n ≡ k = decimal_injective n k i (omega arith) (ap (drop 1) (append_cancel_left name (45 ∷ decimal n) (45 ∷ decimal k) same)) in
    absurd (omega arith)

lower_differ : (k : ℕ) (name : Text) (n : ℕ) → k < n → n < 2 ^ 64
    → AllByRecursion (λ y. bytes_eq (with_number name n) y ≡ false) (numbered k name)
unfolding numbered
lower_differ zero name n h i = tt
lower_differ (suc k) name n h i =
    (differ name (suc k) n h i (bytes_eq (with_number name n) (with_number name (suc k))) refl, lower_differ k name n (omega arith) i)

numbered_distinct : (n : ℕ) (name : Text) → n < 2 ^ 64 → IsDistinct bytes_eq (numbered n name)
unfolding numbered IsDistinct
numbered_distinct zero name h = tt
numbered_distinct (suc n) name h = (lower_differ n name (suc n) (omega arith) h, numbered_distinct n name (omega arith))

below_less : (used : List Text) (name : Text) (n : ℕ) → AreUsed used name 1 (suc (suc n)) → AreUsed used name 1 (suc n)
below_less used name n h k i j = h k i (omega arith)

numbered_used : (used : List Text) (n : ℕ) (name q : Text) → AreUsed used name 1 (suc n) → is_member bytes_eq (numbered n name) q ≡ true
    → is_member bytes_eq used q ≡ true
unfolding numbered
numbered_used used zero name q h e = absurd cc
numbered_used used (suc n) name q h e = at (λ f. numbered_used used n name q (below_less used name n h) f)
    (bytes_eq q (with_number name (suc n))) refl e
  where
    last : is_used used (with_number name (suc n)) ≡ true
    last = h (suc n) (omega arith) (omega arith)

    at : (is_member bytes_eq (numbered n name) q ≡ true → is_member bytes_eq used q ≡ true) → (b : Bool)
        → bytes_eq q (with_number name (suc n)) ≡ b → (b || is_member bytes_eq (numbered n name) q) ≡ true
        → is_member bytes_eq used q ≡ true
    at go true f g = subst (λ t. is_used used t ≡ true) (sym ((bytes_eq-Decides q (with_number name (suc n))).0 f)) last
    at go false f g = go g

fewer_than_used : (used : List Text) (name : Text) (n : ℕ) → n < 2 ^ 64 → AreUsed used name 1 (suc n) → n ≤ length used
fewer_than_used used name n h i =
    let most : length (numbered n name) ≤ length used =
    length-le_from_is_member nat_list_eq_equiv (numbered n name) used (numbered_distinct n name h) (λ q f. numbered_used used n name q i f)
    in
    let count : length (numbered n name) ≡ n = numbered_count n name in
    omega arith

-- ---- the first number that is free

-- what a test chooses
chosen : (b : Bool) (x y : Text) → b ≡ true → elim b [ true ↦ x | false ↦ y ] ≡ x
chosen true x y e = refl
chosen false x y e = absurd cc

left_over : (b : Bool) (x y : Text) → b ≡ false → elim b [ true ↦ x | false ↦ y ] ≡ y
left_over true x y e = absurd cc
left_over false x y e = refl

found : (most n k : ℕ) (used : List Text) (name : Text) → n ≤ k → k ≤ n + most → AreUsed used name n k
    → is_used used (with_number name k) ≡ false → free_number most n used name ≡ with_number name k
unfolding free_number
found zero n k used name h i below free = let same : n ≡ k = omega arith in ap (with_number name) same
found (suc most) n k used name h i below free =
    elim (cases_lt n k) [
      | inl less ↦
          chosen (is_used used (with_number name n)) (free_number most (suc n) used name) (with_number name n) (below n (omega arith) less)
          ∙ found most (suc n) k used name (omega arith) (omega arith) (λ m p q. below m (omega arith) q) free
      | inr reached ↦
          let same : n ≡ k = omega arith in
          let free_here : is_used used (with_number name n) ≡ false = subst (λ (m : ℕ). is_used used (with_number name m) ≡ false)
          (sym same) free in
          left_over (is_used used (with_number name n)) (free_number most (suc n) used name) (with_number name n) free_here
          ∙ ap (with_number name) same
    ]

at_most : (used : List Text) (name : Text) (n : ℕ) → 1 ≤ n → n < 2 ^ 64 → AreUsed used name 1 n → n ≤ 1 + length used
at_most used name zero h i below = omega arith
at_most used name (suc n) h i below = let fits : n ≤ length used = fewer_than_used used name n (omega arith) below in omega arith

-- ---- anchors

-- a name that is free is its own anchor
pub own_name : (kept : List Text) (name : Text) → is_used kept name ≡ false → IsAnchor kept name name
unfolding free_anchor
own_name kept name free used same = sym (left_over (is_used used name) (free_number (length used) 1 used name) name (same name ∙ free))

-- a name that is used gets the first number that is free
pub first_number : (kept : List Text) (name : Text) (n : ℕ) → is_used kept name ≡ true → 1 ≤ n → n < 2 ^ 64 → AreUsed kept name 1 n
    → is_used kept (with_number name n) ≡ false → IsAnchor kept name (with_number name n)
unfolding free_anchor
first_number kept name n taken h i below free used same =
    let below_too : AreUsed used name 1 n = λ k p q. same (with_number name k) ∙ below k p q in
    sym (chosen (is_used used name) (free_number (length used) 1 used name) name (same name ∙ taken)
    ∙ found (length used) 1 n used name h (at_most used name n h i below_too) below_too (same (with_number name n) ∙ free))

-- all numbers below the one that was found are used, if those below the first that was tried are
pub all_below : (kept : List Text) (name : Text) (first n : ℕ) → AreUsed kept name 1 first → IsNext kept name first n
    → AreUsed kept name 1 n
all_below kept name first n before next k h i = elim (cases_lt k first)
    [ inl less ↦ before k h less | inr reached ↦ next.below k reached i ]

-- one more
pub one_below : (kept : List Text) (name : Text) (first n : ℕ) → AreUsed kept name first n → is_used kept (with_number name n) ≡ true
    → AreUsed kept name first (n + 1)
one_below kept name first n before here k h i = elim (cases_lt k n) [
  | inl less ↦ before k h less
  | inr reached ↦ let same : n ≡ k = omega arith in subst (λ (m : ℕ). is_used kept (with_number name m) ≡ true) same here
]
