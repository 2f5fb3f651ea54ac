-- The first and the last one of texts that are in order, by what they are among those that pass a test.
use Rattle.std.proofs.Common.{◌≡◌, ℕ, List, [], ◌∷◌, Bool, true, false, not, refl, ap, sym, subst, ◌∙◌}
use Rattle.std.specs.Prelude.{◌&&◌, ◌||◌, Option, Some, None}
use Rattle.std.specs.Cmp.Lexicographic.{slice_cmp}
use Rattle.std.specs.List.{AllByRecursion, last_or, list_any}
use Rattle.std.specs.List.Sorted.{IsStrictlySortedBy}
use Rattle.std.specs.Ordering.{is_lt, nat_cmp, ordering_reverse}
use Rattle.std.specs.declared.cmp.Ordering.{Ordering}
use Rattle.std.specs.declared.cmp.Ordering.TheVariants.{Less, Equal, Greater}
use Rattle.std.proofs.lemmas.Bool.{cond_both, true≢false}
use Rattle.std.proofs.lemmas.Cmp.{nat_list_cmp_total, tied_itself}
use Rattle.std.proofs.lemmas.Map.Lookups.{exact_bytes}
use Rattle.doc_page_parts.proofs.Bools.{clash}
use Rattle.doc_page_parts.proofs.Orders.{is_lt_true}
use Rattle.doc_store_readers.proofs.KeySteps.{same_key, same_from, same_itself}
use Rattle.doc_rows.specs.Looks.{before_text, first_from, first_of, from_text, greater, is_before, last_before, lesser}

abbrev cmp : List ℕ → List ℕ → Ordering
cmp = slice_cmp nat_cmp

-- ---- the order

pub less_is : (x y : List ℕ) → is_before x y ≡ true → cmp x y ≡ Less
less_is x y e = is_lt_true (cmp x y) e

pub before_trans : (x y z : List ℕ) → is_before x y ≡ true → is_before y z ≡ true → is_before x z ≡ true
before_trans x y z e f = ap is_lt (nat_list_cmp_total.trans x y z (less_is x y e) (less_is y z f))

pub not_itself : (x : List ℕ) → is_before x x ≡ false
not_itself x = ap is_lt (tied_itself nat_list_cmp_total x)

-- what comes before the one isn't behind it
pub not_after : (x y : List ℕ) → is_before x y ≡ true → is_before y x ≡ false
not_after x y e = by (is_before y x) refl
  where
    by : (b : Bool) → is_before y x ≡ b → b ≡ false
    by true f = absurd (clash (is_before x x) (before_trans x y x e f) (not_itself x))
    by false f = refl

-- neither comes before the other
pub neither : (x y : List ℕ) → is_before x y ≡ false → is_before y x ≡ false → x ≡ y
neither x y e f = by (cmp x y) refl
  where
    by : (o : Ordering) → cmp x y ≡ o → x ≡ y
    by Less less = absurd (true≢false (sym (ap is_lt less) ∙ e))
    by Equal same = exact_bytes x y same
    by Greater more = absurd (true≢false (sym (ap is_lt (nat_list_cmp_total.antisymm y x ∙ ap ordering_reverse more)) ∙ f))

-- what doesn't come before one that comes before another doesn't come before this
reaches : (x y z : List ℕ) → is_before x y ≡ true → is_before z y ≡ false → is_before z x ≡ false
reaches x y z e f = by (is_before z x) refl
  where
    by : (b : Bool) → is_before z x ≡ b → b ≡ false
    by true g = absurd (clash (is_before z y) (before_trans z x y g e) f)
    by false g = refl

reaches_back : (x y z : List ℕ) → is_before x y ≡ true → is_before x z ≡ false → is_before y z ≡ false
reaches_back x y z e f = by (is_before y z) refl
  where
    by : (b : Bool) → is_before y z ≡ b → b ≡ false
    by true g = absurd (clash (is_before x z) (before_trans x y z e g) f)
    by false g = refl

-- what reaches one that reaches another reaches this
pub at_most_trans : (x y z : List ℕ) → is_before y x ≡ false → is_before z y ≡ false → is_before z x ≡ false
at_most_trans x y z e f = by (is_before z x) refl (is_before y z) refl
  where
    by : (b : Bool) → is_before z x ≡ b → (c : Bool) → is_before y z ≡ c → b ≡ false
    by true g true h = absurd (clash (is_before y x) (before_trans y z x h g) e)
    by true g false h = absurd (clash (is_before y x) (subst (λ t. is_before t x ≡ true) (neither z y f h) g) e)
    by false g c h = refl

-- ---- the one that comes first, and the one that comes last

abbrev Test : Type 0
Test = List ℕ → Bool

-- of those that pass a test this one comes first
abbrev pub IsFirst : Test → Option (List ℕ) → Type 0
IsFirst passes None = (q : List ℕ) → passes q ≡ false
IsFirst passes (Some x) = (passes x ≡ true) × ((q : List ℕ) → passes q ≡ true → is_before q x ≡ false)

-- of those that pass a test this one comes last
abbrev pub IsLast : Test → Option (List ℕ) → Type 0
IsLast passes None = (q : List ℕ) → passes q ≡ false
IsLast passes (Some x) = (passes x ≡ true) × ((q : List ℕ) → passes q ≡ true → is_before x q ≡ false)

module _ (one other : Test) (alike : (q : List ℕ) → one q ≡ other q) where
  pub first_alike : (o : Option (List ℕ)) → IsFirst one o → IsFirst other o
  first_alike None h = λ q. sym (alike q) ∙ h q
  first_alike (Some x) h = (sym (alike x) ∙ h.0, λ q e. h.1 q (alike q ∙ e))

  pub last_alike : (o : Option (List ℕ)) → IsLast one o → IsLast other o
  last_alike None h = λ q. sym (alike q) ∙ h q
  last_alike (Some x) h = (sym (alike x) ∙ h.0, λ q e. h.1 q (alike q ∙ e))

module _ (passes : Test) where
  pub one_first : (a b : Option (List ℕ)) → IsFirst passes a → IsFirst passes b → a ≡ b
  one_first None None h k = refl
  one_first None (Some y) h k = absurd (clash (passes y) k.0 (h y))
  one_first (Some x) None h k = absurd (clash (passes x) h.0 (k x))
  one_first (Some x) (Some y) h k = ap Some (neither x y (k.1 x h.0) (h.1 y k.0))

  pub one_last : (a b : Option (List ℕ)) → IsLast passes a → IsLast passes b → a ≡ b
  one_last None None h k = refl
  one_last None (Some y) h k = absurd (clash (passes y) k.0 (h y))
  one_last (Some x) None h k = absurd (clash (passes x) h.0 (k x))
  one_last (Some x) (Some y) h k = ap Some (neither x y (h.1 y k.0) (k.1 x h.0))

-- ---- of two

pub either_true : (a b : Bool) (P : Type 0) → (a ≡ true → P) → (b ≡ true → P) → (a || b) ≡ true → P
either_true true b P f g e = f refl
either_true false b P f g e = g e

pub or_left : (a b : Bool) → a ≡ true → (a || b) ≡ true
or_left a b e = ap (λ x. x || b) e

pub or_right : (a b : Bool) → b ≡ true → (a || b) ≡ true
or_right true b e = refl
or_right false b e = e

module _ (one other : Test) where
  abbrev both : Test
  both q = one q || other q

  pub lesser_is_first : (a b : Option (List ℕ)) → IsFirst one a → IsFirst other b → IsFirst both (lesser a b)
  lesser_is_first None b h k = first_alike other both (λ q. ap (λ x. x || other q) (sym (h q))) b k
  lesser_is_first (Some x) None h k =
      (or_left (one x) (other x) h.0, λ q e. either_true (one q) (other q) _ (h.1 q) (λ f. absurd (clash (other q) f (k q))) e)
  lesser_is_first (Some x) (Some y) h k =
      cond_both (is_before y x) (Some y) (Some x) (IsFirst both)
      (λ less. (
        or_right (one y) (other y) k.0,
        λ q e. either_true (one q) (other q) _ (λ f. reaches y x q less (h.1 q f)) (k.1 q) e,
      ))
      (λ more. (
        or_left (one x) (other x) h.0,
        λ q e. either_true (one q) (other q) _ (h.1 q) (λ f. at_most_trans x y q more (k.1 q f)) e,
      ))

  pub greater_is_last : (a b : Option (List ℕ)) → IsLast one a → IsLast other b → IsLast both (greater a b)
  greater_is_last None b h k = last_alike other both (λ q. ap (λ x. x || other q) (sym (h q))) b k
  greater_is_last (Some x) None h k =
      (or_left (one x) (other x) h.0, λ q e. either_true (one q) (other q) _ (h.1 q) (λ f. absurd (clash (other q) f (k q))) e)
  greater_is_last (Some x) (Some y) h k =
      cond_both (is_before x y) (Some y) (Some x) (IsLast both)
      (λ less. (
        or_right (one y) (other y) k.0,
        λ q e. either_true (one q) (other q) _ (λ f. reaches_back x y q less (h.1 q f)) (k.1 q) e,
      ))
      (λ more. (
        or_left (one x) (other x) h.0,
        λ q e. either_true (one q) (other q) _ (h.1 q) (λ f. at_most_trans q y x (k.1 q f) more) e,
      ))

-- ---- in a list in order

-- a text is one of these
abbrev pub is_one : List (List ℕ) → Test
is_one texts q = list_any (same_key q) texts

all_of : (P : List ℕ → Type 0) (ks : List (List ℕ)) → AllByRecursion P ks → (q : List ℕ) → is_one ks q ≡ true → P q
all_of P [] all q e = absurd (true≢false (sym e))
all_of P (k ∷ ks) all q e =
    either_true (same_key q k) (is_one ks q) (P q) (λ same. subst P (sym (same_from q k same)) all.0) (all_of P ks all.1 q) e

pub split_and : (a b : Bool) → (a && b) ≡ true → (a ≡ true) × (b ≡ true)
split_and true b e = (refl, e)
split_and false b e = absurd (true≢false (sym e))

pub both_and : (a b : Bool) → a ≡ true → b ≡ true → (a && b) ≡ true
both_and true b e f = f
both_and false b e f = e

module _ (from : List ℕ) where
  abbrev pub is_from : Test
  is_from q = not (is_before q from)

  -- a text that comes before isn't looked at
  skipped : (k : List ℕ) (ks : List (List ℕ)) → is_from k ≡ false → (q : List ℕ)
      → (is_one ks q && is_from q) ≡ (is_one (k ∷ ks) q && is_from q)
  skipped k ks e q = by (same_key q k) refl
    where
      by : (b : Bool) → same_key q k ≡ b → (is_one ks q && is_from q) ≡ ((b || is_one ks q) && is_from q)
      by true same = none (is_one ks q) (is_from q) (ap is_from (same_from q k same) ∙ e)
        where
          none : (a b : Bool) → b ≡ false → (a && b) ≡ (true && b)
          none true b e = refl
          none false b e = sym e
      by false same = refl

  -- of those in a list in order that don't come before the text the first one comes first
  pub first_is_first : (ks : List (List ℕ)) → IsStrictlySortedBy (slice_cmp nat_cmp) ks
      → IsFirst (λ q. is_one ks q && is_from q) (first_from from ks)
  unfolding IsStrictlySortedBy
  first_is_first [] sorted = λ q. refl
  first_is_first (k ∷ ks) sorted =
      cond_both (is_from k) (k ∷ from_text from ks) (from_text from ks)
      (λ them. IsFirst (λ q. is_one (k ∷ ks) q && is_from q) (first_of them))
      (λ yes. (
        both_and (is_one (k ∷ ks) k) (is_from k) (or_left (same_key k k) (is_one ks k) (same_itself k)) yes,
        λ q e. either_true (same_key q k) (is_one ks q) (is_before q k ≡ false)
            (λ same. ap (λ z. is_before z k) (same_from q k same) ∙ not_itself k)
            (λ one. not_after k q (ap is_lt (all_of (λ q. cmp k q ≡ Less) ks sorted.0 q one)))
            (split_and (is_one (k ∷ ks) q) (is_from q) e).0,
      ))
      (λ no. first_alike (λ q. is_one ks q && is_from q) (λ q. is_one (k ∷ ks) q && is_from q) (skipped k ks no) (first_from from ks)
      (first_is_first ks sorted.1))

module _ (before : List ℕ) where
  abbrev pub is_short : Test
  is_short q = is_before q before

  -- one text more among those that were looked at
  taken : (seen : Test) (k : List ℕ) (ks : List (List ℕ)) → is_short k ≡ true → (q : List ℕ)
      → ((seen q || same_key q k) || (is_one ks q && is_short q)) ≡ (seen q || (is_one (k ∷ ks) q && is_short q))
  taken seen k ks e q = by (seen q) (same_key q k) refl
    where
      by : (a b : Bool) → same_key q k ≡ b → ((a || b) || (is_one ks q && is_short q)) ≡ (a || ((b || is_one ks q) && is_short q))
      by true b same = refl
      by false true same = sym (ap is_short (same_from q k same) ∙ e)
      by false false same = refl

  passed : (seen : Test) (k : List ℕ) (ks : List (List ℕ)) → is_short k ≡ false → (q : List ℕ)
      → (seen q || (is_one ks q && is_short q)) ≡ (seen q || (is_one (k ∷ ks) q && is_short q))
  passed seen k ks e q = by (seen q) (same_key q k) refl
    where
      none : (a b : Bool) → b ≡ false → (a && b) ≡ (true && b)
      none true b e = refl
      none false b e = sym e

      by : (a b : Bool) → same_key q k ≡ b → (a || (is_one ks q && is_short q)) ≡ (a || ((b || is_one ks q) && is_short q))
      by true b same = refl
      by false true same = none (is_one ks q) (is_short q) (ap is_short (same_from q k same) ∙ e)
      by false false same = refl

  last_of_more : (ks : List (List ℕ)) → IsStrictlySortedBy (slice_cmp nat_cmp) ks → (seen : Test) (o : Option (List ℕ)) → IsLast seen o
      → ((q : List ℕ) → seen q ≡ true → AllByRecursion (λ k. cmp q k ≡ Less) ks)
      → IsLast (λ q. seen q || (is_one ks q && is_short q)) (last_or o (before_text before ks))
  unfolding IsStrictlySortedBy
  last_of_more [] sorted seen o last below = last_alike seen (λ q. seen q || false) (λ q. plain (seen q)) o last
    where
      plain : (b : Bool) → b ≡ (b || false)
      plain true = refl
      plain false = refl
  last_of_more (k ∷ ks) sorted seen o last below =
      cond_both (is_short k) (k ∷ before_text before ks) (before_text before ks)
      (λ them. IsLast (λ q. seen q || (is_one (k ∷ ks) q && is_short q)) (last_or o them))
      (λ yes. last_alike (λ q. (seen q || same_key q k) || (is_one ks q && is_short q))
      (λ q. seen q || (is_one (k ∷ ks) q && is_short q)) (taken seen k ks yes) (last_or (Some k) (before_text before ks))
      (last_of_more ks sorted.1 (λ q. seen q || same_key q k) (Some k) (
        or_right (seen k) (same_key k k) (same_itself k),
        λ q e. either_true (seen q) (same_key q k) (is_before k q ≡ false) (λ s. not_after q k (ap is_lt (below q s).0))
            (λ same. ap (is_before k) (same_from q k same) ∙ not_itself k) e,
      )
      (λ q e. either_true (seen q) (same_key q k) (AllByRecursion (λ k. cmp q k ≡ Less) ks) (λ s. (below q s).1)
      (λ same. subst (λ z. AllByRecursion (λ k. cmp z k ≡ Less) ks) (sym (same_from q k same)) sorted.0) e)))
      (λ no. last_alike (λ q. seen q || (is_one ks q && is_short q)) (λ q. seen q || (is_one (k ∷ ks) q && is_short q))
      (passed seen k ks no) (last_or o (before_text before ks))
      (last_of_more ks sorted.1 seen o last (λ q s. (below q s).1)))

  -- of those in a list in order that come before the text the last one comes last
  pub last_is_last : (ks : List (List ℕ)) → IsStrictlySortedBy (slice_cmp nat_cmp) ks
      → IsLast (λ q. is_one ks q && is_short q) (last_before before ks)
  last_is_last ks sorted = last_of_more ks sorted (λ q. false) None (λ q. refl) (λ q e. absurd (true≢false (sym e)))
