-- The search for one of some pages, which stand in the order of their paths.
use Rattle.std.proofs.Common.{◌≡◌, ℕ, zero, suc, ◌<◌, ◌≤◌, List, [], ◌∷◌, Bool, true, false, cond, get_or, length, is_eq, refl, ap, sym, subst, ◌∙◌, inl, inr, arith}
use Rattle.std.specs.Prelude.{Some, None, Err, bytes_eq, map as mapped}
use Rattle.std.specs.declared.cmp.Ordering.{Ordering}
use Rattle.std.specs.declared.cmp.Ordering.TheVariants.{Less, Equal, Greater}
use Rattle.std.specs.Cmp.Lexicographic.{slice_cmp}
use Rattle.std.specs.List.{AllByRecursion}
use Rattle.std.specs.List.Sorted.{IsBinarySearchResult, IsNonDecreasingBy, IsStrictlySortedBy}
use Rattle.std.specs.Map.{keys_of}
use Rattle.std.specs.Ordering.{nat_cmp, ordering_index}
use Rattle.std.proofs.lemmas.Bool.{cases_lt}
use Rattle.std.proofs.lemmas.Cmp.{nat_list_cmp_total, tied_itself}
use Rattle.std.proofs.lemmas.List.{get_or_default}
use Rattle.std.proofs.lemmas.Map.Lookups.{exact_bytes}
use Rattle.std.proofs.lemmas.Map.Text.{is_eq-slice_cmp}
use Rattle.doc_links_seen.specs.SeenSteps.{IsInOrder}
use Rattle.doc_links_pages.specs.Links.{page_at}
use Rattle.doc_links_pages.specs.declared.page_links.PageLinks.{PageLinks}
use Rattle.doc_page_parts.proofs.Orders.{is_eq_true}

abbrev pub path_cmp : List ℕ → List ℕ → Ordering
path_cmp x y = slice_cmp nat_cmp x y

module _ {A : Type 0} (page : A → List ℕ × PageLinks) (path : List ℕ) where
  before_at : (x : List ℕ) (xs : List A) (i : ℕ) (d : A) → i < length xs
      → AllByRecursion (λ y. path_cmp x y ≡ Less) (keys_of (mapped page xs)) → path_cmp x (page (get_or xs i d)).0 ≡ Less
  before_at x [] i d lt before = absurd (omega (arith, lt))
  before_at x (y ∷ ys) zero d lt before = before.0
  before_at x (y ∷ ys) (suc i) d lt before = before_at x ys i d (omega (arith, lt)) before.1

  found : (xs : List A) (i : ℕ) (d : A) → IsInOrder (mapped page xs) → i < length xs → path_cmp (page (get_or xs i d)).0 path ≡ Equal
      → page_at (mapped page xs) path ≡ Some (page (get_or xs i d))
  unfolding IsStrictlySortedBy
  found [] i d sorted lt is = absurd (omega (arith, lt))
  found (x ∷ xs) zero d sorted lt is =
      ap (λ b. cond b (Some (page x)) (page_at (mapped page xs) path)) (sym (is_eq-slice_cmp (page x).0 path) ∙ ap is_eq is)
  found (x ∷ xs) (suc i) d sorted lt is =
      ap (λ b. cond b (Some (page x)) (page_at (mapped page xs) path)) (sym (is_eq-slice_cmp (page x).0 path) ∙ ap is_eq
      (ap (path_cmp (page x).0) (sym (exact_bytes (page (get_or xs i d)).0 path is))
      ∙ before_at (page x).0 xs i d (omega (arith, lt)) sorted.0))
      ∙ found xs i d sorted.1 (omega (arith, lt)) is

  absent : (xs : List A) → ((i : ℕ) (d : A) → i < length xs → path_cmp (page (get_or xs i d)).0 path ≡ Equal → ⊥)
      → page_at (mapped page xs) path ≡ None
  absent [] none = refl
  absent (x ∷ xs) none = by (bytes_eq (page x).0 path) refl (absent xs (λ i d lt is. none (suc i) d (omega (arith, lt)) is))
    where
      by : (b : Bool) → bytes_eq (page x).0 path ≡ b → page_at (mapped page xs) path ≡ None
          → cond b (Some (page x)) (page_at (mapped page xs) path) ≡ None
      by true e rest =
          absurd (none zero x (omega arith) (is_eq_true (path_cmp (page x).0 path) (is_eq-slice_cmp (page x).0 path ∙ e)))
      by false e rest = rest

  at_most : (o : Ordering) → ordering_index o ≤ 2
  at_most Less = omega arith
  at_most Equal = omega arith
  at_most Greater = omega arith

  rises : (a b : List ℕ) → path_cmp a b ≡ Less → ordering_index (path_cmp a path) ≤ ordering_index (path_cmp b path)
  rises a b lower = by (path_cmp b path) refl
    where
      by : (o : Ordering) → path_cmp b path ≡ o → ordering_index (path_cmp a path) ≤ ordering_index o
      by Less is =
          let low : ordering_index (path_cmp a path) ≡ 0 = ap ordering_index (nat_list_cmp_total.trans a b path lower is) in
          omega (arith, low)
      by Equal is =
          let low : ordering_index (path_cmp a path) ≡ 0 = ap ordering_index (ap (path_cmp a) (sym (exact_bytes b path is)) ∙ lower) in
          omega (arith, low)
      by Greater is = at_most (path_cmp a path)

  lower_at : (xs : List A) → IsInOrder (mapped page xs) → (i j : ℕ) (d : A) → i < j → j < length xs
      → path_cmp (page (get_or xs i d)).0 (page (get_or xs j d)).0 ≡ Less
  unfolding IsStrictlySortedBy
  lower_at [] sorted i j d lt within = absurd (omega (arith, within))
  lower_at (x ∷ xs) sorted i zero d lt within = absurd (omega (arith, lt))
  lower_at (x ∷ xs) sorted zero (suc j) d lt within = before_at (page x).0 xs j d (omega (arith, within)) sorted.0
  lower_at (x ∷ xs) sorted (suc i) (suc j) d lt within = lower_at xs sorted.1 i j d (omega (arith, lt)) (omega (arith, within))

  module _ (xs : List A) (sorted : IsInOrder (mapped page xs)) where
    searchable : IsNonDecreasingBy (λ x. ordering_index (path_cmp (page x).0 path)) xs
    searchable i j d le within = elim (cases_lt i j) [
      | inl lt ↦ rises (page (get_or xs i d)).0 (page (get_or xs j d)).0 (lower_at xs sorted i j d lt within)
      | inr ge ↦
          let same : i ≡ j = omega (arith, le, ge) in
          subst (λ k. ordering_index (path_cmp (page (get_or xs i d)).0 path)
          ≤ ordering_index (path_cmp (page (get_or xs k d)).0 path)) same
          (omega arith)
    ]

    not_both : (o : Ordering) → o ≡ Less → o ≡ Equal → ⊥
    not_both o a b = cc

    not_greater : (o : Ordering) → o ≡ Greater → o ≡ Equal → ⊥
    not_greater o a b = cc

    -- what a binary search finds among these pages
    pub searched_found : (at : ℕ) (x : A) → x ≡ get_or xs at x → at < length xs
        → ((d : A) → path_cmp (page (get_or xs at d)).0 path ≡ Equal) → Some (page x) ≡ page_at (mapped page xs) path
    searched_found at x is within equal = ap (λ y. Some (page y)) is ∙ sym (found xs at x sorted within (equal x))

    pub searched_absent : (at : ℕ) → IsBinarySearchResult (λ x. path_cmp (page x).0 path) xs (Err at)
        → None ≡ page_at (mapped page xs) path
    searched_absent at parted = sym (absent xs (λ i d lt is. elim (cases_lt i at) [
      | inl below ↦ not_both (path_cmp (page (get_or xs i d)).0 path) ((parted searchable).0 i d (omega arith) below) is
      | inr above ↦ not_greater (path_cmp (page (get_or xs i d)).0 path) ((parted searchable).1 i d above lt) is
    ]))

    -- the page at a place, by its path
    pub standing : (at : ℕ) (x : A) → x ≡ get_or xs at x → at < length xs → (page x).0 ≡ path
        → Some (page x) ≡ page_at (mapped page xs) path
    standing at x is within same =
        searched_found at x is within (λ d.
        ap (λ y. path_cmp (page y).0 path) (sym (is ∙ get_or_default xs at x d within))
        ∙ ap (λ p. path_cmp p path) same
        ∙ tied_itself nat_list_cmp_total path)
