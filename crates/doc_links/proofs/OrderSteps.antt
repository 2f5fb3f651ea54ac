-- Pages in the order of their paths.
use Rattle.std.proofs.Common.{◌≡◌, ℕ, List, [], ◌∷◌, Bool, true, false, cond, ◌||◌, is_eq, refl, ap, sym, subst, ◌∙◌}
use Rattle.std.specs.Prelude.{Option, Some, None, bytes_eq, map as mapped}
use Rattle.std.specs.declared.cmp.Ordering.{Ordering}
use Rattle.std.specs.declared.cmp.Ordering.TheVariants.{Less, Equal, Greater}
use Rattle.std.specs.Cmp.Lexicographic.{slice_cmp}
use Rattle.std.specs.FinMap as map
use Rattle.std.specs.List.{AllByRecursion, filter, list_any}
use Rattle.std.specs.List.Sorted.{IsStrictlySortedBy}
use Rattle.std.specs.Map.{keys_of}
use Rattle.std.specs.Ordering.{nat_cmp, ordering_then}
use Rattle.std.proofs.lemmas.Cmp.{nat_cmp_total, tied_itself}
use Rattle.std.proofs.lemmas.Map.Lookups.{exact_bytes}
use Rattle.doc_index_tables.specs.Maps.{PairMap, pair_cmp}
use Rattle.doc_index_tables.proofs.PairSteps.{pairs_total, same_pair}
use Rattle.doc_page_parts.specs.Sights.{leads_to_itself, seen}
use Rattle.doc_links_seen.proofs.SearchSteps.{path_cmp}
use Rattle.doc_links_seen.specs.Numbered.{AreSeen}
use Rattle.doc_links_seen.specs.SeenSteps.{IsInOrder}
use Rattle.doc_page_parts.proofs.Texts.{bytes_eq_true}
use Rattle.doc_links_pages.specs.Links.{page_at}
use Rattle.doc_links_pages.specs.PageLinks.{IsOnce, pages_of}
use Rattle.doc_links_pages.specs.declared.page_links.PageLinks.{PageLinks}
use Rattle.doc_links.proofs.MapSteps.{sorted_is}

abbrev Key : Type 0
Key = List ℕ × ℕ

or_later : (a b : Bool) → b ≡ true → (a || b) ≡ true
or_later true b e = refl
or_later false b e = e

own : (k : Key) (ks : List Key) → list_any (same_pair k) (k ∷ ks) ≡ true
own k ks = ap (λ b. b || list_any (same_pair k) ks) (ap is_eq (tied_itself pairs_total k))

less : (k y : Key) → (k.0 ≡ y.0 → k.1 ≡ y.1) → pair_cmp k y ≡ Less → path_cmp k.0 y.0 ≡ Less
less k y same = by (path_cmp k.0 y.0) refl
  where
    by : (o : Ordering) → path_cmp k.0 y.0 ≡ o → ordering_then o (nat_cmp k.1 y.1) ≡ Less → o ≡ Less
    by Less is e = refl
    by Equal is e = sym (tied_itself nat_cmp_total k.1) ∙ ap (nat_cmp k.1) (same (exact_bytes k.0 y.0 is)) ∙ e
    by Greater is e = e

before_paths : (k : Key) (es : List (Key × PageLinks))
    → ((y : Key) → list_any (same_pair y) (keys_of es) ≡ true → k.0 ≡ y.0 → k.1 ≡ y.1)
    → AllByRecursion (λ y. pair_cmp k y ≡ Less) (keys_of es)
    → AllByRecursion (λ y. path_cmp k.0 y ≡ Less) (keys_of (mapped (λ e. (e.0.0, e.1)) es))
before_paths k [] once before = tt
before_paths k (e ∷ es) once before = (
  less k e.0 (once e.0 (own e.0 (keys_of es))) before.0,
  before_paths k es (λ y is. once y (or_later (same_pair y e.0) (list_any (same_pair y) (keys_of es)) is)) before.1,
)

paths_in_order : (es : List (Key × PageLinks)) → IsStrictlySortedBy pair_cmp (keys_of es)
    → ((x y : Key) → list_any (same_pair x) (keys_of es) ≡ true → list_any (same_pair y) (keys_of es) ≡ true → x.0 ≡ y.0 → x.1 ≡ y.1)
    → IsStrictlySortedBy (slice_cmp nat_cmp) (keys_of (mapped (λ e. (e.0.0, e.1)) es))
unfolding IsStrictlySortedBy
paths_in_order [] sorted once = tt
paths_in_order (e ∷ es) sorted once = (
  before_paths e.0 es (λ y is. once e.0 y (own e.0 (keys_of es))
      (or_later (same_pair y e.0) (list_any (same_pair y) (keys_of es)) is)) sorted.0,
  paths_in_order es sorted.1 (λ x y hx hy. once x y (or_later (same_pair x e.0) (list_any (same_pair x) (keys_of es)) hx)
      (or_later (same_pair y e.0) (list_any (same_pair y) (keys_of es)) hy)),
)

-- where each path has one stamp at most, the pages are in the order of their paths
pub once_in_order : (held : PairMap PageLinks) → IsOnce held → IsInOrder (pages_of held)
once_in_order held once =
    paths_in_order (map.entries held) (sorted_is pair_cmp (map.entries held) (map.entries_sorted held)) (λ x y hx hy same.
    once x.0 x.1 y.1 (map.contains_key-keys held x ∙ hx)
    (ap (λ p. map.contains_key held (p, y.1)) same ∙ map.contains_key-keys held y ∙ hy))

module _ (p : List ℕ × PageLinks → Bool) where
  before_filtered : (k : List ℕ) (pages : List (List ℕ × PageLinks)) → AllByRecursion (λ y. path_cmp k y ≡ Less) (keys_of pages)
      → AllByRecursion (λ y. path_cmp k y ≡ Less) (keys_of (filter p pages))
  before_filtered k [] before = tt
  before_filtered k (page ∷ pages) before = by (p page) (before_filtered k pages before.1)
    where
      by : (b : Bool) → AllByRecursion (λ y. path_cmp k y ≡ Less) (keys_of (filter p pages))
          → AllByRecursion (λ y. path_cmp k y ≡ Less) (keys_of (cond b (page ∷ filter p pages) (filter p pages)))
      by true rest = (before.0, rest)
      by false rest = rest

  pub filtered_in_order : (pages : List (List ℕ × PageLinks)) → IsInOrder pages → IsInOrder (filter p pages)
  unfolding IsStrictlySortedBy
  filtered_in_order [] sorted = tt
  filtered_in_order (page ∷ pages) sorted =
      by (p page) (before_filtered page.0 pages sorted.0) (filtered_in_order pages sorted.1)
    where
      by : (b : Bool) → AllByRecursion (λ y. path_cmp page.0 y ≡ Less) (keys_of (filter p pages))
          → IsStrictlySortedBy (slice_cmp nat_cmp) (keys_of (filter p pages))
          → IsStrictlySortedBy (slice_cmp nat_cmp) (keys_of (cond b (page ∷ filter p pages) (filter p pages)))
      by true before rest = (before, rest)
      by false before rest = rest

-- the pages that are seen are in the order of their paths
pub seen_in_order : (goals : List ℕ → Option (List ℕ)) (held : PairMap PageLinks) (pages : List (List ℕ × PageLinks)) → IsOnce held
    → pages ≡ seen goals (pages_of held) → IsInOrder pages
seen_in_order goals held pages once is =
    subst IsInOrder (sym is)
    (filtered_in_order (λ page. leads_to_itself (goals page.0) page.0) (pages_of held) (once_in_order held once))

module _ (goals : List ℕ → Option (List ℕ)) where
  filtered_are_seen : (pages : List (List ℕ × PageLinks)) → AreSeen goals (seen goals pages)
  filtered_are_seen [] path page is = absurd (no_page is)
    where
      no_page : {x : List ℕ × PageLinks} → None ≡ Some x → ⊥
      no_page e = cc
  filtered_are_seen (x ∷ pages) path page is =
      by (leads_to_itself (goals x.0) x.0) refl is (filtered_are_seen pages path page)
    where
      first : leads_to_itself (goals x.0) x.0 ≡ true → (b : Bool) → bytes_eq x.0 path ≡ b
          → cond b (Some x) (page_at (seen goals pages) path) ≡ Some page
          → (page_at (seen goals pages) path ≡ Some page → leads_to_itself (goals path) path ≡ true)
          → leads_to_itself (goals path) path ≡ true
      first sees true same is rest = subst (λ p. leads_to_itself (goals p) p ≡ true) (bytes_eq_true x.0 path same) sees
      first sees false same is rest = rest is

      by : (b : Bool) → leads_to_itself (goals x.0) x.0 ≡ b
          → page_at (cond b (x ∷ seen goals pages) (seen goals pages)) path ≡ Some page
          → (page_at (seen goals pages) path ≡ Some page → leads_to_itself (goals path) path ≡ true)
          → leads_to_itself (goals path) path ≡ true
      by true sees is rest = first sees (bytes_eq x.0 path) refl is rest
      by false hidden is rest = rest is

  -- the pages that are seen are so
  pub they_are_seen : (held : PairMap PageLinks) (pages : List (List ℕ × PageLinks)) → pages ≡ seen goals (pages_of held) → AreSeen goals pages
  they_are_seen held pages is = subst (AreSeen goals) (sym is) (filtered_are_seen (pages_of held))
