-- Looks for the pages of a view that write one of some names.
use Rattle.std.proofs.Common.{◌≡◌, ℕ, ◌+◌, ◌<◌, ◌≤◌, List, [], ◌∷◌, ◌++◌, Bool, true, false, cond, ◌||◌, ◌&&◌, not, filter, take, length, refl, ap, sym, subst, ◌∙◌}
use Rattle.std.specs.Prelude.{Option, Some, None, bytes_eq, get_or, map as mapped}
use Rattle.std.specs.Borrow.{Bor}
use Rattle.std.specs.Cmp.{nat_cmp_is}
use Rattle.std.specs.Cmp.Lexicographic.{slice_cmp}
use Rattle.std.specs.FinMap as map
use Rattle.std.specs.List.{list_any}
use Rattle.std.specs.List.Sorted.{IsStrictlySortedBy}
use Rattle.std.specs.Ordering.{is_lt, nat_cmp, ordering_then}
use Rattle.std.specs.declared.cmp.Ordering.TheVariants.{Equal}
use Rattle.std.proofs.lemmas.Bool.{true≢false}
use Rattle.std.proofs.lemmas.List.{take_more, map-append}
use Rattle.std.proofs.lemmas.List.Folds.{list_any-append}
use Rattle.doc_links_pages.specs.Names.{writes}
use Rattle.doc_page_parts.proofs.Bools.{or_true}
use Rattle.doc_rows.proofs.LookLaws.{first_alike, first_is_first, is_from, is_one, lesser_is_first, one_first}
use Rattle.doc_rows.specs.Looks.{first_from, first_of, from_text, is_before, lesser}
use Rattle.doc_rows_folders.proofs.ListLaws.{IsFound, found_all, found_most, from_none, from_step, next_text, none_found, one_found}
use Rattle.doc_rows_links.specs.LinkRows.{Linking, paths_writing}
use Rattle.doc_shelf_views.specs.Sources.{others_writing, paths_writing_one, writes_one}
use Rattle.doc_store_readers.proofs.FilterSteps.{keys_in_order, some_in_order}
use Rattle.doc_store_readers.proofs.KeySteps.{bytes_eq_is, same_from, same_key}
use Rattle.doc_store_readers.specs.Pages.{Page}
use Rattle.doc_store_readers.specs.Sites.{Site, view_of, visible_to}
use Rattle.doc_store_readers.specs.declared.reader.Reader.{Reader}

-- the paths of those entries that pass a test
abbrev paths_of : {X : Type 0} → (List ℕ × X → Bool) → List (List ℕ × X) → List (List ℕ)
paths_of p es = mapped (λ e. e.0) (filter p es)

-- of those that pass one of two tests each passes the one or the other
module _ {X : Type 0} (p q : List ℕ × X → Bool) (path : List ℕ) where
  either : (es : List (List ℕ × X))
      → (is_one (paths_of p es) path || is_one (paths_of q es) path) ≡ is_one (paths_of (λ e. p e || q e) es) path
  either [] = refl
  either (e ∷ es) = by (p e) (q e) (same_key path e.0) (either es)
    where
      one : Bool → List (List ℕ × X) → Bool
      one b rest = is_one (mapped (λ e. e.0) (cond b (e ∷ rest) rest)) path

      both : (c x y z : Bool) → (x || y) ≡ z → ((c || x) || (c || y)) ≡ (c || z)
      both true x y z same = refl
      both false x y z same = same

      left : (c x y z : Bool) → (x || y) ≡ z → ((c || x) || y) ≡ (c || z)
      left true x y z same = refl
      left false x y z same = same

      right : (c x y z : Bool) → (x || y) ≡ z → (x || (c || y)) ≡ (c || z)
      right true x y z same = or_true x
      right false x y z same = same

      by : (a b c : Bool) → (is_one (paths_of p es) path || is_one (paths_of q es) path) ≡ is_one (paths_of (λ e. p e || q e) es) path
          → (one a (filter p es) || one b (filter q es)) ≡ one (a || b) (filter (λ e. p e || q e) es)
      by true true c same =
          both (same_key path e.0) (is_one (paths_of p es) path) (is_one (paths_of q es) path) (is_one (paths_of (λ e. p e || q e) es) path)
          same
      by true false c same =
          left (same_key path e.0) (is_one (paths_of p es) path) (is_one (paths_of q es) path) (is_one (paths_of (λ e. p e || q e) es) path)
          same
      by false true c same =
          right (same_key path e.0) (is_one (paths_of p es) path) (is_one (paths_of q es) path)
          (is_one (paths_of (λ e. p e || q e) es) path) same
      by false false c same = same

filter-filter : {X : Type 0} (p q : X → Bool) → ((x : X) → q x ≡ true → p x ≡ true) → (xs : List X) → filter p (filter q xs) ≡ filter q xs
filter-filter p q all [] = refl
filter-filter {X = X} p q all (x ∷ xs) = by (q x) refl (filter q xs) (filter-filter p q all xs)
  where
    by : (b : Bool) → q x ≡ b → (rest : List X) → filter p rest ≡ rest → filter p (cond b (x ∷ rest) rest) ≡ cond b (x ∷ rest) rest
    by true is rest same = ap (λ b. cond b (x ∷ filter p rest) (filter p rest)) (all x is) ∙ ap (λ r. x ∷ r) same
    by false is rest same = same

pub filter-map : {X Y : Type 0} (p : Y → Bool) (f : X → Y) (xs : List X) → filter p (mapped f xs) ≡ mapped f (filter (λ x. p (f x)) xs)
filter-map p f [] = refl
filter-map {X = X} p f (x ∷ xs) = by (p (f x)) (filter (λ x. p (f x)) xs) (filter-map p f xs)
  where
    by : (b : Bool) (rest : List X) → filter p (mapped f xs) ≡ mapped f rest
        → cond b (f x ∷ filter p (mapped f xs)) (filter p (mapped f xs)) ≡ mapped f (cond b (x ∷ rest) rest)
    by true rest same = ap (λ r. f x ∷ r) same
    by false rest same = same

filter-turned : {X : Type 0} (p q : X → Bool) (xs : List X) → filter p (filter q xs) ≡ filter q (filter p xs)
filter-turned p q [] = refl
filter-turned {X = X} p q (x ∷ xs) = by (p x) (q x) refl refl (filter-turned p q xs)
  where
    by : (a b : Bool) → p x ≡ a → q x ≡ b → filter p (filter q xs) ≡ filter q (filter p xs)
        → filter p (cond b (x ∷ filter q xs) (filter q xs)) ≡ filter q (cond a (x ∷ filter p xs) (filter p xs))
    by true true is at same =
        (λ i. cond (is i) (x ∷ filter p (filter q xs)) (filter p (filter q xs))) ∙ ap (λ r. x ∷ r) same
        ∙ (λ i. cond (sym at i) (x ∷ filter q (filter p xs)) (filter q (filter p xs)))
    by true false is at same = same ∙ (λ i. cond (sym at i) (x ∷ filter q (filter p xs)) (filter q (filter p xs)))
    by false true is at same = (λ i. cond (is i) (x ∷ filter p (filter q xs)) (filter p (filter q xs))) ∙ same
    by false false is at same = same

next_behind : (x : List ℕ) → is_before x (next_text x) ≡ true
next_behind [] = refl
next_behind (b ∷ x) =
    ap (λ o. is_lt (ordering_then o (slice_cmp nat_cmp x (next_text x)))) (sym (nat_cmp_is b b Equal refl)) ∙ next_behind x

pub not_false : (b c : Bool) → b ≡ not c → b ≡ false → c ≡ true
not_false b true e f = refl
not_false b false e f = absurd (true≢false (sym e ∙ f))

pub not_true : (b c : Bool) → b ≡ not c → b ≡ true → c ≡ false
not_true b true e f = absurd (true≢false (sym f ∙ e))
not_true b false e f = refl

-- ---- the paths of a view

module _ (site : Site) (reader : Reader) where
  abbrev pages : List (List ℕ × Page)
  pages = (view_of site (Some reader)).pages

  rising : (p : List ℕ × Page → Bool) → IsStrictlySortedBy (slice_cmp nat_cmp) (paths_of p pages)
  rising p =
      some_in_order (slice_cmp nat_cmp) p pages
      (keys_in_order (slice_cmp nat_cmp) pages (map.entries_sorted (visible_to site (Some reader)).pages))

  first_of_both : (p q : List ℕ × Page → Bool) (from : List ℕ)
      → lesser (first_from from (paths_of p pages)) (first_from from (paths_of q pages))
      ≡ first_from from (paths_of (λ e. p e || q e) pages)
  first_of_both p q from =
      one_first (λ path. is_one (paths_of (λ e. p e || q e) pages) path && is_from from path) _ _
      (first_alike (λ path. (is_one (paths_of p pages) path && is_from from path) || (is_one (paths_of q pages) path && is_from from path))
      (λ path. is_one (paths_of (λ e. p e || q e) pages) path && is_from from path) (λ path.
      shared (is_one (paths_of p pages) path) (is_one (paths_of q pages) path) (is_from from path)
      ∙ ap (λ b. b && is_from from path) (either p q path pages)) _
      (lesser_is_first (λ path. is_one (paths_of p pages) path && is_from from path)
      (λ path. is_one (paths_of q pages) path && is_from from path) _ _
      (first_is_first from (paths_of p pages) (rising p)) (first_is_first from (paths_of q pages) (rising q))))
      (first_is_first from (paths_of (λ e. p e || q e) pages) (rising (λ e. p e || q e)))
    where
      shared : (a b c : Bool) → ((a && c) || (b && c)) ≡ ((a || b) && c)
      shared true true true = refl
      shared true true false = refl
      shared true false true = refl
      shared true false false = refl
      shared false b c = refl

  -- ---- a name more

  module _ (linking : Linking) where
    abbrev pub written : List (List ℕ) → List (List ℕ)
    written names = paths_writing_one linking (view_of site (Some reader)) names

    pub none_written : (start : List ℕ) → None ≡ first_from start (written [])
    none_written start = ap (first_from start) (sym (none pages))
      where
        none : (es : List (List ℕ × Page)) → paths_of (writes_one linking []) es ≡ []
        none [] = refl
        none (e ∷ es) = none es

    name_more : (names : List (List ℕ)) (name start : List ℕ)
        → lesser (first_from start (written names)) (first_from start (paths_writing linking (view_of site (Some reader)) name))
        ≡ first_from start (written (names ++ name ∷ []))
    name_more names name start =
        first_of_both (writes_one linking names) (λ page. list_any (writes name) (linking page.0 page.1)) start
        ∙ (λ i. first_from start (paths_of (λ page. with_more page i) pages))
      where
        plain : (b : Bool) → (b || false) ≡ b
        plain true = refl
        plain false = refl

        with_more : (page : List ℕ × Page) → (writes_one linking names page || list_any (writes name) (linking page.0 page.1))
            ≡ writes_one linking (names ++ name ∷ []) page
        with_more page =
            ap (λ b. writes_one linking names page || b) (sym (plain (list_any (writes name) (linking page.0 page.1))))
            ∙ sym (list_any-append (λ other. list_any (writes other) (linking page.0 page.1)) names (name ∷ []))

    pub first_of_next : (names : List (Bor (List ℕ))) (i : ℕ) (name : Bor (List ℕ)) (shown start : List ℕ) (best found : Option (List ℕ))
        → i < length names → name ≡ get_or names i name → shown ≡ name.now
        → best ≡ first_from start (written (mapped (λ name. name.now) (take i names)))
        → found ≡ first_from start (paths_writing linking (view_of site (Some reader)) shown)
        → lesser best found ≡ first_from start (written (mapped (λ name. name.now) (take (i + 1) names)))
    first_of_next names i name shown start best found within at is e f =
        (λ j. lesser (e j) (f j))
        ∙ ap (λ n. lesser (first_from start (written (mapped (λ name. name.now) (take i names))))
        (first_from start (paths_writing linking (view_of site (Some reader)) n))) is
        ∙ name_more (mapped (λ name. name.now) (take i names)) name.now start
        ∙ ap (λ ns. first_from start (written ns))
        (sym (map-append (λ name. name.now) (take i names) (name ∷ []))
        ∙ ap (mapped (λ name. name.now)) (ap (λ n. take i names ++ n ∷ []) at ∙ sym (take_more names i name within)))

    -- ---- without the page itself

    module _ (names : List (List ℕ)) (own : List ℕ) where
      abbrev is_other : List ℕ → Bool
      is_other path = not (bytes_eq path own)

      abbrev pub others : List (List ℕ)
      others = others_writing linking (view_of site (Some reader)) names own

      others_are : others ≡ mapped (λ page. page.0) (filter (λ page. is_other page.0) (filter (writes_one linking names) pages))
      others_are = filter-map is_other (λ page. page.0) (filter (writes_one linking names) pages)

      others_rise : IsStrictlySortedBy (slice_cmp nat_cmp) others
      others_rise =
          subst (IsStrictlySortedBy (slice_cmp nat_cmp)) (sym others_are)
          (some_in_order (slice_cmp nat_cmp) (λ page. is_other page.0) (filter (writes_one linking names) pages)
          (rising (writes_one linking names)))

      others_from_text : (start : List ℕ) → from_text start others ≡ filter is_other (from_text start (written names))
      others_from_text start = filter-turned (is_from start) is_other (written names)

      pub other_none : (start : List ℕ) → None ≡ first_from start (written names) → None ≡ first_from start others
      other_none start none =
          ap first_of (sym (others_from_text start ∙ ap (filter is_other) (from_none start (written names) (sym none))))

      stepped : (start first : List ℕ) → Some first ≡ first_from start (written names)
          → from_text start others ≡ filter is_other (first ∷ from_text (next_text first) (written names))
      stepped start first is =
          others_from_text start
          ∙ ap (filter is_other) (from_step (written names) (rising (writes_one linking names)) start first (sym is))

      pub other_first : (start first shown : List ℕ) → Some first ≡ first_from start (written names) → shown ≡ own
          → bytes_eq first shown ≡ false → Some first ≡ first_from start others
      other_first start first shown is same other =
          sym (ap first_of (stepped start first is)
          ∙ ap (λ b. first_of (cond (not b) (first ∷ filter is_other (from_text (next_text first) (written names)))
          (filter is_other (from_text (next_text first) (written names))))) (ap (bytes_eq first) (sym same) ∙ other))

      pub other_behind : (start first shown behind : List ℕ) (found : Option (List ℕ)) → Some first ≡ first_from start (written names)
          → shown ≡ own → bytes_eq first shown ≡ true → behind ≡ next_text first → found ≡ first_from behind (written names)
          → found ≡ first_from start others
      other_behind start first shown behind found is same own_one at look =
          look ∙ ap (λ t. first_from t (written names)) at
          ∙ ap first_of (sym (stepped start first is
          ∙ ap (λ b. cond (not b) (first ∷ filter is_other (from_text (next_text first) (written names)))
          (filter is_other (from_text (next_text first) (written names)))) (ap (bytes_eq first) (sym same) ∙ own_one)
          ∙ filter-filter is_other (is_from (next_text first)) (λ path from. not_own path from) (written names)))
        where
          first_is : first ≡ own
          first_is = same_from first own (sym (bytes_eq_is first own) ∙ ap (bytes_eq first) (sym same) ∙ own_one)

          not_own : (path : List ℕ) → is_from (next_text first) path ≡ true → is_other path ≡ true
          not_own path from = by (bytes_eq path own) refl
            where
              by : (b : Bool) → bytes_eq path own ≡ b → not b ≡ true
              by false e = refl
              by true e =
                  let is_first : path ≡ first = same_from path own (sym (bytes_eq_is path own) ∙ e) ∙ sym first_is in
                  absurd (true≢false (sym from ∙ ap (is_from (next_text first)) is_first ∙ ap not (next_behind first)))

      -- ---- the walk

      module _ (most : ℕ) (text : List ℕ) where
        abbrev pub IsSoFar : ℕ → List (List ℕ) → List ℕ → Type 0
        IsSoFar n found at = IsFound most n found (from_text at others) (from_text text others)

        pub nothing_yet : (found : List (List ℕ)) (at : List ℕ) → found ≡ [] → at ≡ text → IsSoFar 0 found at
        nothing_yet found at none same =
            subst (λ f. IsSoFar 0 f at) (sym none) (subst (λ t. IsSoFar 0 [] t) (sym same) (none_found most (from_text text others)))

        pub one_more : (n : ℕ) (found more : List (List ℕ)) (at next key : List ℕ) → n < most → Some key ≡ first_from at others
            → next ≡ next_text key → more ≡ found ++ key ∷ [] → IsSoFar n found at → IsSoFar (n + 1) more next
        one_more n found more at next key less look behind pushed so_far =
            subst (λ f. IsSoFar (n + 1) f next) (sym pushed) (subst (λ t. IsSoFar (n + 1) (found ++ key ∷ []) t) (sym behind)
            (one_found most n found (from_text at others) (from_text (next_text key) others) (from_text text others) key less
            (from_step others others_rise at key (sym look)) so_far))

        pub no_more : (n : ℕ) (found : List (List ℕ)) (at : List ℕ) → None ≡ first_from at others → IsSoFar n found at
            → found ≡ take most (from_text text others)
        no_more n found at look so_far =
            found_all most n found (from_text at others) (from_text text others) (from_none at others (sym look)) so_far

        pub enough : (n : ℕ) (found : List (List ℕ)) (at : List ℕ) → most ≤ n → IsSoFar n found at
            → found ≡ take most (from_text text others)
        enough n found at all so_far = found_most most n found (from_text at others) (from_text text others) all so_far
