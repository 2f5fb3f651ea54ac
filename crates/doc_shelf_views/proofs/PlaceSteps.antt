-- What is kept of the pages of a view, under their paths and stamps.
use Rattle.std.proofs.Common.{◌≡◌, ℕ, List, [], ◌∷◌, ◌++◌, Bool, true, false, cond, filter, take, zero, suc, is_eq, refl, ap, sym, ◌∙◌}
use Rattle.std.specs.Prelude.{Option, Some, None, is_some, option_map, map as mapped, if◌then◌else◌}
use Rattle.std.specs.Cmp.{unsigned_tied}
use Rattle.std.specs.Cmp.Lexicographic.{slice_cmp}
use Rattle.std.specs.FinMap as map
use Rattle.std.specs.List.{AllByRecursion, flat_map}
use Rattle.std.specs.List.Sorted.{IsStrictlySortedBy}
use Rattle.std.specs.Map.{keys_of}
use Rattle.std.specs.Ordering.{is_lt, nat_cmp}
use Rattle.std.specs.declared.cmp.Ordering.TheVariants.{Less}
use Rattle.std.proofs.lemmas.Bool.{true≢false}
use Rattle.std.proofs.lemmas.Cmp.{nat_cmp_total, tied_itself}
use Rattle.std.proofs.lemmas.Grind.{flat_map-append}
use Rattle.doc_links.specs.IndexSteps.{linked_at, links_to, ones}
use Rattle.doc_links_pages.specs.declared.page_links.PageLinks.{PageLinks}
use Rattle.doc_rows.proofs.LookLaws.{not_itself}
use Rattle.doc_rows.specs.Looks.{is_before}
use Rattle.doc_shelf_pages.specs.Held.{rendered_under}
use Rattle.doc_shelf_pages.specs.KeptPages.{Kept}
use Rattle.doc_shelf_pages.specs.Shelves.{IsKept}
use Rattle.doc_shelf_pages.specs.ViewLaws.{seen_in}
use Rattle.doc_shelf_pages.specs.Views.{Renders, links_in}
use Rattle.doc_shelf_views.specs.Sources.{counted_at, stamped_at, stamped_by}
use Rattle.doc_store.specs.Store.{StoreState, IsStore}
use Rattle.doc_store_readers.proofs.FilterSteps.{keys_in_order}
use Rattle.doc_store_readers.proofs.KeySteps.{same_from, same_itself, same_key}
use Rattle.doc_store_readers.proofs.ViewLaw.{get-visible_pages}
use Rattle.doc_store_readers.specs.Maps.{TextMap}
use Rattle.doc_store_readers.specs.Pages.{Page}
use Rattle.doc_store_readers.specs.Sites.{may_see_at, visible_to}
use Rattle.doc_store_readers.specs.declared.reader.Reader.{Reader}

-- ---- lists

pub all_some : {X : Type 0} (P : X → Type 0) (p : X → Bool) (xs : List X) → AllByRecursion P xs → AllByRecursion P (filter p xs)
all_some P p [] all = tt
all_some {X = X} P p (x ∷ xs) all = by (p x) (filter p xs) (all_some P p xs all.1)
  where
    by : (b : Bool) (rest : List X) → AllByRecursion P rest → AllByRecursion P (cond b (x ∷ rest) rest)
    by true rest them = (all.0, them)
    by false rest them = them

pub all_first : {X : Type 0} (P : X → Type 0) (n : ℕ) (xs : List X) → AllByRecursion P xs → AllByRecursion P (take n xs)
all_first P zero xs all = tt
all_first P (suc n) [] all = tt
all_first P (suc n) (x ∷ xs) all = (all.0, all_first P n xs all.1)

all_by : {X : Type 0} (P Q : X → Type 0) → ((x : X) → P x → Q x) → (xs : List X) → AllByRecursion P xs → AllByRecursion Q xs
all_by P Q f [] all = tt
all_by P Q f (x ∷ xs) all = (f x all.0, all_by P Q f xs all.1)

-- where each makes one of its own, all make a list of these
each_makes : {X Y Z : Type 0} (P : X → Type 0) (g : Y → List Z) (path : X → Y) (f : X → Z)
    → ((x : X) → P x → g (path x) ≡ f x ∷ []) → (xs : List X) → AllByRecursion P xs → flat_map g (mapped path xs) ≡ mapped f xs
each_makes P g path f one [] all = refl
each_makes P g path f one (x ∷ xs) all = λ i. one x all.0 i ++ each_makes P g path f one xs all.1 i

flat_map-twice : {X Y Z : Type 0} (f : Y → List Z) (g : X → List Y) (xs : List X)
    → flat_map f (flat_map g xs) ≡ flat_map (λ x. flat_map f (g x)) xs
flat_map-twice f g [] = refl
flat_map-twice f g (x ∷ xs) = flat_map-append f (g x) (flat_map g xs) ∙ ap (λ rest. flat_map f (g x) ++ rest) (flat_map-twice f g xs)

map-flat_map : {X Y Z : Type 0} (f : Y → Z) (g : X → List Y) (xs : List X)
    → mapped f (flat_map g xs) ≡ flat_map (λ x. mapped f (g x)) xs
map-flat_map f g [] = refl
map-flat_map {Y = Y} f g (x ∷ xs) = over (g x) ∙ ap (λ rest. mapped f (g x) ++ rest) (map-flat_map f g xs)
  where
    over : (ys : List Y) → mapped f (ys ++ flat_map g xs) ≡ mapped f ys ++ mapped f (flat_map g xs)
    over [] = refl
    over (y ∷ ys) = ap (λ rest. f y ∷ rest) (over ys)

-- ---- entries stand where the map has them

module _ {X : Type 0} where
  abbrev IsAt : List (List ℕ × X) → List ℕ × X → Type 0
  IsAt es e = map.find (slice_cmp nat_cmp) e.0 es ≡ Some e.1

  still_at : (first : List ℕ × X) (es some : List (List ℕ × X)) → AllByRecursion (λ k. slice_cmp nat_cmp first.0 k ≡ Less) (keys_of some)
      → AllByRecursion (IsAt es) some → AllByRecursion (IsAt (first ∷ es)) some
  still_at first es [] behind all = tt
  still_at first es (e ∷ some) behind all = (by (same_key e.0 first.0) refl, still_at first es some behind.1 all.1)
    where
      by : (b : Bool) → same_key e.0 first.0 ≡ b
          → cond (same_key e.0 first.0) (Some first.1) (map.find (slice_cmp nat_cmp) e.0 es) ≡ Some e.1
      by true same =
          absurd (true≢false (sym (ap is_lt behind.0)
          ∙ ap (is_before first.0) (same_from e.0 first.0 same) ∙ not_itself first.0))
      by false other = ap (λ b. cond b (Some first.1) (map.find (slice_cmp nat_cmp) e.0 es)) other ∙ all.0

  all_at : (es : List (List ℕ × X)) → IsStrictlySortedBy (slice_cmp nat_cmp) (keys_of es) → AllByRecursion (IsAt es) es
  unfolding IsStrictlySortedBy
  all_at [] sorted = tt
  all_at (e ∷ es) sorted = (
    ap (λ b. cond b (Some e.1) (map.find (slice_cmp nat_cmp) e.0 es)) (same_itself e.0),
    still_at e es es sorted.0 (all_at es sorted.1),
  )

  pub entries_stand : (m : TextMap X) → AllByRecursion (λ e. map.get m e.0 ≡ Some e.1) (map.entries m)
  entries_stand m =
      all_by (IsAt (map.entries m)) (λ e. map.get m e.0 ≡ Some e.1) (λ e at. map.get-entries m e.0 ∙ at) (map.entries m)
      (all_at (map.entries m) (keys_in_order (slice_cmp nat_cmp) (map.entries m) (map.entries_sorted m)))

-- ---- pages

module _ (store : StoreState) where
  -- a page stands at its path
  abbrev pub Stands : List ℕ × Page → Type 0
  Stands page = map.get store.site.pages page.0 ≡ Some page.1

  pub view_stands : (reader : Reader) → AllByRecursion Stands (seen_in store reader).pages
  view_stands reader =
      all_by (λ page. map.get (visible_to store.site (Some reader)).pages page.0 ≡ Some page.1) Stands
      (λ page at. by page (may_see_at (Some reader) (map.get store.site.pages page.0))
      (sym (get-visible_pages store.site (Some reader) page.0) ∙ at))
      (seen_in store reader).pages (entries_stand (visible_to store.site (Some reader)).pages)
    where
      by : (page : List ℕ × Page) (b : Bool) → cond b (map.get store.site.pages page.0) None ≡ Some page.1
          → map.get store.site.pages page.0 ≡ Some page.1
      by page true at = at
      by page false at = cc

  module _ (render : Renders) (kept : Kept) (is : IsStore store) (k : IsKept render store kept) where
    -- the links of a page
    abbrev pub links_at : List ℕ × Page → PageLinks
    links_at page = links_in page.0 (render page.1.text)

    known : (page : List ℕ × Page) (stamp : ℕ) → Stands page → map.get store.stamps page.0 ≡ Some stamp
        → map.get kept.links (page.0, stamp) ≡ Some (links_at page)
    known page stamp stands has =
        k.links page.0 stamp ∙ (λ i. option_map (links_in page.0) (rendered_under render stamp (has i) (stands i)))
        ∙ ap (λ b. option_map (links_in page.0) (if b then Some (render page.1.text) else None)) (sym (unsigned_tied stamp stamp)
        ∙ ap is_eq (tied_itself nat_cmp_total stamp))

    module _ {Y : Type 0} (f : List (List ℕ × ℕ) → List Y) (g : List ℕ × Page → Y)
        (one : (page : List ℕ × Page) (stamp : ℕ) → map.get kept.links (page.0, stamp) ≡ Some (links_at page)
        → f ((page.0, stamp) ∷ []) ≡ g page ∷ []) where
      of_page : (page : List ℕ × Page) → Stands page → f (stamped_at store page.0) ≡ g page ∷ []
      of_page page stands = by (map.get store.stamps page.0) refl
        where
          by : (stamp : Option ℕ) → map.get store.stamps page.0 ≡ stamp → f (stamped_at store page.0) ≡ g page ∷ []
          by None none =
              absurd (true≢false (sym (is.stamped page.0 ∙ ap is_some stands) ∙ ap is_some none))
          by (Some stamp) has =
              (λ i. f (stamped_by page.0 (stands i) (has i))) ∙ one page stamp (known page stamp stands has)

    linked_one : (page : List ℕ × Page) (stamp : ℕ) → map.get kept.links (page.0, stamp) ≡ Some (links_at page)
        → flat_map (linked_at kept.links) ((page.0, stamp) ∷ []) ≡ (page.0, links_at page) ∷ []
    linked_one page stamp is = ap (λ o. ones (option_map (λ p. (page.0, p)) o) ++ []) is

    -- what is kept of the links of pages that stand
    pub linked_are : (pages : List (List ℕ × Page)) → AllByRecursion Stands pages
        → flat_map (linked_at kept.links) (flat_map (stamped_at store) (mapped (λ page. page.0) pages))
        ≡ mapped (λ page. (page.0, links_at page)) pages
    linked_are pages all =
        flat_map-twice (linked_at kept.links) (stamped_at store) (mapped (λ page. page.0) pages)
        ∙ each_makes Stands (λ path. flat_map (linked_at kept.links) (stamped_at store path)) (λ page. page.0)
        (λ page. (page.0, links_at page))
        (of_page (flat_map (linked_at kept.links)) (λ page. (page.0, links_at page)) linked_one) pages all

    module _ (goals : List ℕ → Option (List ℕ)) (target : List ℕ) where
      abbrev pub with_count : List ℕ × Page → List ℕ × ℕ
      with_count page = (page.0, links_to goals target (Some (links_at page)))

      -- how many of their links lead to a target
      pub counted_are : (pages : List (List ℕ × Page)) → AllByRecursion Stands pages
          → mapped (counted_at goals target kept.links) (flat_map (stamped_at store) (mapped (λ page. page.0) pages))
          ≡ mapped with_count pages
      counted_are pages all =
          map-flat_map (counted_at goals target kept.links) (stamped_at store) (mapped (λ page. page.0) pages)
          ∙ each_makes Stands (λ path. mapped (counted_at goals target kept.links) (stamped_at store path)) (λ page. page.0) with_count
          (of_page (mapped (counted_at goals target kept.links)) with_count
          (λ page stamp is. ap (λ o. (page.0, links_to goals target o) ∷ []) is)) pages all
