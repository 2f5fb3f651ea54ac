-- The lists of links that a reader is shown, from a text on.
use Rattle.std.proofs.Common.{◌≡◌, ℕ, List, [], ◌∷◌, ◌++◌, ◌+◌, Bool, true, false, cond, ◌||◌, ◌==◌, filter, take, not, bytes_eq, refl, ap, sym, subst, ◌∙◌, arith}
use Rattle.std.specs.Prelude.{Option, Some, None, count_by, map as mapped, is_some, option_map, if◌then◌else◌}
use Rattle.std.specs.Cmp.Lexicographic.{slice_cmp}
use Rattle.std.specs.FinMap as map
use Rattle.std.specs.List.{AllByRecursion, flat_map, list_any}
use Rattle.std.specs.List.Sorted.{IsStrictlySortedBy}
use Rattle.std.specs.Map.{keys_of}
use Rattle.std.specs.Ordering.{nat_cmp}
use Rattle.std.proofs.Math.Seq.{take-nil}
use Rattle.std.proofs.lemmas.Bool.{eqb-true, true≢false}
use Rattle.std.proofs.lemmas.List.{take-map}
use Rattle.std.proofs.lemmas.List.Sums.{sum_by-cons}
use Rattle.std.proofs.lemmas.Simd.{map-map}
use Rattle.doc_links.proofs.SourceSteps.{with_target, without_target}
use Rattle.doc_links.specs.IndexSteps.{goes_to, linked_at, sources_of}
use Rattle.doc_index_tables.specs.Maps.{PairMap}
use Rattle.doc_links_pages.specs.Links.{backlinks, broken_with, page_at as page_with_links}
use Rattle.doc_links_pages.specs.Names.{writes}
use Rattle.doc_links_pages.specs.declared.answers.Broken.{Broken}
use Rattle.doc_links_pages.specs.declared.page_links.PageLinks.{PageLinks}
use Rattle.doc_page_parts.proofs.Texts.{bytes_eq_itself, bytes_eq_true}
use Rattle.doc_page_parts.specs.Sights.{leads_to_itself}
use Rattle.doc_page_parts.specs.declared.rendered.Rendered.{Rendered}
use Rattle.doc_people.specs.Lists.{sources_from}
use Rattle.doc_people.specs.Navigation.{is_before}
use Rattle.doc_media.specs.Media.{Beside}
use Rattle.doc_media_links.specs.MediaLinks.{broken_beside}
use Rattle.doc_people.specs.Sources.{broken_links, linked_pages}
use Rattle.doc_resolve.specs.declared.link_kind.LinkKind.{LinkKind}
use Rattle.doc_resolve.specs.declared.link_kind.LinkKind.TheVariants.{External, Page as page_link, Nowhere}
use Rattle.doc_links_seen.specs.SeenSteps.{IsInOrder}
use Rattle.doc_rows.specs.Looks.{from_text}
use Rattle.doc_rows.specs.Rows.{paths_in}
use Rattle.doc_rows_folders.proofs.ListLaws.{nothing_before}
use Rattle.doc_shelf_pages.proofs.ImageSteps.{seen_told}
use Rattle.doc_shelf_pages.specs.Images.{images_behind}
use Rattle.doc_shelf_pages.proofs.KnownLaws.{names_of_targets}
use Rattle.doc_shelf_pages.specs.KeptPages.{Kept}
use Rattle.doc_shelf_pages.specs.Shelves.{IsKept}
use Rattle.doc_shelf_pages.specs.ViewLaws.{seen_in}
use Rattle.doc_shelf_pages.specs.Views.{Renders, links_in}
use Rattle.doc_shelf_views.proofs.PlaceSteps.{Stands, all_first, all_some, counted_are, linked_are, view_stands, with_count}
use Rattle.doc_shelf_views.proofs.SourceSteps.{filter-map}
use Rattle.doc_shelf_views.specs.Linking.{linking}
use Rattle.doc_shelf_views.specs.Sources.{counted_at, others_writing, stamped_at, writes_one}
use Rattle.doc_store.specs.Names.{AreNames, names_of}
use Rattle.doc_store.specs.Store.{StoreState, IsStore, is_goal}
use Rattle.doc_store_readers.proofs.FilterSteps.{keys_in_order}
use Rattle.doc_store_readers.specs.Pages.{Page}
use Rattle.doc_store_readers.specs.Sites.{View, goal_in, page_at, visible_to}
use Rattle.doc_store_readers.specs.declared.reader.Reader.{Reader}

turned : (a b : List ℕ) → bytes_eq a b ≡ bytes_eq b a
turned a b = by (bytes_eq a b) refl (bytes_eq b a) refl
  where
    back : (a b : List ℕ) → bytes_eq a b ≡ true → bytes_eq b a ≡ true
    back a b e = ap (bytes_eq b) (bytes_eq_true a b e) ∙ bytes_eq_itself b

    by : (x : Bool) → bytes_eq a b ≡ x → (y : Bool) → bytes_eq b a ≡ y → x ≡ y
    by true e true f = refl
    by true e false f = absurd (true≢false (sym (back a b e) ∙ f))
    by false e true f = absurd (true≢false (sym (back b a f) ∙ e))
    by false e false f = refl

-- ---- whether a page is there

-- the pages with what they link to
abbrev linked : Renders → List (List ℕ × Page) → List (List ℕ × PageLinks)
linked render pages =
    mapped (λ (page : List ℕ × Rendered). (page.0, links_in page.0 page.1))
    (mapped (λ (page : List ℕ × Page). (page.0, render page.1.text)) pages)

there_alike : (render : Renders) (path : List ℕ) (pages : List (List ℕ × Page))
    → is_some (page_with_links (linked render pages) path) ≡ is_some (page_at pages path)
there_alike render path [] = refl
there_alike render path (first ∷ pages) =
    by (bytes_eq first.0 path) (there_alike render path pages)
    ∙ ap (λ b. is_some (if b then Some first.1 else page_at pages path)) (turned first.0 path)
  where
    by : (b : Bool) → is_some (page_with_links (linked render pages) path) ≡ is_some (page_at pages path)
        → is_some (if b then Some (first.0, links_in first.0 (render first.1.text)) else page_with_links (linked render pages) path)
        ≡ is_some (if b then Some first.1 else page_at pages path)
    by true rest = refl
    by false rest = rest

is_none : {X : Type 0} (x : Option X) → is_some x ≡ false → x ≡ None
is_none None e = refl
is_none (Some x) e = absurd (true≢false e)

known_alike : {X Y : Type 0} (known : X → Y) (found : Option X) → is_some (option_map known found) ≡ is_some found
known_alike known None = refl
known_alike known (Some x) = refl

pub there_is : {X Y : Type 0} (known : X → Y) (found : Option X) (page : Option Y) → option_map known found ≡ page → is_some found ≡ true
    → is_some page ≡ true
there_is known found page is there = ap is_some (sym is) ∙ known_alike known found ∙ there

-- to a page that isn't seen none leads
pub none_leads : {X : Type 0} (render : Renders) (view : View) (path from : List ℕ) (most : ℕ) (result items : List (List ℕ × ℕ))
    (found : Option X) (known : X → Page) → result ≡ items → items ≡ [] → option_map known found ≡ page_at view.pages path
    → is_some found ≡ false → result ≡ take most (sources_from render view path from)
none_leads render view path from most result items found known same nothing is none =
    same ∙ nothing ∙ sym (take-nil most)
    ∙ ap (λ sources. take most (filter (λ source. not (is_before source.0 from))
    (filter (λ source. not (bytes_eq source.0 path)) sources)))
    (without_target (goal_in view) (linked_pages render view) path
    (is_none (page_with_links (linked_pages render view) path)
    (there_alike render path view.pages ∙ ap is_some (sym is) ∙ known_alike known found ∙ none)))

-- ---- links that write a name

any_none : {X : Type 0} (xs : List X) → list_any (λ x. false) xs ≡ false
any_none [] = refl
any_none (x ∷ xs) = any_none xs

any_either : {X : Type 0} (p q : X → Bool) (xs : List X) → (list_any p xs || list_any q xs) ≡ list_any (λ x. p x || q x) xs
any_either p q [] = refl
any_either p q (x ∷ xs) = by (p x) (q x) (list_any p xs) (list_any q xs) ∙ ap (λ b. (p x || q x) || b) (any_either p q xs)
  where
    by : (a b c d : Bool) → ((a || c) || (b || d)) ≡ ((a || b) || (c || d))
    by true b c d = refl
    by false true true d = refl
    by false true false d = refl
    by false false c d = refl

-- one of some has with one of others what one of these has with one of those
any_turned : {X Y : Type 0} (has : X → Y → Bool) (xs : List X) (ys : List Y)
    → list_any (λ x. list_any (has x) ys) xs ≡ list_any (λ y. list_any (λ x. has x y) xs) ys
any_turned has [] ys = sym (any_none ys)
any_turned has (x ∷ xs) ys =
    ap (λ b. list_any (has x) ys || b) (any_turned has xs ys)
    ∙ any_either (has x) (λ y. list_any (λ x. has x y) xs) ys

-- some pass where their number isn't 0
any_counted : {X : Type 0} (p : X → Bool) (xs : List X) → list_any p xs ≡ not (count_by p xs == 0)
any_counted p [] = refl
any_counted p (x ∷ xs) =
    by (p x) (count_by p xs) (any_counted p xs) ∙ ap (λ n. not (n == 0)) (sym (sum_by-cons (λ y. cond (p y) 1 0) x xs))
  where
    plain : (n : ℕ) → n ≡ 0 + n
    plain n = omega arith

    more : (n : ℕ) (b : Bool) → ((1 + n) == 0) ≡ b → true ≡ not b
    more n true e =
        let none : 1 + n ≡ 0 = eqb-true (1 + n) 0 e in
        absurd (omega (arith, none))
    more n false e = refl

    by : (b : Bool) (n : ℕ) → list_any p xs ≡ not (n == 0) → (b || list_any p xs) ≡ not ((cond b 1 0 + n) == 0)
    by true n e = more n ((1 + n) == 0) refl
    by false n e = e ∙ ap (λ m. not (m == 0)) (plain n)

alike_names : (f g : List ℕ → Bool) → ((name : List ℕ) → f name ≡ g name) → (names : List (List ℕ)) → list_any f names ≡ list_any g names
alike_names f g same [] = refl
alike_names f g same (name ∷ names) = λ i. same name i || alike_names f g same names i

module _ (names : List (List ℕ)) (goals : List ℕ → Option (List ℕ)) (path : List ℕ) (are : AreNames names goals path) where
  is_led : (goal : Option (List ℕ)) → is_goal path goal ≡ leads_to_itself goal path
  is_led None = refl
  is_led (Some goal) = refl

  -- a link leads to the page where it writes one of its names
  goes_is : (link : LinkKind) → list_any (λ name. writes name link) names ≡ goes_to goals path link
  goes_is External = any_none names
  goes_is (page_link other anchor) =
      alike_names (λ name. bytes_eq name other) (bytes_eq other) (λ name. turned name other) names ∙ are.all other ∙ is_led (goals other)
  goes_is Nowhere = any_none names

  writes_is : (links : List LinkKind)
      → list_any (λ name. list_any (writes name) links) names ≡ not (count_by (goes_to goals path) links == 0)
  writes_is links =
      any_turned writes names links ∙ (λ i. list_any (λ link. goes_is link i) links) ∙ any_counted (goes_to goals path) links

-- ---- the sources of a page

-- the names of a page that is seen are the paths that lead to it
names_known : (render : Renders) (store : StoreState) (reader : Reader) (path : List ℕ) → IsStore store
    → is_some (page_at (seen_in store reader).pages path) ≡ true
    → AreNames (names_of store.site path) (goal_in (seen_in store reader)) path
names_known render store reader path is there = by (page_at (seen_in store reader).pages path) refl there
  where
    by : (page : Option Page) → page_at (seen_in store reader).pages path ≡ page → is_some page ≡ true
        → AreNames (names_of store.site path) (goal_in (seen_in store reader)) path
    by None at none = absurd (true≢false (sym none))
    by (Some page) at some = (names_of_targets render store reader path page is at).names

module _ (render : Renders) (store : StoreState) (kept : Kept) (reader : Reader) (is : IsStore store) (k : IsKept render store kept)
    (path : List ℕ) where
  abbrev view : View
  view = seen_in store reader

  abbrev goals : List ℕ → Option (List ℕ)
  goals = goal_in view

  abbrev names : List (List ℕ)
  names = names_of store.site path

  abbrev counted : List ℕ × Page → List ℕ × ℕ
  counted page = with_count store render kept is k goals path page

  abbrev writes_name : List ℕ × Page → Bool
  writes_name page = writes_one (linking render) names page

  module _ (there : is_some (page_at view.pages path) ≡ true) where
    are : AreNames names goals path
    are = names_known render store reader path is there

    listed : (pages : List (List ℕ × Page)) → sources_of goals path (linked render pages) ≡ mapped counted (filter writes_name pages)
    listed [] = refl
    listed (page ∷ pages) =
        by (count_by (goes_to goals path) (links_in page.0 (render page.1.text)).links == 0) refl (listed pages)
        ∙ ap (λ b. mapped counted (cond b (page ∷ filter writes_name pages) (filter writes_name pages)))
        (sym (writes_is names goals path are (links_in page.0 (render page.1.text)).links))
      where
        by : (b : Bool) → (count_by (goes_to goals path) (links_in page.0 (render page.1.text)).links == 0) ≡ b
            → sources_of goals path (linked render pages) ≡ mapped counted (filter writes_name pages)
            → (if b then [] else counted page ∷ []) ++ sources_of goals path (linked render pages)
            ≡ mapped counted (cond (not (count_by (goes_to goals path) (links_in page.0 (render page.1.text)).links == 0))
            (page ∷ filter writes_name pages) (filter writes_name pages))
        by true e rest =
            rest ∙ ap (λ b. mapped counted (cond (not b) (page ∷ filter writes_name pages) (filter writes_name pages))) (sym e)
        by false e rest =
            ap (λ r. counted page ∷ r) rest
            ∙ ap (λ b. mapped counted (cond (not b) (page ∷ filter writes_name pages) (filter writes_name pages))) (sym e)

    module _ (from : List ℕ) (most : ℕ) where
      all_sources : backlinks goals (linked_pages render view) path ≡ mapped counted (filter writes_name view.pages)
      all_sources =
          sym (with_target goals (linked_pages render view) path (there_alike render path view.pages ∙ there)) ∙ listed view.pages

      abbrev shown : List (List ℕ × Page)
      shown =
          filter (λ page. not (is_before page.0 from)) (filter (λ page. not (bytes_eq page.0 path)) (filter writes_name view.pages))

      shown_are : mapped counted shown ≡ sources_from render view path from
      shown_are =
          sym (ap (λ sources. filter (λ source. not (is_before source.0 from)) (filter (λ source. not (bytes_eq source.0 path)) sources))
          all_sources
          ∙ ap (filter (λ source. not (is_before source.0 from)))
          (filter-map (λ source. not (bytes_eq source.0 path)) counted (filter writes_name view.pages))
          ∙ filter-map (λ source. not (is_before source.0 from)) counted
          (filter (λ page. not (bytes_eq page.0 path)) (filter writes_name view.pages)))

      texts_are : take most (from_text from (others_writing (linking render) view names path)) ≡ mapped (λ page. page.0) (take most shown)
      texts_are =
          ap (λ texts. take most (from_text from texts))
          (filter-map (λ text. not (bytes_eq text path)) (λ page. page.0) (filter writes_name view.pages))
          ∙ ap (take most) (filter-map (λ text. not (is_before text from)) (λ page. page.0)
          (filter (λ page. not (bytes_eq page.0 path)) (filter writes_name view.pages)))
          ∙ take-map (λ page. page.0) most shown

      shown_stand : AllByRecursion (Stands store) (take most shown)
      shown_stand =
          all_first (Stands store) most shown (all_some (Stands store) (λ page. not (is_before page.0 from))
          (filter (λ page. not (bytes_eq page.0 path)) (filter writes_name view.pages))
          (all_some (Stands store) (λ page. not (bytes_eq page.0 path)) (filter writes_name view.pages)
          (all_some (Stands store) writes_name view.pages (view_stands store reader))))

      -- what the walk found, with its counts
      pub sources_are : (named texts : List (List ℕ)) (places : List (List ℕ × ℕ)) (sources : List (List ℕ × ℕ)) → named ≡ names
          → texts ≡ take most (from_text from (others_writing (linking render) view named path))
          → places ≡ flat_map (stamped_at store) texts → sources ≡ mapped (counted_at goals path kept.links) places
          → sources ≡ take most (sources_from render view path from)
      sources_are named texts places sources all found at counts =
          counts
          ∙ ap (mapped (counted_at goals path kept.links)) (at ∙ ap (flat_map (stamped_at store))
          (found ∙ ap (λ ns. take most (from_text from (others_writing (linking render) view ns path))) all ∙ texts_are))
          ∙ counted_are store render kept is k goals path (take most shown) shown_stand
          ∙ sym (take-map counted most shown) ∙ ap (take most) shown_are

-- ---- the pages of a view with their links

all_from_start : (texts : List (List ℕ)) → from_text [] texts ≡ texts
all_from_start [] = refl
all_from_start (text ∷ texts) =
    ap (λ b. cond (not b) (text ∷ from_text [] texts) (from_text [] texts)) (nothing_before text)
    ∙ ap (λ rest. text ∷ rest) (all_from_start texts)

-- at the places of the pages of a view stand all pages of it
pub pages_are : (render : Renders) (store : StoreState) (kept : Kept) (reader : Reader) (is : IsStore store)
    (k : IsKept render store kept) (texts : List (List ℕ)) (places : List (List ℕ × ℕ))
    → texts ≡ from_text [] (paths_in (seen_in store reader)) → places ≡ flat_map (stamped_at store) texts
    → (index : PairMap PageLinks) → index ≡ kept.links
    → flat_map (linked_at index) places ≡ linked_pages render (seen_in store reader)
pages_are render store kept reader is k texts places found at index same =
    ap (λ m. flat_map (linked_at m) places) same
    ∙ ap (flat_map (linked_at kept.links)) (at ∙ ap (flat_map (stamped_at store)) (found
    ∙ all_from_start (paths_in (seen_in store reader))))
    ∙ linked_are store render kept is k (seen_in store reader).pages (view_stands store reader)
    ∙ sym (map-map (λ (p : List ℕ × Rendered). (p.0, links_in p.0 p.1)) (λ (p : List ℕ × Page). (p.0, render p.1.text))
    (seen_in store reader).pages)

keys_same : {X Y : Type 0} (f : List ℕ × X → Y) (es : List (List ℕ × X)) → keys_of (mapped (λ e. (e.0, f e)) es) ≡ keys_of es
keys_same f [] = refl
keys_same f (e ∷ es) = ap (λ ks. e.0 ∷ ks) (keys_same f es)

module _ (render : Renders) (store : StoreState) (reader : Reader) where
  -- they stand in order
  pub pages_in_order : (pages : List (List ℕ × PageLinks)) → pages ≡ linked_pages render (seen_in store reader) → IsInOrder pages
  pages_in_order pages are =
      subst (IsStrictlySortedBy (slice_cmp nat_cmp))
      (sym (ap keys_of are
      ∙ keys_same (λ (p : List ℕ × Rendered). links_in p.0 p.1) (mapped (λ (p : List ℕ × Page). (p.0, render p.1.text))
      (seen_in store reader).pages)
      ∙ keys_same (λ (p : List ℕ × Page). render p.1.text) (seen_in store reader).pages))
      (keys_in_order (slice_cmp nat_cmp) (seen_in store reader).pages (map.entries_sorted (visible_to store.site (Some reader)).pages))

  -- what is told of them is told of the view
  pub broken_are : (media : Beside) (sight : View) → sight ≡ seen_in store reader → (pages : List (List ℕ × PageLinks))
      → pages ≡ linked_pages render (seen_in store reader) → (links told : List Broken)
      → links ≡ broken_with (images_behind render store media) (goal_in sight) pages → told ≡ broken_beside media links
      → told ≡ broken_links render (seen_in store reader) media
  broken_are media sight sees pages are links told found unbroken =
      unbroken
      ∙ ap (broken_beside media) (found ∙ (λ i. broken_with (images_behind render store media) (goal_in (sees i)) (are i)))
      ∙ seen_told render store reader media
