-- The pages that link to a page, by the paths that lead to it.
use Rattle.std.proofs.Common.{◌≡◌, ◌≢◌, ℕ, zero, suc, ◌+◌, List, [], ◌∷◌, ◌++◌, Bool, true, false, cond, ◌||◌, ◌==◌, if◌then◌else◌, is_some, sum_by, arith}
use Rattle.std.proofs.Common.{refl, ap, ap₂, sym, ◌∙◌, zero-add}
use Rattle.std.specs.Prelude.{Option, Some, None, IsTrue, bytes_eq, count_by, map as mapped, unwrap_or}
use Rattle.std.specs.declared.cmp.Ordering.TheVariants.{Less}
use Rattle.std.specs.FinMap as map
use Rattle.std.specs.List.{AllByRecursion, IsDistinct, list_any}
use Rattle.std.specs.List.Sorted.{IsStrictlySortedBy}
use Rattle.std.specs.Map.{keys_of}
use Rattle.std.specs.Ordering.{eq_by_cmp}
use Rattle.std.proofs.lemmas.Bool.{both_ways, eqb-true}
use Rattle.std.proofs.lemmas.Cmp.{nat_list_cmp_total}
use Rattle.std.proofs.lemmas.List.Sums.{sum_by-cons}
use Rattle.std.proofs.lemmas.Map.Lookups.{exact_bytes}
use Rattle.std.proofs.lemmas.Map.Text.{is_eq-slice_cmp}
use Rattle.doc_index.specs.declared.held.Held.{Held}
use Rattle.doc_index.specs.Held.{Known, count_in, entries_of, held, known, slot_at}
use Rattle.doc_index_tables.specs.Maps.{TextMap, pair_cmp}
use Rattle.std.proofs.lemmas.Option.{none-some as not_some, same_Some as some_is}
use Rattle.doc_index_tables.proofs.PairSteps.{pair_is, pair_itself, pairs_total, same_pair}
use Rattle.doc_page_parts.proofs.Maps.{entries_in_order}
use Rattle.doc_page_parts.specs.Sights.{leads_to_itself, seen}
use Rattle.doc_resolve.specs.declared.link_kind.LinkKind.{LinkKind}
use Rattle.doc_resolve.specs.declared.link_kind.LinkKind.TheVariants.{External, Page, Nowhere}
use Rattle.doc_links.specs.IndexSteps.{IsTally, goes_to, if_seen, sources_of, without_counts, written_at}
use Rattle.doc_links_pages.specs.KnownSteps.{HasKeys, count_at}
use Rattle.doc_links_seen.specs.SeenSteps.{AreKeyed}
use Rattle.doc_links_seen.specs.SeenSteps.{IsInOrder}
use Rattle.doc_links_pages.specs.Links.{backlinks, page_at}
use Rattle.doc_links_pages.specs.Names.{AreNames, is_written, writes}
use Rattle.doc_links_pages.specs.PageLinks.{IsOnce, pages_of}
use Rattle.doc_links_pages.specs.declared.page_links.PageLinks.{PageLinks}
use Rattle.doc_links.proofs.HeldSteps.{entry_at, has_key, pages_are}
use Rattle.doc_links_pages.proofs.CountSteps.{same_bytes}
use Rattle.doc_links_seen.proofs.SearchSteps.{path_cmp}
use Rattle.doc_links.proofs.OrderSteps.{seen_in_order}
use Rattle.doc_links.proofs.SourceSteps.{with_target}
use Rattle.doc_links.proofs.TallySteps.{bytes_itself, find_before}

abbrev Slots : Type 0
Slots = List (Option (Held PageLinks))

-- ---- the page at a path

abbrev found : Slots → List ℕ → ℕ → Option (Known PageLinks)
found slots path stamp = map.find pair_cmp (path, stamp) (entries_of slots)

-- a slot has a page with this path, which is found under its stamp, or none has
data Place (slots : Slots) (path : List ℕ) : Type 0 where
  nowhere : ((stamp : ℕ) → found slots path stamp ≡ None)
      → ((i : ℕ) (page : Held PageLinks) → slot_at slots i ≡ Some page → page.path ≢ path) → Place slots path
  somewhere : (i : ℕ) (page : Held PageLinks) → slot_at slots i ≡ Some page → page.path ≡ path
      → found slots path page.stamp ≡ Some (known page) → Place slots path

place_of : (slots : Slots) (path : List ℕ) → Place slots path
place_of [] path = nowhere (λ stamp. refl) (λ i page at. absurd (not_some page at))
place_of (None ∷ slots) path = by (place_of slots path)
  where
    apart : ((i : ℕ) (page : Held PageLinks) → slot_at slots i ≡ Some page → page.path ≢ path)
        → (i : ℕ) (page : Held PageLinks) → slot_at (None ∷ slots) i ≡ Some page → page.path ≢ path
    apart none zero page at = absurd (not_some page at)
    apart none (suc i) page at = none i page at

    by : Place slots path → Place (None ∷ slots) path
    by (nowhere none other) = nowhere none (apart other)
    by (somewhere i page at same is) = somewhere (suc i) page at same is
place_of (Some first ∷ slots) path = by (bytes_eq first.path path) refl (place_of slots path)
  where
    passed : bytes_eq first.path path ≡ false → (stamp : ℕ) → found (Some first ∷ slots) path stamp ≡ found slots path stamp
    passed e stamp = which (same_pair (path, stamp) (first.path, first.stamp)) refl
      where
        which : (b : Bool) → same_pair (path, stamp) (first.path, first.stamp) ≡ b
            → cond b (Some (known first)) (found slots path stamp) ≡ found slots path stamp
        which true same =
            absurd (both_ways (bytes_eq first.path path) e
            (ap (λ q. bytes_eq q path) (sym (ap (λ q. q.0) (pair_is (path, stamp) (first.path, first.stamp) same))) ∙ bytes_itself path))
        which false same = refl

    apart : bytes_eq first.path path ≡ false
        → ((i : ℕ) (page : Held PageLinks) → slot_at slots i ≡ Some page → page.path ≢ path)
        → (i : ℕ) (page : Held PageLinks) → slot_at (Some first ∷ slots) i ≡ Some page → page.path ≢ path
    apart e none zero page at same =
        absurd (both_ways (bytes_eq first.path path) e
        (ap (λ (p : Held PageLinks). bytes_eq p.path path) (some_is first page at) ∙ ap (λ q. bytes_eq q path) same ∙ bytes_itself path))
    apart e none (suc i) page at same = none i page at same

    by : (b : Bool) → bytes_eq first.path path ≡ b → Place slots path → Place (Some first ∷ slots) path
    by true e rest =
        let same : first.path ≡ path = same_bytes first.path path e in
        somewhere 0 first refl same
        (ap (λ b. cond b (Some (known first)) (found slots path first.stamp))
        (ap (λ q. same_pair (q, first.stamp) (first.path, first.stamp)) (sym same) ∙ pair_itself (first.path, first.stamp)))
    by false e (nowhere none other) = nowhere (λ stamp. passed e stamp ∙ none stamp) (apart e other)
    by false e (somewhere i page at same is) = somewhere (suc i) page at same (passed e page.stamp ∙ is)

abbrev Entry : Type 0
Entry = (List ℕ × ℕ) × Known PageLinks

-- a page that is found under a path's one stamp is the page at the path
at_once : (path : List ℕ) (stamp : ℕ) (page : Known PageLinks) (es : List Entry)
    → ((other : ℕ) → is_some (map.find pair_cmp (path, other) es) ≡ true → other ≡ stamp) → map.find pair_cmp (path, stamp) es ≡ Some page
    → map.find path_cmp path (mapped entry_at es) ≡ Some page.value
at_once path stamp page [] once is = absurd (not_some page is)
at_once path stamp page (e ∷ es) once is =
    by (eq_by_cmp path_cmp path e.0.0) refl
    (at_once path stamp page es (λ other h. once other (more other (same_pair (path, other) e.0) h)))
  where
    more : (other : ℕ) (b : Bool) → is_some (map.find pair_cmp (path, other) es) ≡ true
        → is_some (cond b (Some e.1) (map.find pair_cmp (path, other) es)) ≡ true
    more other true h = refl
    more other false h = h

    by : (b : Bool) → eq_by_cmp path_cmp path e.0.0 ≡ b
        → (map.find pair_cmp (path, stamp) es ≡ Some page → map.find path_cmp path (mapped entry_at es) ≡ Some page.value)
        → cond b (Some e.1.value) (map.find path_cmp path (mapped entry_at es)) ≡ Some page.value
    by true same rest =
        let path_is : path ≡ e.0.0 = same_bytes path e.0.0 (sym (is_eq-slice_cmp path e.0.0) ∙ same) in
        let own : same_pair (path, e.0.1) e.0 ≡ true = ap (λ q. same_pair (q, e.0.1) e.0) path_is ∙ pair_itself e.0 in
        let stamp_is : e.0.1 ≡ stamp =
        once e.0.1 (ap (λ b. is_some (cond b (Some e.1) (map.find pair_cmp (path, e.0.1) es))) own) in
        let one : Some e.1 ≡ Some page =
        sym (ap (λ b. cond b (Some e.1) (map.find pair_cmp (path, e.0.1) es)) own)
        ∙ ap (λ s. map.find pair_cmp (path, s) (e ∷ es)) stamp_is ∙ is in
        ap (λ (p : Known PageLinks). Some p.value) (some_is e.1 page one)
    by false other rest = rest (sym (passed (same_pair (path, stamp) e.0) refl) ∙ is)
      where
        passed : (b : Bool) → same_pair (path, stamp) e.0 ≡ b
            → cond b (Some e.1) (map.find pair_cmp (path, stamp) es) ≡ map.find pair_cmp (path, stamp) es
        passed true same =
            absurd (both_ways (eq_by_cmp path_cmp path e.0.0) other
            (is_eq-slice_cmp path e.0.0 ∙ ap (λ q. bytes_eq path q.0) (sym (pair_is (path, stamp) e.0 same)) ∙ bytes_itself path))
        passed false same = refl

at_none : (path : List ℕ) (es : List Entry) → ((stamp : ℕ) → map.find pair_cmp (path, stamp) es ≡ None)
    → map.find path_cmp path (mapped entry_at es) ≡ None
at_none path [] none = refl
at_none path (e ∷ es) none =
    by (eq_by_cmp path_cmp path e.0.0) refl
    (at_none path es (λ stamp. left (map.find pair_cmp (path, stamp) es) (same_pair (path, stamp) e.0) (none stamp)))
  where
    left : (x : Option (Known PageLinks)) (b : Bool) → cond b (Some e.1) x ≡ None → x ≡ None
    left x true h = absurd (not_some e.1 (sym h))
    left x false h = h

    by : (b : Bool) → eq_by_cmp path_cmp path e.0.0 ≡ b → map.find path_cmp path (mapped entry_at es) ≡ None
        → cond b (Some e.1.value) (map.find path_cmp path (mapped entry_at es)) ≡ None
    by true same rest =
        let path_is : path ≡ e.0.0 = same_bytes path e.0.0 (sym (is_eq-slice_cmp path e.0.0) ∙ same) in
        absurd (not_some e.1 (sym (none e.0.1)
        ∙ ap (λ b. cond b (Some e.1) (map.find pair_cmp (path, e.0.1) es)) (ap (λ q. same_pair (q, e.0.1) e.0) path_is ∙ pair_itself e.0)))
    by false other rest = rest

-- ---- the sources by their paths

-- a number that isn't 0
abbrev nonzero : ℕ → Option ℕ
nonzero n = if n == 0 then None else Some n

module _ (goals : List ℕ → Option (List ℕ)) (target : List ℕ) where
  abbrev links_to : PageLinks → ℕ
  links_to page = count_by (goes_to goals target) page.links

  abbrev source_at : Option PageLinks → Option ℕ
  source_at None = None
  source_at (Some page) = nonzero (links_to page)

  found_source : (path : List ℕ) (pages : List (List ℕ × PageLinks)) → IsInOrder pages
      → map.find path_cmp path (sources_of goals target pages) ≡ source_at (map.find path_cmp path pages)
  unfolding IsStrictlySortedBy
  found_source path [] sorted = refl
  found_source path (page ∷ pages) sorted =
      by (links_to page.1 == 0) refl (eq_by_cmp path_cmp path page.0) refl (found_source path pages sorted.1)
    where
      by : (z : Bool) → (links_to page.1 == 0) ≡ z → (b : Bool) → eq_by_cmp path_cmp path page.0 ≡ b
          → map.find path_cmp path (sources_of goals target pages) ≡ source_at (map.find path_cmp path pages)
          → map.find path_cmp path ((if z then [] else (page.0, links_to page.1) ∷ []) ++ sources_of goals target pages)
          ≡ source_at (cond b (Some page.1) (map.find path_cmp path pages))
      by true e true same rest =
          let path_is : path ≡ page.0 = same_bytes path page.0 (sym (is_eq-slice_cmp path page.0) ∙ same) in
          rest ∙ ap source_at (ap (λ q. map.find path_cmp q pages) path_is ∙ find_before path_cmp page.0 pages sorted.0)
          ∙ sym (ap (λ z. if z then None else Some (links_to page.1)) e)
      by true e false other rest = rest
      by false e true same rest =
          ap (λ b. cond b (Some (links_to page.1)) (map.find path_cmp path (sources_of goals target pages))) same
          ∙ sym (ap (λ z. if z then None else Some (links_to page.1)) e)
      by false e false other rest =
          ap (λ b. cond b (Some (links_to page.1)) (map.find path_cmp path (sources_of goals target pages))) other ∙ rest

  before_sources : (k : List ℕ) (pages : List (List ℕ × PageLinks)) → AllByRecursion (λ y. path_cmp k y ≡ Less) (keys_of pages)
      → AllByRecursion (λ y. path_cmp k y ≡ Less) (keys_of (sources_of goals target pages))
  before_sources k [] before = tt
  before_sources k (page ∷ pages) before = by (links_to page.1 == 0) (before_sources k pages before.1)
    where
      by : (z : Bool) → AllByRecursion (λ y. path_cmp k y ≡ Less) (keys_of (sources_of goals target pages))
          → AllByRecursion (λ y. path_cmp k y ≡ Less)
          (keys_of ((if z then [] else (page.0, links_to page.1) ∷ []) ++ sources_of goals target pages))
      by true rest = rest
      by false rest = (before.0, rest)

  sources_sorted : (pages : List (List ℕ × PageLinks)) → IsInOrder pages
      → IsStrictlySortedBy path_cmp (keys_of (sources_of goals target pages))
  unfolding IsStrictlySortedBy
  sources_sorted [] sorted = tt
  sources_sorted (page ∷ pages) sorted =
      by (links_to page.1 == 0) (before_sources page.0 pages sorted.0) (sources_sorted pages sorted.1)
    where
      by : (z : Bool) → AllByRecursion (λ y. path_cmp page.0 y ≡ Less) (keys_of (sources_of goals target pages))
          → IsStrictlySortedBy path_cmp (keys_of (sources_of goals target pages))
          → IsStrictlySortedBy path_cmp (keys_of ((if z then [] else (page.0, links_to page.1) ∷ []) ++ sources_of goals target pages))
      by true before rest = rest
      by false before rest = (before, rest)

  -- what is found among the pages that are seen
  found_seen : (path : List ℕ) (pages : List (List ℕ × PageLinks))
      → map.find path_cmp path (seen goals pages) ≡ cond (leads_to_itself (goals path) path) (map.find path_cmp path pages) None
  found_seen path [] = nothing (leads_to_itself (goals path) path)
    where
      nothing : (b : Bool) → ◌≡◌ {A = Option PageLinks} None (cond b None None)
      nothing true = refl
      nothing false = refl
  found_seen path (page ∷ pages) =
      by (leads_to_itself (goals page.0) page.0) refl (eq_by_cmp path_cmp path page.0) refl (found_seen path pages)
    where
      skipped : (x : Option PageLinks) (c : Bool) → c ≡ false → cond c x None ≡ None
      skipped x true off = absurd (both_ways true off refl)
      skipped x false off = refl

      by : (s : Bool) → leads_to_itself (goals page.0) page.0 ≡ s → (b : Bool) → eq_by_cmp path_cmp path page.0 ≡ b
          → map.find path_cmp path (seen goals pages) ≡ cond (leads_to_itself (goals path) path) (map.find path_cmp path pages) None
          → map.find path_cmp path (cond s (page ∷ seen goals pages) (seen goals pages))
          ≡ cond (leads_to_itself (goals path) path) (cond b (Some page.1) (map.find path_cmp path pages)) None
      by true sees true same rest =
          let path_is : path ≡ page.0 = same_bytes path page.0 (sym (is_eq-slice_cmp path page.0) ∙ same) in
          ap (λ b. cond b (Some page.1) (map.find path_cmp path (seen goals pages))) same
          ∙ sym (ap (λ c. cond c (Some page.1) None) (ap (λ q. leads_to_itself (goals q) q) path_is ∙ sees))
      by true sees false other rest =
          ap (λ b. cond b (Some page.1) (map.find path_cmp path (seen goals pages))) other ∙ rest
      by false hides true same rest =
          let path_is : path ≡ page.0 = same_bytes path page.0 (sym (is_eq-slice_cmp path page.0) ∙ same) in
          let off : leads_to_itself (goals path) path ≡ false = ap (λ q. leads_to_itself (goals q) q) path_is ∙ hides in
          rest ∙ skipped (map.find path_cmp path pages) (leads_to_itself (goals path) path) off
          ∙ sym (skipped (Some page.1) (leads_to_itself (goals path) path) off)
      by false hides false other rest = rest

  -- ---- the links by the paths that they write

  -- different paths of which one is this
  one_of : (path : List ℕ) (names : List (List ℕ)) → IsDistinct bytes_eq names
      → sum_by (λ name. cond (bytes_eq name path) 1 0) names ≡ cond (list_any (bytes_eq path) names) 1 0
  unfolding IsDistinct
  one_of path [] once = refl
  one_of path (name ∷ names) once =
      sum_by-cons (λ other. cond (bytes_eq other path) 1 0) name names
      ∙ ap (λ n. cond (bytes_eq name path) 1 0 + n) (one_of path names once.1)
      ∙ by (bytes_eq path name) refl
    where
      turned : (a b : List ℕ) (x : Bool) → bytes_eq a b ≡ x → bytes_eq b a ≡ x
      turned a b true e = ap (λ q. bytes_eq b q) (same_bytes a b e) ∙ bytes_itself b
      turned a b false e = off (bytes_eq b a) refl
        where
          off : (x : Bool) → bytes_eq b a ≡ x → x ≡ false
          off true is = absurd (both_ways (bytes_eq a b) e (ap (λ q. bytes_eq a q) (same_bytes b a is) ∙ bytes_itself a))
          off false is = refl

      no_other : (names : List (List ℕ)) → AllByRecursion (λ y. bytes_eq name y ≡ false) names → list_any (bytes_eq name) names ≡ false
      no_other [] apart = refl
      no_other (y ∷ ys) apart = ap (λ b. b || list_any (bytes_eq name) ys) apart.0 ∙ no_other ys apart.1

      by : (b : Bool) → bytes_eq path name ≡ b
          → cond (bytes_eq name path) 1 0 + cond (list_any (bytes_eq path) names) 1 0 ≡ cond (b || list_any (bytes_eq path) names) 1 0
      by true e =
          ap₂ (λ a c. cond a 1 0 + cond c 1 0) (turned path name true e)
          (ap (λ q. list_any (bytes_eq q) names) (same_bytes path name e) ∙ no_other names once.0)
      by false e =
          ap (λ a. cond a 1 0 + cond (list_any (bytes_eq path) names) 1 0) (turned path name false e)
          ∙ zero-add (cond (list_any (bytes_eq path) names) 1 0)

  sum_zero : (names : List (List ℕ)) → sum_by (λ name. 0) names ≡ 0
  sum_zero [] = refl
  sum_zero (name ∷ names) = sum_by-cons (λ n. 0) name names ∙ zero-add (sum_by (λ n. 0) names) ∙ sum_zero names

  sum_plus : (f g : List ℕ → ℕ) (names : List (List ℕ)) → sum_by (λ name. f name + g name) names ≡ sum_by f names + sum_by g names
  sum_plus f g [] = refl
  sum_plus f g (name ∷ names) =
      let a : sum_by (λ n. f n + g n) (name ∷ names) ≡ (f name + g name) + sum_by (λ n. f n + g n) names
      = sum_by-cons (λ n. f n + g n) name names in
      let b : sum_by f (name ∷ names) ≡ f name + sum_by f names = sum_by-cons f name names in
      let c : sum_by g (name ∷ names) ≡ g name + sum_by g names = sum_by-cons g name names in
      let d = sum_plus f g names in
      omega (arith, a, b, c, d)

  same_test : (a b : Bool) → (a ≡ true → b ≡ true) → (b ≡ true → a ≡ true) → a ≡ b
  same_test true b h k = sym (h refl)
  same_test false true h k = k refl
  same_test false false h k = refl

  or_later : (a b : Bool) → b ≡ true → (a || b) ≡ true
  or_later true b e = refl
  or_later false b e = e

  -- the links that lead to the target are those that write its names
  pub counted_names : (names : List (List ℕ)) → IsDistinct bytes_eq names
      → ((path : List ℕ) → list_any (bytes_eq path) names ≡ true → leads_to_itself (goals path) target ≡ true) → (links : List LinkKind)
      → ((path : List ℕ) → list_any (writes path) links ≡ true → leads_to_itself (goals path) target ≡ true
      → list_any (bytes_eq path) names ≡ true)
      → sum_by (λ name. count_by (writes name) links) names ≡ count_by (goes_to goals target) links
  counted_names names once lead [] all = sum_zero names
  counted_names names once lead (link ∷ links) all =
      (λ i. sum_by (λ name. sum_by-cons (λ l. cond (writes name l) 1 0) link links i) names)
      ∙ sum_plus (λ name. cond (writes name link) 1 0) (λ name. count_by (writes name) links) names
      ∙ ap₂ (λ a b. a + b) (first link (λ path h. all path (own path h)))
      (counted_names names once lead links (λ path h. all path (or_later (writes path link) (list_any (writes path) links) h)))
      ∙ sym (sum_by-cons (λ l. cond (goes_to goals target l) 1 0) link links)
    where
      own : (path : List ℕ) → writes path link ≡ true → list_any (writes path) (link ∷ links) ≡ true
      own path h = ap (λ b. b || list_any (writes path) links) h

      first : (link : LinkKind)
          → ((path : List ℕ) → writes path link ≡ true → leads_to_itself (goals path) target ≡ true → list_any (bytes_eq path) names ≡ true)
          → sum_by (λ name. cond (writes name link) 1 0) names ≡ cond (goes_to goals target link) 1 0
      first External h = sum_zero names
      first (Page path anchor) h =
          one_of path names once
          ∙ ap (λ b. cond b 1 0)
          (same_test (list_any (bytes_eq path) names) (leads_to_itself (goals path) target) (lead path) (h path (bytes_itself path)))
      first Nowhere h = sum_zero names

  -- a page that is found among others has its links among theirs
  written_in : (path : List ℕ) (page : PageLinks) (pages : List (List ℕ × PageLinks)) → map.find path_cmp path pages ≡ Some page
      → (q : List ℕ) → list_any (writes q) page.links ≡ true → is_written pages q ≡ true
  written_in path page [] is q h = absurd (not_some page is)
  written_in path page (first ∷ pages) is q h =
      by (eq_by_cmp path_cmp path first.0) is (λ e. written_in path page pages e q h)
    where
      by : (b : Bool) → cond b (Some first.1) (map.find path_cmp path pages) ≡ Some page
          → (map.find path_cmp path pages ≡ Some page → is_written pages q ≡ true) → is_written (first ∷ pages) q ≡ true
      by true e rest =
          ap (λ b. b || is_written pages q) (ap (λ (p : PageLinks). list_any (writes q) p.links) (some_is first.1 page e) ∙ h)
      by false e rest = or_later (list_any (writes q) first.1.links) (is_written pages q) (rest e)

  -- ---- the answer

  module _ (slots : Slots) (names : List (List ℕ)) (tally : TextMap ℕ) (once : IsOnce (without_counts slots)) (keyed : AreKeyed slots)
      (are : AreNames names goals (seen goals (pages_of (without_counts slots))) target)
      (is : IsTally slots goals (λ i. sum_by (λ name. written_at slots name i) names) tally) where
    abbrev pages : List (List ℕ × PageLinks)
    pages = seen goals (pages_of (without_counts slots))

    one_stamp : (path : List ℕ) (stamp other : ℕ) → is_some (map.find pair_cmp (path, stamp) (map.entries (held slots))) ≡ true
        → is_some (map.find pair_cmp (path, other) (map.entries (held slots))) ≡ true → other ≡ stamp
    one_stamp path stamp other a b = once path other stamp (key other b) (key stamp a)
      where
        key : (s : ℕ) → is_some (map.find pair_cmp (path, s) (map.entries (held slots))) ≡ true
            → is_some (map.get (without_counts slots) (path, s)) ≡ true
        key s h = sym (has_key slots (path, s)) ∙ ap is_some (map.get-entries (held slots) (path, s)) ∙ h

    nonzero_at : (path : List ℕ) → map.get tally path ≡ nonzero (count_at tally path)
    nonzero_at path = by (map.get tally path) (is.some path)
      where
        by : (o : Option ℕ) → o ≢ Some 0 → o ≡ nonzero (unwrap_or o 0)
        by None some = refl
        by (Some n) some = which (n == 0) refl
          where
            which : (b : Bool) → (n == 0) ≡ b → Some n ≡ (if b then None else Some n)
            which true e = absurd (some (ap Some (eqb-true n 0 e)))
            which false e = refl

    tallied : (path : List ℕ) → map.get tally path ≡ map.find path_cmp path (sources_of goals target pages)
    tallied path =
        by (place_of slots path)
        ∙ sym (found_source path pages (seen_in_order goals (without_counts slots) pages once refl)
        ∙ ap source_at (found_seen path (pages_of (without_counts slots))
        ∙ ap (λ ps. cond (leads_to_itself (goals path) path) (map.find path_cmp path ps) None) (pages_are slots)))
      where
        es : List Entry
        es = map.entries (held slots)

        same_found : (stamp : ℕ) → map.find pair_cmp (path, stamp) (map.entries (held slots)) ≡ found slots path stamp
        same_found stamp =
            sym (map.get-entries (held slots) (path, stamp)) ∙ map.get-from_entries pairs_total (entries_of slots) (path, stamp)

        by : Place slots path → map.get tally path
            ≡ source_at (cond (leads_to_itself (goals path) path)
            (map.find path_cmp path (mapped entry_at (map.entries (held slots)))) None)
        by (nowhere none other) =
            is.known path other
            ∙ sym (ap source_at (ap (λ o. cond (leads_to_itself (goals path) path) o None)
            (at_none path (map.entries (held slots)) (λ stamp. same_found stamp ∙ none stamp))
            ∙ nothing (leads_to_itself (goals path) path)))
          where
            nothing : (b : Bool) → ◌≡◌ {A = Option PageLinks} (cond b None None) None
            nothing true = refl
            nothing false = refl
        by (somewhere i page at same there) =
            nonzero_at path
            ∙ ap nonzero (ap (count_at tally) (sym same) ∙ is.counts i page at
            ∙ ap (λ q. if_seen goals q (sum_by (λ name. written_at slots name i) names)) same)
            ∙ which (leads_to_itself (goals path) path) refl
            ∙ sym (ap (λ o. source_at (cond (leads_to_itself (goals path) path) o None)) at_path)
          where
            entry : map.find pair_cmp (path, page.stamp) (map.entries (held slots)) ≡ Some (known page)
            entry = same_found page.stamp ∙ there

            at_path : map.find path_cmp path (mapped entry_at (map.entries (held slots))) ≡ Some page.value
            at_path =
                at_once path page.stamp (known page) (map.entries (held slots))
                (λ other h. one_stamp path page.stamp other (ap is_some entry) h) entry

            keys : HasKeys page.value.links page.counts
            keys = keyed (path, page.stamp) (known page) (map.get-entries (held slots) (path, page.stamp) ∙ entry)

            counted : leads_to_itself (goals path) path ≡ true
                → sum_by (λ name. written_at slots name i) names ≡ links_to page.value
            counted sees =
                (λ j. sum_by (λ name. unwrap_or (count_in_at name j) 0) names)
                ∙ (λ j. sum_by (λ name. keys.0 name j) names)
                ∙ counted_names names are.once are.lead page.value.links (λ q h. are.all q
                (written_in path page.value pages (found_seen path (pages_of (without_counts slots))
                ∙ ap (λ ps. cond (leads_to_itself (goals path) path) (map.find path_cmp path ps) None) (pages_are slots)
                ∙ ap (λ b. cond b (map.find path_cmp path (mapped entry_at (map.entries (held slots)))) None) sees ∙ at_path) q h))
              where
                count_in_at : (name : List ℕ) → count_in (slot_at slots i) name ≡ count_in (Some page) name
                count_in_at name = ap (λ o. count_in o name) at

            which : (b : Bool) → leads_to_itself (goals path) path ≡ b
                → nonzero (if b then sum_by (λ name. written_at slots name i) names else 0) ≡ source_at (cond b (Some page.value) None)
            which true sees = ap nonzero (counted sees)
            which false hides = refl

    pub answered : IsTrue (is_some (page_at pages target)) → map.entries tally ≡ backlinks goals pages target
    answered there =
        ap map.entries (map.same_map nat_list_cmp_total exact_bytes tally (map.from_entries (sources_of goals target pages)) (λ q.
        tallied q ∙ sym (map.get-from_entries nat_list_cmp_total (sources_of goals target pages) q)))
        ∙ entries_in_order nat_list_cmp_total exact_bytes (sources_of goals target pages)
        (sources_sorted pages (seen_in_order goals (without_counts slots) pages once refl))
        ∙ with_target goals pages target there
