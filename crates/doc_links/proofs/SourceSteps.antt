-- Which links lead to a target, and which pages have such links.
use Rattle.std.proofs.Common.{◌≡◌, ℕ, ◌≤◌, List, [], ◌∷◌, ◌++◌, Bool, true, false, cond, ◌&&◌, ◌==◌, length, not, is_some, take, refl, ap, sym, ◌∙◌}
use Rattle.std.specs.Prelude.{Option, Some, None, bytes_eq, count_by, map as mapped, option_and_then, option_map}
use Rattle.std.specs.Option.{unwrap_or}
use Rattle.std.specs.List.{filter, flat_map}
use Rattle.std.proofs.lemmas.Bool.{both_ways}
use Rattle.std.proofs.lemmas.List.{take_all}
use Rattle.std.proofs.lemmas.List.Folds.{flat_map-map}
use Rattle.std.proofs.lemmas.Map.Lookups.{exact_bytes}
use Rattle.std.proofs.lemmas.Map.Text.{is_eq-slice_cmp}
use Rattle.std.specs.Cmp.Lexicographic.{slice_cmp}
use Rattle.std.specs.Ordering.{nat_cmp}
use Rattle.doc_index_tables.proofs.TableSteps.{equal_from}
use Rattle.doc_page_parts.proofs.Bools.{and_false}
use Rattle.doc_page_parts.specs.Sights.{leads_to_itself}
use Rattle.doc_resolve.specs.declared.link_kind.LinkKind.{LinkKind}
use Rattle.doc_resolve.specs.declared.link_kind.LinkKind.TheVariants.{External, Page, Nowhere}
use Rattle.doc_links.specs.IndexSteps.{goes_to, source_of, sources_of}
use Rattle.doc_links_pages.specs.Links.{backlinks, is_target, leads_to, page_at}
use Rattle.doc_links_pages.specs.declared.page_links.PageLinks.{PageLinks}
use Rattle.doc_links_seen.specs.SeenPages.{seen_page, seen_pages}
use Rattle.doc_links_seen.specs.declared.seen.SeenPage.{SeenPage}

same_bytes : (x y : List ℕ) → bytes_eq x y ≡ true → x ≡ y
same_bytes x y e = exact_bytes x y (equal_from (slice_cmp nat_cmp x y) (is_eq-slice_cmp x y ∙ e))

-- the page that is found has the path
at_path : (pages : List (List ℕ × PageLinks)) (path : List ℕ) (page : List ℕ × PageLinks) → page_at pages path ≡ Some page
    → bytes_eq page.0 path ≡ true
at_path [] path page is = cc
at_path (first ∷ pages) path page is = by (bytes_eq first.0 path) refl (at_path pages path page) is
  where
    by : (b : Bool) → bytes_eq first.0 path ≡ b → (page_at pages path ≡ Some page → bytes_eq page.0 path ≡ true)
        → cond b (Some first) (page_at pages path) ≡ Some page → bytes_eq page.0 path ≡ true
    by true e later same = ap (λ p. bytes_eq p.0 path) (sym (ap (λ o. unwrap_or o first) same)) ∙ e
    by false e later same = later same

module _ (goals : List ℕ → Option (List ℕ)) (pages : List (List ℕ × PageLinks)) (target : List ℕ) where
  abbrev there : Bool
  there = is_some (page_at pages target)

  of_target : (x : Option (List ℕ × PageLinks)) → page_at pages target ≡ x → is_target target x ≡ (is_some x && true)
  of_target None e = refl
  of_target (Some page) e = at_path pages target page e

  of_other : (goal : List ℕ) (x : Option (List ℕ × PageLinks)) → page_at pages goal ≡ x → bytes_eq goal target ≡ false
      → is_target target x ≡ false
  of_other goal None e other = refl
  of_other goal (Some page) e other =
      ap (λ p. bytes_eq p target) (same_bytes page.0 goal (at_path pages goal page e)) ∙ other

  of_goal : (goal : List ℕ) → is_target target (page_at pages goal) ≡ (there && bytes_eq goal target)
  of_goal goal = by (bytes_eq goal target) refl
    where
      by : (b : Bool) → bytes_eq goal target ≡ b → is_target target (page_at pages goal) ≡ (there && b)
      by true e =
          ap (λ g. is_target target (page_at pages g)) (same_bytes goal target e) ∙ of_target (page_at pages target) refl
      by false e = of_other goal (page_at pages goal) refl e ∙ sym (and_false there)

  -- a link leads to a target where that is among the pages and the link's goal
  leads_is : (link : LinkKind) → leads_to goals pages target link ≡ (there && goes_to goals target link)
  leads_is External = sym (and_false there)
  leads_is (Page path anchor) = by (goals path)
    where
      by : (goal : Option (List ℕ)) → is_target target (option_and_then (page_at pages) goal) ≡ (there && leads_to_itself goal target)
      by None = sym (and_false there)
      by (Some goal) = of_goal goal
  leads_is Nowhere = sym (and_false there)

  listed : (count : PageLinks → ℕ) (some : List (List ℕ × PageLinks))
      → filter (λ source. not (source.1 == 0)) (mapped (λ page. (page.0, count page.1)) some)
      ≡ flat_map (λ page. source_of page.0 (count page.1)) some
  listed count [] = refl
  listed count (page ∷ some) = by (count page.1 == 0) (listed count some)
    where
      by : (b : Bool) {xs ys : List (List ℕ × ℕ)} → xs ≡ ys
          → cond (not b) ((page.0, count page.1) ∷ xs) xs ≡ cond b [] ((page.0, count page.1) ∷ []) ++ ys
      by true e = e
      by false e = ap (λ zs. (page.0, count page.1) ∷ zs) e

  none_counted : (links : List LinkKind) → count_by (λ link. false) links ≡ 0
  none_counted [] = refl
  none_counted (link ∷ links) = none_counted links

  abbrev none_of : List (List ℕ × PageLinks) → List (List ℕ × ℕ)
  none_of some = filter (λ source. not (source.1 == 0)) (mapped (λ page. (page.0, count_by (λ link. false) page.1.links)) some)

  none_listed : (some : List (List ℕ × PageLinks)) → none_of some ≡ []
  none_listed [] = refl
  none_listed (page ∷ some) =
      ap (λ n. cond (not (n == 0)) ((page.0, n) ∷ none_of some) (none_of some)) (none_counted page.1.links) ∙ none_listed some

  abbrev by_test : (LinkKind → Bool) → List (List ℕ × ℕ)
  by_test test = filter (λ source. not (source.1 == 0)) (mapped (λ page. (page.0, count_by test page.1.links)) pages)

  tests : leads_to goals pages target ≡ (λ link. there && goes_to goals target link)
  tests = λ i link. leads_is link i

  -- without the target there are none
  pub without_target : page_at pages target ≡ None → [] ≡ backlinks goals pages target
  unfolding backlinks
  without_target none =
      sym (ap by_test (tests ∙ ap (λ x. λ link. is_some x && goes_to goals target link) none) ∙ none_listed pages)

  pub with_target : is_some (page_at pages target) ≡ true → sources_of goals target pages ≡ backlinks goals pages target
  unfolding backlinks
  with_target is =
      sym (ap by_test (tests ∙ ap (λ b. λ link. b && goes_to goals target link) is)
      ∙ listed (λ page. count_by (goes_to goals target) page.links) pages)

-- what a loop over the pages has put together
module _ (goals : List ℕ → Option (List ℕ)) (pages : List SeenPage) (i : ℕ) (within : length pages ≤ i) where
  pub all_sources : (target : List ℕ) (all : List (List ℕ × ℕ))
      → all ≡ flat_map (λ page. source_of page.path.now (count_by (goes_to goals target) page.known.now.links)) (take i pages)
      → all ≡ sources_of goals target (seen_pages pages)
  all_sources target all is =
      is
      ∙ ap (flat_map (λ (page : SeenPage). source_of page.path.now (count_by (goes_to goals target) page.known.now.links)))
      (take_all i pages within)
      ∙ sym (flat_map-map (λ page. source_of page.0 (count_by (goes_to goals target) page.1.links)) seen_page pages)

pub no_page : (page : Option SeenPage) (b : Bool) → is_some page ≡ not b → b ≡ true → option_map seen_page page ≡ None
no_page None b e is = refl
no_page (Some page) b e is = absurd (both_ways true (e ∙ ap not is) refl)

pub some_page : (page : Option SeenPage) (b : Bool) → is_some page ≡ not b → b ≡ false → {found : Option (List ℕ × PageLinks)}
    → option_map seen_page page ≡ found → is_some found ≡ true
some_page None b e is same = absurd (both_ways false refl (e ∙ ap not is))
some_page (Some page) b e is same = ap is_some (sym same)
