-- Where paths lead a reader.
use Rattle.std.proofs.Common.{◌≡◌, ℕ, List, Bool, true, false, cond, is_some, refl, ap, sym, ◌∙◌}
use Rattle.std.specs.Prelude.{Option, Some, None, option_map, option_and_then}
use Rattle.std.specs.FinMap as map
use Rattle.doc_page_parts.specs.Sights.{leads_to_itself}
use Rattle.doc_store_readers.proofs.KeySteps.{same_key, same_from, same_itself, bytes_eq_is}
use Rattle.doc_store_readers.proofs.MapValues.{get-map_values}
use Rattle.doc_store_readers.proofs.ViewLaw.{alias_at-view_of, page_at-view_of}
use Rattle.doc_store_readers.specs.declared.reader.Reader.{Reader}
use Rattle.doc_store_readers.specs.Maps.{TextMap, map_values}
use Rattle.doc_store_readers.specs.Pages.{Page, StampedPage}
use Rattle.doc_store_readers.specs.Sites.{Site, IsSite, View, may_see, may_see_at, page_of_alias, goal_by, goal_in, view_of}
use Rattle.doc_store.specs.Store.{site_with}
use Rattle.doc_store_pages.specs.SeenSteps.{seen_goal, sees_at}
use Rattle.doc_page_parts.proofs.Bools.{clash}

module _ (site : Site) (is : IsSite site) (reader : Reader) where
  abbrev view : View
  view = view_of site (Some reader)

  goal_is : (path : List ℕ) → goal_in view path
      ≡ goal_by path (cond (may_see_at (Some reader) (map.get site.pages path)) (map.get site.pages path) None)
      (cond (may_see_at (Some reader) (page_of_alias site path)) (map.get site.aliases path) None)
  goal_is path = λ i. goal_by path (page_at-view_of site (Some reader) path i) (alias_at-view_of site (Some reader) path i)

  no_alias : (path : List ℕ) (page : Page) → map.get site.pages path ≡ Some page → map.get site.aliases path ≡ None
  no_alias path page stands = by (map.get site.aliases path) refl
    where
      by : (o : Option (List ℕ)) → map.get site.aliases path ≡ o → o ≡ None
      by None e = refl
      by (Some goal) e = absurd (clash (map.contains_key site.pages path) (ap is_some stands) (is.apart path goal e))

  -- where a page stands a path leads to itself or nowhere
  pub goal_of_page : (path : List ℕ) (page : Page) → map.get site.pages path ≡ Some page
      → goal_in view path ≡ cond (may_see (Some reader) page) (Some path) None
  goal_of_page path page stands =
      goal_is path
      ∙ (λ i. goal_by path (cond (may_see_at (Some reader) (stands i)) (stands i) None)
      (cond (may_see_at (Some reader) (option_and_then (map.get site.pages) (no_alias path page stands i))) (no_alias path page stands i)
      None))
      ∙ by (may_see (Some reader) page)
    where
      by : (b : Bool) → goal_by path (cond b (Some page) None) None ≡ cond b (Some path) None
      by true = refl
      by false = refl

  -- else it leads where it leads as an alias, where the page is seen
  pub goal_of_alias : (path : List ℕ) → map.get site.pages path ≡ None
      → goal_in view path ≡ cond (may_see_at (Some reader) (page_of_alias site path)) (map.get site.aliases path) None
  goal_of_alias path none =
      goal_is path ∙ ap (λ p. goal_by path (cond (may_see_at (Some reader) p) p None)
      (cond (may_see_at (Some reader) (page_of_alias site path)) (map.get site.aliases path) None)) none

  led : (path goal : List ℕ) (b : Bool) → map.get site.pages path ≡ None → map.get site.aliases path ≡ Some goal
      → leads_to_itself (cond b (Some goal) None) path ≡ false
  led path goal false none alias = refl
  led path goal true none alias = bytes_eq_is goal path ∙ by (same_key goal path) refl
    where
      by : (b : Bool) → same_key goal path ≡ b → b ≡ false
      by true e = absurd (clash (map.contains_key site.pages goal) (is.lead path goal alias)
          (ap (map.contains_key site.pages) (same_from goal path e) ∙ ap is_some none))
      by false e = refl

  itself_of_alias : (path : List ℕ) (found : Option (List ℕ)) → map.get site.pages path ≡ None → map.get site.aliases path ≡ found
      → leads_to_itself (cond (may_see_at (Some reader) (option_and_then (map.get site.pages) found)) found None) path ≡ false
  itself_of_alias path None none alias = refl
  itself_of_alias path (Some goal) none alias = led path goal (may_see_at (Some reader) (map.get site.pages goal)) none alias

  itself_of_page : (path : List ℕ) (b : Bool) → leads_to_itself (cond b (Some path) None) path ≡ b
  itself_of_page path false = refl
  itself_of_page path true = bytes_eq_is path path ∙ same_itself path

  -- a path leads to itself where the reader may see the page under it
  pub itself_is : (path : List ℕ) → leads_to_itself (goal_in view path) path ≡ may_see_at (Some reader) (map.get site.pages path)
  itself_is path = by (map.get site.pages path) refl
    where
      by : (page : Option Page) → map.get site.pages path ≡ page → leads_to_itself (goal_in view path) path ≡ may_see_at (Some reader) page
      by None e =
          ap (λ goal. leads_to_itself goal path) (goal_of_alias path e) ∙ itself_of_alias path (map.get site.aliases path) e refl
      by (Some page) e =
          ap (λ goal. leads_to_itself goal path) (goal_of_page path page e) ∙ itself_of_page path (may_see (Some reader) page)

module _ (pages : TextMap StampedPage) (aliases : TextMap (List ℕ)) (is : IsSite (site_with pages aliases)) (reader : Reader) (v : View)
    (view_is : view_of (site_with pages aliases) (Some reader) ≡ v) (path : List ℕ) where
  abbrev site : Site
  site = site_with pages aliases

  page_there : (o : Option StampedPage) → o ≡ map.get pages path
      → map.get (map_values (λ p. p.page) pages) path ≡ option_map (λ p. p.page) o
  page_there o e = get-map_values (λ p. p.page) pages path ∙ ap (option_map (λ p. p.page)) (sym e)

  pub sees_is : (sees : Bool) → sees ≡ sees_at pages reader path → sees ≡ leads_to_itself (goal_in v path) path
  sees_is sees can =
      can ∙ ap (may_see_at (Some reader)) (sym (page_there (map.get pages path) refl)) ∙ sym (itself_is site is reader path)
      ∙ ap (λ w. leads_to_itself (goal_in w path) path) view_is

  pub leads_to_page : (page : StampedPage) (sees : Bool) → Some page ≡ map.get pages path → sees ≡ may_see (Some reader) page.page
      → cond sees (Some path) None ≡ goal_in v path
  leads_to_page page sees found can =
      ap (λ b. cond b (Some path) None) can ∙ sym (goal_of_page site is reader path page.page (page_there (Some page) found))
      ∙ ap (λ w. goal_in w path) view_is

  leads_by : (found : Option (List ℕ)) → None ≡ map.get pages path → found ≡ map.get aliases path
      → cond (may_see_at (Some reader) (option_and_then (map.get (map_values (λ p. p.page) pages)) found)) found None ≡ goal_in v path
  leads_by found none is_alias =
      ap (λ o. cond (may_see_at (Some reader) (option_and_then (map.get (map_values (λ p. p.page) pages)) o)) o None) is_alias
      ∙ sym (goal_of_alias site is reader path (page_there None none)) ∙ ap (λ w. goal_in w path) view_is

  pub leads_nowhere : None ≡ map.get pages path → None ≡ map.get aliases path → None ≡ goal_in v path
  leads_nowhere none no_alias = leads_by None none no_alias

  pub leads_as_alias : (goal : List ℕ) (found : Option (List ℕ)) → None ≡ map.get pages path → Some goal ≡ map.get aliases path
      → found ≡ seen_goal pages reader goal → found ≡ goal_in v path
  leads_as_alias goal found none alias can =
      can ∙ ap (λ p. cond (may_see_at (Some reader) p) (Some goal) None) (sym (get-map_values (λ p. p.page) pages goal))
      ∙ leads_by (Some goal) none alias
