-- What a store knows of the pages that a reader sees: their names, and how many there are.
use Rattle.std.proofs.Common.{◌≡◌, ℕ, List, [], ◌∷◌, Bool, true, false, bytes_eq, length, map as mapped, refl, ap, sym, ◌∙◌}
use Rattle.std.specs.Prelude.{Option, Some, None, option_and_then, if◌then◌else◌}
use Rattle.std.specs.FinMap as map
use Rattle.std.proofs.lemmas.Bool.{both_ways}
use Rattle.std.proofs.lemmas.List.{length-map}
use Rattle.std.proofs.lemmas.Simd.{map-map}
use Rattle.doc_links_pages.specs.Links.{is_target, leads_to, page_at as page_with_links}
use Rattle.doc_links_pages.specs.declared.page_links.PageLinks.{PageLinks}
use Rattle.doc_resolve.specs.declared.link_kind.LinkKind.TheVariants.{Page as page_link}
use Rattle.doc_store_readers.proofs.KeySteps.{bytes_eq_is, same_from, same_itself}
use Rattle.doc_store.proofs.NamesLaw.{names_lead}
use Rattle.doc_store_readers.proofs.SitesOfViews.{kept}
use Rattle.doc_store_readers.proofs.ViewLaw.{page_at-view_of}
use Rattle.doc_store.specs.Names.{AreNames, names_of}
use Rattle.doc_store_readers.specs.Pages.{Page}
use Rattle.doc_store_readers.specs.Sites.{goal_in, may_see_at, page_at}
use Rattle.doc_store.specs.Store.{is_goal}
use Rattle.doc_page_parts.specs.declared.rendered.Rendered.{Rendered}
use Rattle.doc_shelf_pages.specs.ViewLaws.{CountsOfSeen, NamesOfTargets, seen_in, words_seen}
use Rattle.doc_shelf_pages.specs.Views.{Renders, links_in, rendered_pages}
use Rattle.doc_shelf_pages.proofs.ViewAnswers.{links_are, words_are}

same_bytes : (x y : List ℕ) → bytes_eq x y ≡ true → x ≡ y
same_bytes x y e = same_from x y (sym (bytes_eq_is x y) ∙ e)

own_bytes : (x : List ℕ) → bytes_eq x x ≡ true
own_bytes x = bytes_eq_is x x ∙ same_itself x

turned : (x y : List ℕ) (b : Bool) → bytes_eq x y ≡ b → bytes_eq y x ≡ b
turned x y true e = ap (λ z. bytes_eq y z) (same_bytes x y e) ∙ own_bytes y
turned x y false e = by (bytes_eq y x) refl
  where
    by : (b : Bool) → bytes_eq y x ≡ b → b ≡ false
    by true f = absurd (both_ways (bytes_eq x y) e (ap (λ z. bytes_eq x z) (same_bytes y x f) ∙ own_bytes x))
    by false f = refl

-- a path that isn't a target's leads to another page, if to any
other_target : (target goal : List ℕ) → bytes_eq goal target ≡ false → (pages : List (List ℕ × PageLinks))
    → is_target target (page_with_links pages goal) ≡ false
other_target target goal apart [] = refl
other_target target goal apart (page ∷ pages) = by (bytes_eq page.0 goal) refl (other_target target goal apart pages)
  where
    by : (b : Bool) → bytes_eq page.0 goal ≡ b → is_target target (page_with_links pages goal) ≡ false
        → is_target target (if b then Some page else page_with_links pages goal) ≡ false
    by true same rest = ap (λ p. bytes_eq p target) (same_bytes page.0 goal same) ∙ apart
    by false other rest = rest

nothing_there : (page : Page) → None ≡ Some page → ⊥
nothing_there page e = cc

module _ (render : Renders) (path : List ℕ) (page : Page) where
  abbrev pub linked : List (List ℕ × Page) → List (List ℕ × PageLinks)
  linked pages = mapped (λ (p : List ℕ × Page). (p.0, links_in p.0 (render p.1.text))) pages

  -- where a page is among others, what a path leads to is that page where the path is its
  pub target_is : (goal : List ℕ) (pages : List (List ℕ × Page)) → page_at pages path ≡ Some page
      → is_target path (page_with_links (linked pages) goal) ≡ bytes_eq goal path
  target_is goal [] there = absurd (nothing_there page there)
  target_is goal (first ∷ pages) there = by (bytes_eq first.0 goal) (bytes_eq path first.0) refl refl there (target_is goal pages)
    where
      by : (b own : Bool) → bytes_eq first.0 goal ≡ b → bytes_eq path first.0 ≡ own
          → (if own then Some first.1 else page_at pages path) ≡ Some page
          → (page_at pages path ≡ Some page → is_target path (page_with_links (linked pages) goal) ≡ bytes_eq goal path)
          → is_target path (if b then Some (first.0, links_in first.0 (render first.1.text)) else page_with_links (linked pages) goal)
          ≡ bytes_eq goal path
      by true own same e found rest = ap (λ p. bytes_eq p path) (same_bytes first.0 goal same)
      by false false other e found rest = rest found
      by false true other e found rest =
          let apart : bytes_eq goal path ≡ false = turned path goal false (ap (λ p. bytes_eq p goal) (same_bytes path first.0 e) ∙ other) in
          other_target path goal apart (linked pages) ∙ sym apart

pub names_of_targets : NamesOfTargets
names_of_targets render store reader path page is there =
    let sees : may_see_at (Some reader) (map.get store.site.pages path) ≡ true
    = (kept (may_see_at (Some reader) (map.get store.site.pages path)) (map.get store.site.pages path) page
    (sym (page_at-view_of store.site (Some reader) path) ∙ there)).0 in
    let names : AreNames (names_of store.site path) (goal_in (seen_in store reader)) path
    = (names_lead store.site path is.site).in_view (Some reader) sees in
    record {
      names = names;
      links = λ name anchor.
          ap (λ pages. leads_to (goal_in (seen_in store reader)) pages path (page_link name anchor))
          (links_are render store reader is
          ∙ map-map (λ (p : List ℕ × Rendered). (p.0, links_in p.0 p.1)) (λ (p : List ℕ × Page). (p.0, render p.1.text))
          (seen_in store reader).pages)
          ∙ by (goal_in (seen_in store reader) name)
          ∙ sym (names.all name);
    }
  where
    by : (goal : Option (List ℕ))
        → is_target path (option_and_then (page_with_links (linked render path page (seen_in store reader).pages)) goal) ≡ is_goal path goal
    by None = refl
    by (Some goal) = target_is render path page goal (seen_in store reader).pages there

pub counts_of_seen : CountsOfSeen
counts_of_seen render store reader index is held =
    sym (ap (λ words. length (words_seen store reader words)) held
    ∙ ap length (words_are render store reader is)
    ∙ length-map (rendered_pages render (seen_in store reader)) _
    ∙ length-map (seen_in store reader).pages _)
