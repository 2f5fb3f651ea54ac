-- The answers on a site and on the cut of it are the same.
use Rattle.std.proofs.Common.{◌≡◌, ℕ, List, true, false, cond, ◌||◌, is_some, refl, ap, sym, ◌∙◌}
use Rattle.std.specs.Prelude.{Option, Some, None, option_and_then}
use Rattle.std.specs.FinMap as map
use Rattle.std.proofs.lemmas.Bool.{both_ways}
use Rattle.std.proofs.lemmas.Cmp.{nat_list_cmp_total}
use Rattle.std.proofs.lemmas.Map.Lookups.{exact_bytes}
use Rattle.doc_store_readers.proofs.SitesOfViews.{views_are_sites}
use Rattle.doc_store_readers.proofs.ViewLaw.{get-visible_aliases, get-visible_pages, view_of_view}
use Rattle.doc_store_readers.specs.declared.reader.Reader.{Reader}
use Rattle.doc_store_readers.specs.Groups.{meet}
use Rattle.doc_store_readers.specs.Pages.{Page}
use Rattle.doc_store_readers.specs.Sites.{Site, IsSite, View, may_see_at, view_of, visible_to}
use Rattle.doc_shelf_pages.specs.Held.{held_links, held_words}
use Rattle.doc_shelf_pages.specs.ViewLaws.{AnswersOfCut, SameBodies, StoresAnswerAlike}
use Rattle.doc_shelf_pages.specs.Views.{Renders, backlinks_body, backlinks_in, broken_in, contents_body, contents_in, hits_in, report_body}
use Rattle.doc_shelf_pages.specs.Views.{search_body}
use Rattle.doc_shelf_pages.proofs.ViewAnswers.{backlinks_are_the_views, broken_are_the_views, contents_are_the_views, hits_are_the_views}

pub same_bodies : (render : Renders) (view other : View) → view ≡ other → SameBodies render view other
same_bodies render view other same = record {
  of_contents = ap (contents_body render) same;
  of_backlinks = λ path. ap (λ v. backlinks_body render v path) same;
  of_search = λ words. ap (λ v. search_body render v words) same;
  of_report = λ media. ap (λ v. report_body render v media) same;
}

-- the view of whoever sees the whole of a site
seen : Site → View
seen site = record { pages = map.entries site.pages; aliases = map.entries site.aliases }

-- an owner sees the whole of a site
module _ (site : Site) (is : IsSite site) (owner : Reader) (owns : owner.owner ≡ true) where
  sees : (page : Page) → may_see_at (Some owner) (Some page) ≡ true
  sees page = ap (λ b. b || meet owner.groups page.groups) owns

  page_stays : (page : Option Page) → cond (may_see_at (Some owner) page) page None ≡ page
  page_stays None = refl
  page_stays (Some page) = ap (λ b. cond b (Some page) None) (sees page)

  goal_stays : (page : Option Page) (goal : List ℕ) → is_some page ≡ true
      → ◌≡◌ {A = Option (List ℕ)} (cond (may_see_at (Some owner) page) (Some goal) None) (Some goal)
  goal_stays None goal there = absurd (both_ways false refl there)
  goal_stays (Some page) goal there = ap (λ b. cond b (Some goal) None) (sees page)

  alias_stays : (alias : List ℕ) (goal : Option (List ℕ)) → map.get site.aliases alias ≡ goal
      → cond (may_see_at (Some owner) (option_and_then (map.get site.pages) goal)) goal None ≡ goal
  alias_stays alias None e = refl
  alias_stays alias (Some goal) e = goal_stays (map.get site.pages goal) goal (is.lead alias goal e)

  all_pages : (visible_to site (Some owner)).pages ≡ site.pages
  all_pages = map.same_map nat_list_cmp_total exact_bytes _ _ (λ path.
      get-visible_pages site (Some owner) path ∙ page_stays (map.get site.pages path))

  all_aliases : (visible_to site (Some owner)).aliases ≡ site.aliases
  all_aliases = map.same_map nat_list_cmp_total exact_bytes _ _ (λ alias.
      get-visible_aliases site (Some owner) alias ∙ alias_stays alias (map.get site.aliases alias) refl)

  pub owner_sees_all : visible_to site (Some owner) ≡ site
  owner_sees_all = λ i. record { pages = all_pages i; aliases = all_aliases i }

pub answers_of_cut : AnswersOfCut
unfolding seen
answers_of_cut = record {
  again = λ render site reader.
      same_bodies render (view_of site reader) (view_of (visible_to site reader) reader) (ap seen (sym (view_of_view site reader)));
  whole = λ render site reader owner is owns.
      same_bodies render (view_of site reader) (view_of (visible_to site reader) (Some owner))
      (ap seen (sym (owner_sees_all (visible_to site reader) (views_are_sites site reader is) owner owns)));
}

pub stores_answer_alike : StoresAnswerAlike
stores_answer_alike render store other reader is also same = record {
  of_contents =
      contents_are_the_views render store reader (held_links render store) is refl
      ∙ ap (contents_in render) same
      ∙ sym (contents_are_the_views render other reader (held_links render other) also refl);
  of_backlinks = λ path.
      backlinks_are_the_views render store reader (held_links render store) path is refl
      ∙ ap (λ v. backlinks_in render v path) same
      ∙ sym (backlinks_are_the_views render other reader (held_links render other) path also refl);
  of_search = λ words.
      hits_are_the_views render store reader (held_words render store) words is refl
      ∙ ap (λ v. hits_in render v words) same
      ∙ sym (hits_are_the_views render other reader (held_words render other) words also refl);
  of_report = λ media.
      broken_are_the_views render store reader (held_links render store) media is refl
      ∙ ap (λ v. broken_in render v media) same
      ∙ sym (broken_are_the_views render other reader (held_links render other) media also refl);
}
