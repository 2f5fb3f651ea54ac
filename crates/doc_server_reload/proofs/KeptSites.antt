-- What edits that are made make of a site.
use Rattle.std.proofs.Common.{◌≡◌, ℕ, List, [], ◌∷◌, Bool, true, false, cond, not, ◌||◌, refl, ap, sym, subst, ◌∙◌}
use Rattle.std.specs.Prelude.{Option, Some, None, option_map, Result, Ok, Err, if◌then◌else◌}
use Rattle.std.specs.FinMap as map
use Rattle.doc_page_parts.proofs.Bools.{clash, or_first}
use Rattle.doc_page_parts.proofs.Options.{is_some_true}
use Rattle.doc_store_readers.proofs.KeySteps.{same_key, same_from, contains_set, get_taken, not_none, some_is, stood}
use Rattle.doc_store_readers.specs.Pages.{Page}
use Rattle.doc_store_readers.specs.Sites.{Site, IsSite}
use Rattle.doc_store.proofs.StampLaw.{move_needs}
use Rattle.doc_store.proofs.StoreSteps.{get-without_goal, site_moved, taken_out}
use Rattle.doc_store.specs.Store.{StoreState, is_goal, set_page, remove_page, move_page, aliases_after, effect_of, moved_by, put_by, with_key_at}
use Rattle.doc_store.specs.declared.moving.MoveError.{MoveError}
use Rattle.doc_store.specs.declared.site_edit.SiteEdit.{SiteEdit}
use Rattle.doc_store.specs.declared.site_edit.SiteEdit.TheVariants as site_edits
use Rattle.doc_store.specs.declared.store.EditError.{EditError}
use Rattle.doc_media.specs.Media.{Media}
use Rattle.doc_hub.specs.Worlds.{has_medium, may_move_beside, may_put}
use Rattle.doc_server_script.specs.Replays.{unless_refused}
use Rattle.doc_server_script.proofs.Without.{site_without}
use Rattle.doc_server_restore.specs.Restores.{all_made, made, unstamped}
use Rattle.doc_server_reload.specs.Laws.{WhatIsMadeGivesTheSite}
use Rattle.doc_server_reload.specs.Leads.{led}
use Rattle.doc_server_reload.proofs.LeadLaw.{led_gives_the_site}
use Rattle.doc_server_script.specs.Compactions.{effects}
use Rattle.doc_server_script.proofs.MadeSteps.{leads, no_page, site_is}

-- ---- a site after an edit is a site

put_site : (site : Site) (path : List ℕ) (page : Page) → IsSite site → IsSite (effect_of site (set_page path page))
put_site site path page is = record {
  apart = λ alias goal e.
      let was = stood site.aliases path alias goal e in
      contains_set site.pages path page alias
      ∙ (ap (λ b. cond b true (map.contains_key site.pages alias)) was.0 ∙ is.apart alias goal was.1);
  lead = λ alias goal e.
      let was = stood site.aliases path alias goal e in
      contains_set site.pages path page goal ∙ (ap (cond (same_key goal path) true) (is.lead alias goal was.1) ∙ either (same_key goal path));
}
  where
    either : (b : Bool) → cond b true true ≡ true
    either true = refl
    either false = refl

removed_site : (site : Site) (path : List ℕ) → IsSite site → IsSite (effect_of site (remove_page path))
removed_site site path is = site_without site ((path, record { groups = []; text = [] }) ∷ []) is

move_site : (site : Site) (from to : List ℕ) → IsSite site → map.contains_key site.pages from ≡ true
    → map.contains_key site.pages to ≡ false → IsSite (effect_of site (move_page from to))
move_site site from to is stands free =
    let found = is_some_true (map.get site.pages from) stands in
    subst (λ pages. IsSite (record { pages = pages; aliases = aliases_after site.aliases from to }))
    (sym (ap (with_key_at site.pages from to) found.1)) (site_moved site from to found.0 is stands free)

nothing_removed : (site : Site) (path : List ℕ) → IsSite site → map.contains_key site.pages path ≡ false
    → effect_of site (remove_page path) ≡ site
nothing_removed site path is none = site_is (effect_of site (remove_page path)) site
    (λ q. get_taken site.pages path q ∙ page_at q (same_key q path) refl)
    (λ q. get-without_goal site.aliases path q ∙ alias_at q (is_goal path (map.get site.aliases q)) refl)
  where
    page_at : (q : List ℕ) (b : Bool) → same_key q path ≡ b → cond b None (map.get site.pages q) ≡ map.get site.pages q
    page_at q true e = sym (ap (map.get site.pages) (same_from q path e) ∙ no_page (map.get site.pages path) none)
    page_at q false e = refl

    alias_at : (q : List ℕ) (b : Bool) → is_goal path (map.get site.aliases q) ≡ b
        → cond (not b) (map.get site.aliases q) None ≡ map.get site.aliases q
    alias_at q true e =
        absurd (clash (map.contains_key site.pages path) (is.lead q path (leads path (map.get site.aliases q) e)) none)
    alias_at q false e = refl

-- ---- so is one after an edit that is made

module _ (media : Media) where
  put_kept : (store next : StoreState) (path : List ℕ) (page : Page) (stands : Bool) (said : Result (Unit {0}) EditError)
      → IsSite store.site
      → option_map unstamped (unless_refused (put_by store path page stands said).0 (put_by store path page stands said).1) ≡ Some next
      → IsSite next.site
  put_kept store next path page stands (Err e) is done = absurd (not_none next done)
  put_kept store next path page stands (Ok fine) is done =
      subst (λ s. IsSite s.site) (some_is _ next done) (put_site store.site path page is)

  removal_kept : (store next : StoreState) (path : List ℕ) (b : Bool) → IsSite store.site
      → Some (unstamped (if b then taken_out store path else store)) ≡ Some next → IsSite next.site
  removal_kept store next path true is done = subst (λ s. IsSite s.site) (some_is _ next done) (removed_site store.site path is)
  removal_kept store next path false is done = subst (λ s. IsSite s.site) (some_is _ next done) is

  move_kept : (store next : StoreState) (from to : List ℕ) (said : Result (Unit {0}) MoveError) → may_move_beside media store from to ≡ said
      → IsSite store.site
      → option_map unstamped (unless_refused (moved_by store from to said).0 (moved_by store from to said).1) ≡ Some next
      → IsSite next.site
  move_kept store next from to (Err e) may is done = absurd (not_none next done)
  move_kept store next from to (Ok fine) may is done =
      let taken = map.contains_key store.site.pages to || has_medium media to in
      let needs = move_needs (map.contains_key store.site.pages from) taken (map.len (aliases_after store.site.aliases from to)) store.puts
      may in
      subst (λ s. IsSite s.site) (some_is _ next done) (move_site store.site from to is needs.0
      (or_first (map.contains_key store.site.pages to) (has_medium media to) needs.1))

  one_kept : (store next : StoreState) (edit : SiteEdit) → IsSite store.site → made media store edit ≡ Some next → IsSite next.site
  one_kept store next (site_edits.Put path groups text) is done =
      put_kept store next path (record { groups = groups; text = text }) (map.contains_key store.site.pages path)
      (may_put media store path text) is done
  one_kept store next (site_edits.Remove path) is done = removal_kept store next path (map.contains_key store.site.pages path) is done
  one_kept store next (site_edits.Move from to) is done =
      move_kept store next from to (may_move_beside media store from to) refl is done

  -- ---- and has the edit's effect

  put_effect : (store next : StoreState) (path : List ℕ) (page : Page) (stands : Bool) (said : Result (Unit {0}) EditError)
      → option_map unstamped (unless_refused (put_by store path page stands said).0 (put_by store path page stands said).1) ≡ Some next
      → next.site ≡ effect_of store.site (set_page path page)
  put_effect store next path page stands (Err e) done = absurd (not_none next done)
  put_effect store next path page stands (Ok fine) done = sym (ap (λ s. s.site) (some_is _ next done))

  removal_effect : (store next : StoreState) (path : List ℕ) (b : Bool) → IsSite store.site → map.contains_key store.site.pages path ≡ b
      → Some (unstamped (if b then taken_out store path else store)) ≡ Some next
      → next.site ≡ effect_of store.site (remove_page path)
  removal_effect store next path true is stands done = sym (ap (λ s. s.site) (some_is _ next done))
  removal_effect store next path false is stands done =
      sym (ap (λ s. s.site) (some_is _ next done)) ∙ sym (nothing_removed store.site path is stands)

  move_effect : (store next : StoreState) (from to : List ℕ) (said : Result (Unit {0}) MoveError)
      → option_map unstamped (unless_refused (moved_by store from to said).0 (moved_by store from to said).1) ≡ Some next
      → next.site ≡ effect_of store.site (move_page from to)
  move_effect store next from to (Err e) done = absurd (not_none next done)
  move_effect store next from to (Ok fine) done = sym (ap (λ s. s.site) (some_is _ next done))

  one_effect : (store next : StoreState) (edit : SiteEdit) → IsSite store.site → made media store edit ≡ Some next
      → next.site ≡ effect_of store.site edit
  one_effect store next (site_edits.Put path groups text) is done =
      put_effect store next path (record { groups = groups; text = text }) (map.contains_key store.site.pages path)
      (may_put media store path text) done
  one_effect store next (site_edits.Remove path) is done =
      removal_effect store next path (map.contains_key store.site.pages path) is refl done
  one_effect store next (site_edits.Move from to) is done = move_effect store next from to (may_move_beside media store from to) done

  -- ---- edits one after the other

  -- what is shown of a store after some edits that are made
  abbrev After : StoreState → List SiteEdit → StoreState → Type 0
  After store edits next = IsSite next.site × (next.site ≡ effects store.site edits)

  pub all_kept : (edits : List SiteEdit) (store next : StoreState) → IsSite store.site → all_made media store edits ≡ Some next
      → After store edits next
  all_kept [] store next is done =
      let same = some_is store next done in (subst (λ s. IsSite s.site) same is, sym (ap (λ s. s.site) same))
  all_kept (edit ∷ edits) store next is done =
      by (made media store edit) (λ mid one more.
      let rest = all_kept edits mid next (one_kept store mid edit is one) more in
      (rest.0, rest.1 ∙ ap (λ site. effects site edits) (one_effect store mid edit is one))) refl done
    where
      by : (found : Option StoreState)
          → ((mid : StoreState) → made media store edit ≡ Some mid → all_made media mid edits ≡ Some next → After store (edit ∷ edits) next)
          → made media store edit ≡ found
          → ◌≡◌ {A = Option StoreState} (elim found [ None ↦ None | Some mid ↦ all_made media mid edits ]) (Some next)
          → After store (edit ∷ edits) next
      by None each one more = absurd (not_none next more)
      by (Some mid) each one more = each mid one more

pub what_is_made_gives_the_site : WhatIsMadeGivesTheSite
what_is_made_gives_the_site media store after new is_old is_new done =
    (all_kept media (led store.site new) store after is_old done).1 ∙ led_gives_the_site store.site new is_old is_new
