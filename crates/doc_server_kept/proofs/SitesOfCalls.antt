-- An edit as calls take it leaves a site as calls make it, and is written as one.
use Rattle.std.proofs.Common.{◌≡◌, ⊎_elim, ℕ, List, Bool, true, false, cond, not, bytes_eq, refl, ap, sym, ◌∙◌, subst}
use Rattle.std.specs.Prelude.{⊤, Option, Some, None, IfSome, option_map, if◌then◌else◌}
use Rattle.std.specs.FinMap as map
use Rattle.doc_page_parts.proofs.Options.{is_some_true}
use Rattle.doc_store_readers.proofs.KeySteps.{contains_set, contains_taken, not_none, same_key, set_or_stood, some_is, stood}
use Rattle.doc_store_readers.proofs.KeySteps.{bytes_eq_is}
use Rattle.doc_store_readers.specs.Groups.{IsGroups}
use Rattle.doc_store_readers.specs.Maps.{TextMap}
use Rattle.doc_store_readers.specs.Pages.{Page}
use Rattle.doc_store_readers.specs.Sites.{Site}
use Rattle.doc_store.specs.Store.{StoreState, effect_of, is_goal, move_page, remove_page, set_page, with_key_at, with_page, without_goal}
use Rattle.doc_store.proofs.StoreSteps.{get-without_goal, site_moved}
use Rattle.doc_hub.specs.Edits.{CanBeMade, CanRegroup, regrouped, store_after}
use Rattle.doc_hub.specs.Edit.{Edit}
use Rattle.doc_hub.specs.Edit.TheVariants as edits
use Rattle.doc_hub.specs.Worlds.{World, store_of}
use Rattle.doc_server_script.specs.Laws.{IsPathText, IsText}
use Rattle.doc_server_listen.specs.Edits.{edit_at}
use Rattle.doc_server_restore.specs.Laws.{IsEdit}
use Rattle.doc_server_restore.specs.Restores.{unstamped}
use Rattle.doc_server_kept.specs.KeptTurns.{IsOfCalls}
use Rattle.doc_server_kept.proofs.EditsMade.{stands_there}
use Rattle.doc_server_kept.proofs.Events.{WasMade}
use Rattle.doc_server_kept.proofs.TextSteps.{text_of_utf8}

-- no edit, or one at paths and for groups as calls take them
abbrev pub OfCalls : Option Edit → Type 0
OfCalls None = ⊤
OfCalls (Some (edits.Put path groups)) = IsPathText path × IsGroups groups
OfCalls (Some (edits.Regroup path groups)) = IsPathText path × IsGroups groups
OfCalls (Some (edits.Move from to)) = IsPathText from × IsPathText to
OfCalls (Some (edits.Remove path)) = IsPathText path

-- a page as calls take it
abbrev pub IsPage : Page → Type 0
IsPage page = IsGroups page.groups × IsText page.text

module _ (site : Site) (is : IsOfCalls site) where
  -- ---- a put

  put_of_calls : (path : List ℕ) (page : Page) → IsPage page → IsOfCalls (effect_of site (set_page path page))
  put_of_calls path page fine = record {
    is_site = record {
      apart = λ alias goal e.
          let old = stood site.aliases path alias goal e in
          contains_set site.pages path page alias ∙ ap (λ b. cond b true (map.contains_key site.pages alias)) old.0
          ∙ is.is_site.apart alias goal old.1;
      lead = λ alias goal e.
          let old = stood site.aliases path alias goal e in
          contains_set site.pages path page goal ∙ ap (cond (same_key goal path) true) (is.is_site.lead alias goal old.1)
          ∙ either (same_key goal path);
    };
    pages = λ q p e.
        ⊎_elim (λ new. subst IsPage new.1 fine) (λ old. is.pages q p old.1) (set_or_stood site.pages path page q p e);
  }
    where
      either : (b : Bool) → cond b true true ≡ true
      either true = refl
      either false = refl

  -- ---- a removal

  -- an alias that is left leads elsewhere
  left : (path alias goal : List ℕ) → map.get (without_goal site.aliases path) alias ≡ Some goal
      → (map.get site.aliases alias ≡ Some goal) × (same_key goal path ≡ false)
  left path alias goal e = by (map.get site.aliases alias) (sym (get-without_goal site.aliases path alias) ∙ e)
    where
      by_goal : (b : Bool) (old : List ℕ) → bytes_eq old path ≡ b → cond (not b) (Some old) None ≡ Some goal
          → ◌≡◌ {A = Option (List ℕ)} (Some old) (Some goal) × (same_key goal path ≡ false)
      by_goal true old same e = absurd (not_none goal e)
      by_goal false old same e =
          (e, ap (λ g. same_key g path) (sym (some_is old goal e)) ∙ sym (bytes_eq_is old path) ∙ same)

      by : (old : Option (List ℕ)) → cond (not (is_goal path old)) old None ≡ Some goal
          → (old ≡ Some goal) × (same_key goal path ≡ false)
      by None e = absurd (not_none goal e)
      by (Some old) e = by_goal (bytes_eq old path) old refl e

  removal_of_calls : (path : List ℕ) → IsOfCalls (effect_of site (remove_page path))
  removal_of_calls path = record {
    is_site = record {
      apart = λ alias goal e.
          contains_taken site.pages path alias
          ∙ ap (cond (same_key alias path) false) (is.is_site.apart alias goal (left path alias goal e).0)
          ∙ neither (same_key alias path);
      lead = λ alias goal e.
          let old = left path alias goal e in
          contains_taken site.pages path goal ∙ ap (λ b. cond b false (map.contains_key site.pages goal)) old.1
          ∙ is.is_site.lead alias goal old.0;
    };
    pages = λ q p e. is.pages q p (stood site.pages path q p e).1;
  }
    where
      neither : (b : Bool) → cond b false false ≡ false
      neither true = refl
      neither false = refl

  -- ---- a move

  move_of_calls : (from to : List ℕ) → map.contains_key site.pages from ≡ true → map.contains_key site.pages to ≡ false
      → IsOfCalls (effect_of site (move_page from to))
  move_of_calls from to stands free =
      let found = is_some_true (map.get site.pages from) stands in
      let page : Page = found.0 in
      let after : Site = record {
        pages = map.insert (map.remove site.pages from) to page;
        aliases = (effect_of site (move_page from to)).aliases;
      } in
      let same : (effect_of site (move_page from to)).pages ≡ after.pages = ap (with_key_at site.pages from to) found.1 in
      let there : IsOfCalls after = record {
        is_site = site_moved site from to page is.is_site stands free;
        pages = λ q p e.
            ⊎_elim (λ new. subst IsPage new.1 (is.pages from page found.1)) (λ old. is.pages q p (stood site.pages from q p old.1).1)
            (set_or_stood (map.remove site.pages from) to page q p e);
      } in
      subst (λ (pages : TextMap Page). IsOfCalls (record { pages = pages; aliases = after.aliases })) (sym same) there

module _ (w v : World) (is : IsOfCalls w.site) where
  abbrev Leaves : StoreState → Type 0
  Leaves store = store_of v ≡ unstamped store

  -- what holds of the site of a store that is left
  left_by : (store : StoreState) → Leaves store → IsOfCalls store.site → IsOfCalls v.site
  left_by store state of_calls = subst (λ (s : StoreState). IsOfCalls s.site) (sym state) of_calls

  -- a page that was put: what is left, and what is written
  put_page : (path : List ℕ) (page : Page) → IsPathText path → IsPage page → Leaves (with_page (store_of w) path page)
      → IsOfCalls v.site × IfSome (option_map (set_page path) (map.get v.site.pages path)) IsEdit
  put_page path page good fine state = (
    left_by (with_page (store_of w) path page) state (put_of_calls w.site is path page fine),
    subst (λ o. IfSome (option_map (set_page path) o) IsEdit) (sym (stands_there w v path page state)) (good, fine.0, fine.1),
  )

  regroup_page : (path : List ℕ) (groups : List (List ℕ)) (found : Option Page) → map.get w.site.pages path ≡ found
      → IsPathText path → IsGroups groups → CanRegroup (store_of w) path found → Leaves (regrouped (store_of w) path groups found)
      → IsOfCalls v.site × IfSome (option_map (set_page path) (map.get v.site.pages path)) IsEdit
  regroup_page path groups None stood good are can state = absurd can
  regroup_page path groups (Some page) stood good are can state =
      put_page path (record page { groups = groups }) good (are, (is.pages path page stood).1) state

  removed : (path : List ℕ) (stands : Bool)
      → Leaves (if stands then record {
        site = effect_of w.site (remove_page path);
        stamps = map.remove (map.empty) path;
        puts = w.puts;
      } else store_of w) → IsOfCalls v.site
  removed path true state =
      subst (λ (s : StoreState). IsOfCalls s.site) (sym state) (removal_of_calls w.site is path)
  removed path false state = subst (λ (s : StoreState). IsOfCalls s.site) (sym state) is

  told_of_calls : (text : List ℕ) (told : Option Edit) → OfCalls told → CanBeMade (store_of w) text told
      → Leaves (store_after (store_of w) text told) → IsOfCalls v.site × IfSome (edit_at v told) IsEdit
  told_of_calls text None of_calls can state = (left_by (store_of w) state is, tt)
  told_of_calls text (Some (edits.Put path groups)) of_calls can state =
      put_page path (record { groups = groups; text = text }) of_calls.0 (of_calls.1, text_of_utf8 text can.0) state
  told_of_calls text (Some (edits.Regroup path groups)) of_calls can state =
      regroup_page path groups (map.get w.site.pages path) refl of_calls.0 of_calls.1 can state
  told_of_calls text (Some (edits.Move from to)) of_calls can state =
      (subst (λ (s : StoreState). IsOfCalls s.site) (sym state) (move_of_calls w.site is from to can.stands can.free), of_calls)
  told_of_calls text (Some (edits.Remove path)) of_calls can state =
      (removed path (map.contains_key w.site.pages path) state, of_calls)

  -- what is left is as calls make it, and what is written is as calls take it
  pub left_of_calls : (told : Option Edit) → OfCalls told → WasMade w v told → IsOfCalls v.site × IfSome (edit_at v told) IsEdit
  left_of_calls told of_calls made = told_of_calls made.text told of_calls made.can made.state
