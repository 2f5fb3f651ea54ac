-- The effect of the edits that are made.
use Rattle.std.proofs.Common.{◌≡◌, ℕ, ◌+◌, List, [], ◌∷◌, ◌++◌, Bool, true, false, T, is_some, refl, ap, sym, subst, ◌∙◌}
use Rattle.std.specs.Prelude.{Option, Some, None, option_map, OnOk, Result, Ok, Err, is_ok, if◌then◌else◌}
use Rattle.std.specs.FinMap as map
use Rattle.std.specs.Option.{ok_or}
use Rattle.doc_store_readers.specs.Pages.{Page}
use Rattle.doc_store_readers.specs.Sites.{Site}
use Rattle.doc_media.specs.Media.{Media}
use Rattle.doc_store.specs.Store.{set_page, remove_page, move_page, StoreState, effect_of, put_by, moved_by}
use Rattle.doc_store.specs.declared.site_edit.SiteEdit.{SiteEdit}
use Rattle.doc_store.specs.declared.site_edit.SiteEdit.TheVariants as site_edits
use Rattle.doc_store.specs.declared.moving.MoveError.{MoveError}
use Rattle.doc_store.specs.declared.store.EditError.{EditError}
use Rattle.doc_hub.specs.Worlds.{may_move_beside, may_put}
use Rattle.doc_hub_events.specs.declared.event.Event.{Event}
use Rattle.doc_server_script.specs.Replays.{unless_refused}
use Rattle.doc_server_restore.specs.declared.fault.RestoreFault.{RestoreFault}
use Rattle.doc_server_restore.specs.declared.fault.RestoreFault.TheVariants as faults
use Rattle.doc_server_restore.specs.Restores.{HaveEffect, after_record, all_in_front, all_made, edit_in, edits_in, edits_of, edits_of_all}
use Rattle.doc_server_restore.specs.Restores.{effect_made, effects_made, in_front, made, refused_from, restored_from, unstamped}
use Rattle.doc_server_restore.specs.RestoreSteps.{line_refused, made_by, made_of}

pub no_some : {X : Type 0} (x : X) → None ≡ Some x → ⊥
no_some x is = subst T (sym (ap is_some is)) tt

abbrev some_or : {X : Type 0} → X → Option X → X
some_or other None = other
some_or other (Some x) = x

pub same_some : {X : Type 0} (x y : X) → Some x ≡ Some y → x ≡ y
same_some x y is = ap (some_or x) is

no_error : {X E : Type 0} (x : X) (e : E) → Err e ≡ Ok x → ⊥
no_error x e is = subst T (sym (ap is_ok is)) tt

abbrev ok_in : {X E : Type 0} → X → Result X E → X
ok_in other (Err e) = other
ok_in other (Ok x) = x

same_ok : {X E : Type 0} (x y : X) → ◌≡◌ {A = Result X E} (Ok x) (Ok y) → x ≡ y
same_ok x y is = ap (ok_in x) is

-- ---- one edit

put_site : (store next : StoreState) (path : List ℕ) (page : Page) (stands : Bool) (said : Result (Unit {0}) EditError)
    → option_map unstamped
    (unless_refused (put_by store path page stands said).0 (put_by store path page stands said).1) ≡ Some next
    → next.site ≡ effect_of store.site (set_page path page)
put_site store next path page stands (Err e) is = absurd (no_some next is)
put_site store next path page stands (Ok fine) is = sym (ap (λ o. (some_or next o).site) is)

removed_site : (store next : StoreState) (path : List ℕ) (b : Bool)
    → Some (unstamped (if b then (record {
      site = effect_of store.site (remove_page path);
      stamps = map.remove store.stamps path;
      puts = store.puts;
    }) else store)) ≡ Some next
    → next.site ≡ (if b then effect_of store.site (remove_page path) else store.site)
removed_site store next path true is = sym (ap (λ o. (some_or next o).site) is)
removed_site store next path false is = sym (ap (λ o. (some_or next o).site) is)

moved_site : (store next : StoreState) (from to : List ℕ) (said : Result (Unit {0}) MoveError)
    → option_map unstamped (unless_refused (moved_by store from to said).0 (moved_by store from to said).1) ≡ Some next
    → next.site ≡ effect_of store.site (move_page from to)
moved_site store next from to (Err e) is = absurd (no_some next is)
moved_site store next from to (Ok fine) is = sym (ap (λ o. (some_or next o).site) is)

module _ (media : Media) where
  one_site : (store next : StoreState) (edit : SiteEdit) → made media store edit ≡ Some next → next.site ≡ effect_made store.site edit
  one_site store next (site_edits.Put path groups text) is =
      put_site store next path (record { groups = groups; text = text }) (map.contains_key store.site.pages path)
      (may_put media store path text) is
  one_site store next (site_edits.Remove path) is = removed_site store next path (map.contains_key store.site.pages path) is
  one_site store next (site_edits.Move from to) is = moved_site store next from to (may_move_beside media store from to) is

  -- ---- many edits

  site_behind : (store next : StoreState) (edit : SiteEdit) (edits : List SiteEdit) (mid : Option StoreState) → made media store edit ≡ mid
      → ((after : StoreState) → all_made media after edits ≡ Some next → next.site ≡ effects_made after.site edits)
      → ◌≡◌ {A = Option StoreState} (elim mid [ None ↦ None | Some after ↦ all_made media after edits ]) (Some next)
      → next.site ≡ effects_made (effect_made store.site edit) edits
  site_behind store next edit edits None one each more = absurd (no_some next more)
  site_behind store next edit edits (Some after) one each more =
      each after more ∙ ap (λ site. effects_made site edits) (one_site store after edit one)

  all_site : (edits : List SiteEdit) (store next : StoreState) → all_made media store edits ≡ Some next
      → next.site ≡ effects_made store.site edits
  all_site [] store next is = sym (ap (λ o. (some_or next o).site) is)
  all_site (edit ∷ edits) store next is =
      site_behind store next edit edits (made media store edit) refl (λ after. all_site edits after next) is

effects_joined : (site : Site) (edits more : List SiteEdit)
    → effects_made site (edits ++ more) ≡ effects_made (effects_made site edits) more
effects_joined site [] more = refl
effects_joined site (edit ∷ edits) more = effects_joined (effect_made site edit) edits more

-- ---- events that are edits

module _ (media : Media) where
  step_of : (found : Option SiteEdit) (rest : Option (List SiteEdit)) (edits : List SiteEdit) (onto : StoreState → Option StoreState)
      → in_front found rest ≡ Some edits
      → ((these : List SiteEdit) → rest ≡ Some these → (s : StoreState) → onto s ≡ all_made media s these) → (s : StoreState)
      → ◌≡◌ {A = Option StoreState} (elim (made_by media s found) [ None ↦ None | Some next ↦ onto next ]) (all_made media s edits)
  step_of None rest edits onto is behind s = absurd (no_some edits is)
  step_of (Some edit) None edits onto is behind s = absurd (no_some edits is)
  step_of (Some edit) (Some these) edits onto is behind s =
      each (made media s edit) ∙ ap (all_made media s) (same_some (edit ∷ these) edits is)
    where
      each : (mid : Option StoreState)
          → ◌≡◌ {A = Option StoreState} (elim mid [ None ↦ None | Some next ↦ onto next ])
          (elim mid [ None ↦ None | Some next ↦ all_made media next these ])
      each None = refl
      each (Some next) = behind these refl next

  pub events_made : (events : List Event) (edits : List SiteEdit) → edits_in events ≡ Some edits → (s : StoreState)
      → made_of media s events ≡ all_made media s edits
  events_made [] edits is s = ap (all_made media s) (same_some [] edits is)
  events_made (event ∷ events) edits is s =
      step_of (edit_in event) (edits_in events) edits (λ next. made_of media next events) is (events_made events) s

  -- and the number of the first that is refused
  line_of_step : (found : Option SiteEdit) (rest : Option (List SiteEdit)) (edits : List SiteEdit) (n : ℕ) (onto : StoreState → ℕ)
      → in_front found rest ≡ Some edits
      → ((these : List SiteEdit) → rest ≡ Some these → (s : StoreState) → onto s ≡ refused_from media (n + 1) s these) → (s : StoreState)
      → ◌≡◌ {A = ℕ} (elim (made_by media s found) [ None ↦ n | Some next ↦ onto next ]) (refused_from media n s edits)
  line_of_step None rest edits n onto is behind s = absurd (no_some edits is)
  line_of_step (Some edit) None edits n onto is behind s = absurd (no_some edits is)
  line_of_step (Some edit) (Some these) edits n onto is behind s =
      each (made media s edit) ∙ ap (refused_from media n s) (same_some (edit ∷ these) edits is)
    where
      each : (mid : Option StoreState)
          → ◌≡◌ {A = ℕ} (elim mid [ None ↦ n | Some next ↦ onto next ]) (elim mid [ None ↦ n | Some next ↦ refused_from media (n + 1) next these ])
      each None = refl
      each (Some next) = behind these refl next

  pub lines_refused : (events : List Event) (edits : List SiteEdit) (n : ℕ) → edits_in events ≡ Some edits → (s : StoreState)
      → line_refused media n s events ≡ refused_from media n s edits
  lines_refused [] edits n is s = ap (refused_from media n s) (same_some [] edits is)
  lines_refused (event ∷ events) edits n is s =
      line_of_step (edit_in event) (edits_in events) edits n (λ next. line_refused media (n + 1) next events) is
      (λ these said. lines_refused events these (n + 1) said) s

  -- ---- records

  -- what is shown of the records behind the first
  abbrev Behind : List (List ℕ) → ℕ → StoreState → Type 0
  Behind texts n next = (after : StoreState) → restored_from media n after texts ≡ Ok next → HaveEffect texts after next

  second : (text : List ℕ) (texts : List (List ℕ)) (n : ℕ) (store next : StoreState) (edits : List SiteEdit) → Behind texts (n + 1) next
      → edits_of text ≡ Some edits → (mid : Option StoreState) → all_made media store edits ≡ mid
      → ◌≡◌ {A = Result StoreState RestoreFault} (elim (ok_or mid (faults.Refused n (refused_from media 1 store edits))) [
        | Err fault ↦ Err fault
        | Ok after ↦ restored_from media (n + 1) after texts
      ]) (Ok next) → HaveEffect (text ∷ texts) store next
  second text texts n store next edits behind said None made_is more =
      absurd (no_error next (faults.Refused n (refused_from media 1 store edits)) more)
  second text texts n store next edits behind said (Some after) made_is more =
      let rest = behind after more in
      record {
        edits = edits ++ rest.edits;
        said = ap (λ o. all_in_front o (edits_of_all texts)) said ∙ ap (all_in_front (Some edits)) rest.said;
        site = rest.site ∙ ap (λ site. effects_made site rest.edits) (all_site media edits store after made_is)
            ∙ sym (effects_joined store.site edits rest.edits);
      }

  first : (text : List ℕ) (texts : List (List ℕ)) (n : ℕ) (store next : StoreState) → Behind texts (n + 1) next
      → (found : Option (List SiteEdit)) → edits_of text ≡ found
      → ◌≡◌ {A = Result StoreState RestoreFault} (elim (after_record media store n found) [
        | Err fault ↦ Err fault
        | Ok after ↦ restored_from media (n + 1) after texts
      ]) (Ok next) → HaveEffect (text ∷ texts) store next
  first text texts n store next behind None said more = absurd (no_error next (faults.BadRecord n) more)
  first text texts n store next behind (Some edits) said more =
      second text texts n store next edits behind said (all_made media store edits) refl more

  pub records_effect : (texts : List (List ℕ)) (n : ℕ) (store next : StoreState) → restored_from media n store texts ≡ Ok next
      → HaveEffect texts store next
  records_effect [] n store next is = record { edits = []; said = refl; site = sym (ap (λ r. (ok_in next r).site) is) }
  records_effect (text ∷ texts) n store next is =
      first text texts n store next (λ after. records_effect texts (n + 1) after next) (edits_of text) refl is

  -- the same of an answer
  pub effect_of_answer : (answer : Result (Unit {0}) RestoreFault) (texts : List (List ℕ)) (store next : StoreState)
      → OnOk answer (restored_from media 1 store texts ≡ Ok next) → OnOk answer (HaveEffect texts store next)
  effect_of_answer (Ok done) texts store next is = records_effect texts 1 store next is
  effect_of_answer (Err fault) texts store next is = tt
