-- The edit that is written of an event, made again of the store that the event met, gives the store that it left.
use Rattle.std.proofs.Common.{◌≡◌, ℕ, List, Bool, true, false, cond, is_some, refl, ap, sym, ◌∙◌, subst, arith}
use Rattle.std.specs.Prelude.{nat_le, nat_lt, not, ◌||◌, Option, Some, None, option_map, Result, Ok, Err, if◌then◌else◌}
use Rattle.std.specs.FinMap as map
use Rattle.std.proofs.lemmas.Bool.Decides.{nat_tests}
use Rattle.doc_store_readers.proofs.KeySteps.{get_set, same_itself}
use Rattle.doc_store_readers.specs.Pages.{Page}
use Rattle.doc_store_readers.specs.Sites.{IsSite}
use Rattle.doc_store.specs.Store.{StoreState, alias_limit, aliases_after, fits_in, moved_by, put_by, put_limit, set_page}
use Rattle.doc_store.specs.Store.{with_page}
use Rattle.doc_store.specs.declared.moving.MoveError.{MoveError}
use Rattle.doc_store.specs.declared.moving.MoveError.TheVariants as move_errors
use Rattle.doc_store.specs.declared.store.EditError.TheVariants as edit_errors
use Rattle.doc_store.specs.declared.site_edit.SiteEdit.{SiteEdit}
use Rattle.doc_hub.specs.Edits.{CanBeMade, CanMove, CanRegroup, regrouped, store_after}
use Rattle.doc_hub.specs.Edit.{Edit}
use Rattle.doc_hub.specs.Edit.TheVariants as edits
use Rattle.doc_media.specs.Media.{Media}
use Rattle.doc_hub.proofs.Apart.{StaysFree, stands_free}
use Rattle.doc_hub.specs.Worlds.{IsApart, World, has_medium, may_move_beside, store_of}
use Rattle.doc_server_script.specs.Replays.{unless_refused}
use Rattle.doc_server_listen.specs.Edits.{edit_at}
use Rattle.doc_server_restore.specs.Restores.{made, unstamped}
use Rattle.doc_server_kept.proofs.Events.{WasMade}

-- an edit that is made again leads from the one store to the other; where there is none, they are the same
abbrev pub Follows : World → World → Option SiteEdit → Type 0
Follows w v None = store_of v ≡ store_of w
Follows w v (Some edit) = IsSite w.site → IsApart w.site w.media → made w.media (store_of w) edit ≡ Some (store_of v)

-- ---- a move that is possible isn't refused

pub not_out : (puts limit : ℕ) → nat_lt puts limit ≡ true → nat_le limit puts ≡ false
not_out puts limit left = grind (arith, nat_tests)

move_fits_by : (stands taken many out : Bool) → stands ≡ true → taken ≡ false → many ≡ false → out ≡ false
    → ◌≡◌ {A = Result (Unit {0}) MoveError} (if not stands then Err move_errors.NoPage
    else (if taken then Err move_errors.Taken else (if many || out then Err move_errors.StoreFull else Ok tt)))
    (Ok tt)
move_fits_by false taken many out a b d e = cc
move_fits_by true true many out a b d e = cc
move_fits_by true false true out a b d e = cc
move_fits_by true false false true a b d e = cc
move_fits_by true false false false a b d e = refl

neither : (a b : Bool) → a ≡ false → b ≡ false → (a || b) ≡ false
neither true b is also = is
neither false b is also = also

moves_so : (media : Media) (store : StoreState) (from to : List ℕ) → CanMove store from to → has_medium media to ≡ false
    → IsSite store.site → may_move_beside media store from to ≡ Ok tt
moves_so media store from to can free is =
    move_fits_by (map.contains_key store.site.pages from) (map.contains_key store.site.pages to || has_medium media to)
    (nat_lt alias_limit (map.len (aliases_after store.site.aliases from to))) (nat_le put_limit store.puts) can.stands
    (neither (map.contains_key store.site.pages to) (has_medium media to) can.free free)
    (can.room is) (not_out store.puts put_limit can.left)

abbrev After : {X E : Type 0} → StoreState × Result X E → Option StoreState
After given = option_map unstamped (unless_refused given.0 given.1)

module _ (w v : World) where
  -- ---- puts

  -- a page that was put stands
  pub stands_there : (path : List ℕ) (page : Page) → store_of v ≡ unstamped (with_page (store_of w) path page)
      → map.get v.site.pages path ≡ Some page
  stands_there path page state =
      ap (λ (s : StoreState). map.get s.site.pages path) state ∙ get_set w.site.pages path page path
      ∙ ap (λ t. cond t (Some page) (map.get w.site.pages path)) (same_itself path)

  put_again : (path : List ℕ) (page : Page) → fits_in (store_of w) path page.text ≡ Ok tt
      → store_of v ≡ unstamped (with_page (store_of w) path page) → has_medium w.media path ≡ false
      → made w.media (store_of w) (set_page path page) ≡ Some (store_of v)
  put_again path page fits state free =
      ap (λ said. After (put_by (store_of w) path page (map.contains_key w.site.pages path) said))
      (ap (λ medium. if medium then Err edit_errors.Taken else fits_in (store_of w) path page.text) free ∙ fits) ∙ ap Some (sym state)

  put_follows : (path : List ℕ) (page : Page) → fits_in (store_of w) path page.text ≡ Ok tt
      → store_of v ≡ unstamped (with_page (store_of w) path page) → (IsApart w.site w.media → has_medium w.media path ≡ false)
      → Follows w v (option_map (set_page path) (map.get v.site.pages path))
  put_follows path page fits state free =
      subst (λ o. Follows w v (option_map (set_page path) o)) (sym (stands_there path page state))
      (λ is apart. put_again path page fits state (free apart))

  regroup_follows : (path : List ℕ) (groups : List (List ℕ)) (found : Option Page) → map.get w.site.pages path ≡ found
      → CanRegroup (store_of w) path found → store_of v ≡ unstamped (regrouped (store_of w) path groups found)
      → Follows w v (option_map (set_page path) (map.get v.site.pages path))
  regroup_follows path groups None stood can state = absurd can
  regroup_follows path groups (Some page) stood can state =
      put_follows path (record page { groups = groups }) can state
      (λ apart. stands_free w.media w.site path apart (ap is_some stood))

  -- ---- each edit

  told_follows : (text : List ℕ) (told : Option Edit) → CanBeMade (store_of w) text told → StaysFree w.media told
      → store_of v ≡ unstamped (store_after (store_of w) text told) → Follows w v (edit_at v told)
  told_follows text None can free state = state
  told_follows text (Some (edits.Put path groups)) can free state =
      put_follows path (record { groups = groups; text = text }) can.1 state (λ apart. free)
  told_follows text (Some (edits.Regroup path groups)) can free state =
      regroup_follows path groups (map.get w.site.pages path) refl can state
  told_follows text (Some (edits.Move from to)) can free state = λ is apart.
      ap (λ said. After (moved_by (store_of w) from to said)) (moves_so w.media (store_of w) from to can free is) ∙ ap Some (sym state)
  told_follows text (Some (edits.Remove path)) can free state = λ is apart. ap Some (sym state)

  pub made_again : (told : Option Edit) → WasMade w v told → Follows w v (edit_at v told)
  made_again told made = told_follows made.text told made.can made.free made.state
