-- What the calls of a hub and of a store answer to an edit.
use Rattle.std.proofs.Common.{◌≡◌, ℕ, List, Bool, true, false, refl, ap, sym, subst, ◌∙◌}
use Rattle.std.specs.Prelude.{◌||◌, Option, Some, None, option_map, Result, Ok, Err, if◌then◌else◌}
use Rattle.std.specs.FinMap as map
use Rattle.doc_page_parts.specs.Refusals.{IsAnswer}
use Rattle.doc_store_readers.specs.Pages.{Page}
use Rattle.doc_store.specs.Store.{StoreState, set_page, remove_page, move_page, put_into, put_by, fits_in, without_page}
use Rattle.doc_store.specs.Store.{aliases_after, effect_of, moved_in, moved_by, may_move, move_fits}
use Rattle.doc_store.specs.declared.moving.MoveError.{MoveError}
use Rattle.doc_store.specs.declared.store.EditError.{EditError}
use Rattle.doc_hub.specs.Worlds.{World, store_of, with_store, world_removed}
use Rattle.doc_server_script.specs.Replays.{unless_refused}
use Rattle.doc_server_restore.specs.Restores.{made, unstamped}

-- ---- calls that answer by a store and a result

abbrev After : {X E : Type 0} → StoreState → Result X E → Option StoreState
After store said = option_map unstamped (unless_refused store said)

-- a refusal but for want of memory
pub refused : {X E : Type 0} (memory e : E) (store : StoreState) (said : Result X E) → IsAnswer memory said (Err e) → ¬ (e ≡ memory)
    → option_map unstamped (unless_refused store said) ≡ None
refused memory e store (Ok x) is other = absurd (other is)
refused memory e store (Err f) is other = refl

-- a hub's answer
pub hub_accepted : {X E : Type 0} (w v : World) (r : StoreState × Result X E) (x : X)
    → ◌≡◌ {A = World × Result X E} (with_store w r.0, r.1) (v, Ok x)
    → option_map unstamped (unless_refused r.0 r.1) ≡ Some (store_of v)
hub_accepted w v r x is =
    ap (λ said. option_map unstamped (unless_refused r.0 said)) (ap (λ p. p.1) is) ∙ ap (λ p. Some (store_of p.0)) is

pub hub_removed : (w v : World) (path : List ℕ) (said : Bool) → ◌≡◌ {A = World × Bool} (world_removed w path) (v, said)
    → made w.media (store_of w) (remove_page path) ≡ Some (store_of v)
hub_removed w v path said is = subst (λ p. made w.media (store_of w) (remove_page path) ≡ Some (store_of p.0)) is refl

-- ---- stamps decide nothing

put_alike : (store : StoreState) (path : List ℕ) (page : Page) (stands : Bool) (said : Result (Unit {0}) EditError)
    → After (put_by (unstamped store) path page stands said).0 (put_by (unstamped store) path page stands said).1
    ≡ After (put_by store path page stands said).0 (put_by store path page stands said).1
put_alike store path page stands (Ok fine) = refl
put_alike store path page stands (Err e) = refl

moved_alike : (store : StoreState) (from to : List ℕ) (said : Result (Unit {0}) MoveError)
    → After (moved_by (unstamped store) from to said).0 (moved_by (unstamped store) from to said).1
    ≡ After (moved_by store from to said).0 (moved_by store from to said).1
moved_alike store from to (Ok fine) = refl
moved_alike store from to (Err e) = refl

-- beside no media a move is the store's
pub move_alone : (store : StoreState) (from to : List ℕ)
    → made None store (move_page from to) ≡ option_map unstamped (unless_refused (moved_in store from to).0 (moved_in store from to).1)
move_alone store from to = ap (λ taken. After (moved_by store from to (may taken)).0 (moved_by store from to (may taken)).1) (or_false _)
  where
    may : Bool → Result (Unit {0}) MoveError
    may taken =
        move_fits (map.contains_key store.site.pages from) taken (map.len (aliases_after store.site.aliases from to)) store.puts

    or_false : (t : Bool) → (t || false) ≡ t
    or_false true = refl
    or_false false = refl

pub store_put : (store : StoreState) (path : List ℕ) (page : Page) → made None (unstamped store) (set_page path page)
    ≡ After (put_into store path page.groups page.text).0 (put_into store path page.groups page.text).1
store_put store path page =
    put_alike store path (record { groups = page.groups; text = page.text }) (map.contains_key store.site.pages path)
    (fits_in store path page.text)

pub store_moved : (store : StoreState) (from to : List ℕ) → made None (unstamped store) (move_page from to)
    ≡ After (moved_in store from to).0 (moved_in store from to).1
store_moved store from to =
    move_alone (unstamped store) from to ∙ moved_alike store from to (may_move store from to)

-- ---- a store's answers

pub store_accepted : {X E : Type 0} (new : StoreState) (r : StoreState × Result X E) (x : X) → r ≡ (new, Ok x)
    → option_map unstamped (unless_refused r.0 r.1) ≡ Some (unstamped new)
store_accepted new r x is = ap (λ p. option_map unstamped (unless_refused p.0 p.1)) is

pub store_removed : (old new : StoreState) (path : List ℕ) → new ≡ without_page old path
    → made None (unstamped old) (remove_page path) ≡ Some (unstamped new)
store_removed old new path state =
    ap Some (by (map.contains_key old.site.pages path) ∙ ap unstamped (sym state))
  where
    by : (b : Bool) → unstamped (if b then (record {
      site = effect_of old.site (remove_page path);
      stamps = map.remove (map.empty) path;
      puts = old.puts;
    }) else unstamped old) ≡ unstamped (if b then (record {
      site = effect_of old.site (remove_page path);
      stamps = map.remove old.stamps path;
      puts = old.puts;
    }) else old)
    by true = refl
    by false = refl
