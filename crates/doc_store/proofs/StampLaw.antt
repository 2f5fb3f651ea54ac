-- No stamp comes twice.
use Rattle.std.proofs.Common.{◌≡◌, ◌≢◌, ℕ, ◌<◌, List, Bool, true, false, cond, refl, ap, ◌∙◌, arith}
use Rattle.std.specs.Prelude.{Some, Result, Ok, Err}
use Rattle.std.specs.FinMap as map
use Rattle.doc_store_readers.proofs.KeySteps.{same_itself, get_set}
use Rattle.doc_store.proofs.StoreSteps.{put_stays, move_stays}
use Rattle.doc_store.specs.Laws.{StampsAreFresh, TakesStamp}
use Rattle.doc_store_readers.specs.Maps.{TextMap}
use Rattle.doc_store_readers.specs.Pages.{Page}
use Rattle.doc_store.specs.Store.{StoreState, IsStore, fits_in, put_by, may_move, move_fits, moved_by, aliases_after}
use Rattle.doc_store.specs.declared.moving.MoveError.{MoveError}
use Rattle.doc_store.specs.declared.moving.MoveError.TheVariants as move_errors
use Rattle.doc_store.specs.declared.store.EditError.{EditError}
use Rattle.doc_store.specs.declared.store.Put.{Put}
use Rattle.doc_page_parts.proofs.Results.{err_not_ok}

not_itself : (n : ℕ) → n < n → ⊥
not_itself n h = omega (arith, h)

no_stamp_to_come : (store : StoreState) → IsStore store → (other : List ℕ) → map.get store.stamps other ≢ Some store.puts
no_stamp_to_come store is other e = not_itself store.puts (is.below other store.puts e)

stamp_set : (stamps : TextMap ℕ) (path : List ℕ) (n : ℕ) → map.get (map.insert stamps path n) path ≡ Some n
stamp_set stamps path n = get_set stamps path n path ∙ ap (λ b. cond b (Some n) (map.get stamps path)) (same_itself path)

put_takes : (store : StoreState) (path : List ℕ) (page : Page) (stands : Bool) (said : Result (Unit {0}) EditError) (done : Put)
    → IsStore store
    → (put_by store path page stands said).1 ≡ Ok done → TakesStamp store path (put_by store path page stands said).0
put_takes store path page stands (Err e) done is ok = absurd (err_not_ok e done ok)
put_takes store path page stands (Ok fine) done is ok = record {
  taken = stamp_set store.stamps path store.puts;
  fresh = no_stamp_to_come store is;
  counted = refl;
  store = put_stays store path page is;
}

refused : {A : Type 0} (e : MoveError) → ◌≡◌ {A = Result (Unit {0}) MoveError} (Err e) (Ok tt) → A
refused e is = absurd (err_not_ok e tt is)

-- where a move is not refused a page stands under the old path, and none under the new one
pub move_needs : (stands taken : Bool) (aliases puts : ℕ) → move_fits stands taken aliases puts ≡ Ok tt → (stands ≡ true) × (taken ≡ false)
move_needs false taken aliases puts e = refused move_errors.NoPage e
move_needs true true aliases puts e = refused move_errors.Taken e
move_needs true false aliases puts e = (refl, refl)

move_takes : (store : StoreState) (from to : List ℕ) (said : Result (Unit {0}) MoveError) → IsStore store → may_move store from to ≡ said
    → (moved_by store from to said).1 ≡ Ok tt → TakesStamp store to (moved_by store from to said).0
move_takes store from to (Err e) is said ok = refused e ok
move_takes store from to (Ok fine) is said ok =
    let needs = move_needs (map.contains_key store.site.pages from) (map.contains_key store.site.pages to)
    (map.len (aliases_after store.site.aliases from to)) store.puts said in
    record {
      taken = stamp_set (map.remove store.stamps from) to store.puts;
      fresh = no_stamp_to_come store is;
      counted = refl;
      store = move_stays store from to is needs.0 needs.1;
    }

pub stamps_are_fresh : StampsAreFresh
stamps_are_fresh = record {
  put = λ store path groups text done is ok. put_takes store path _ _ (fits_in store path text) done is ok;
  move = λ store from to is ok. move_takes store from to (may_move store from to) is refl ok;
}
