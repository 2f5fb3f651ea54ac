-- Edits of a store with what is kept of its pages.
use Rattle.std.proofs.Common.{◌≡◌, ℕ, List, Bool, true, false, refl, ap, sym, subst, ◌∙◌}
use Rattle.std.specs.Prelude.{Option, Some, None, Result, Ok, Err, is_some, length, not, ◌&&◌, ◌||◌, nat_le, nat_lt, if◌then◌else◌}
use Rattle.std.specs.FinMap as map
use Rattle.std.specs.Result.{is_ok}
use Rattle.std.proofs.lemmas.Bool.{both_ways}
use Rattle.doc_page_parts.specs.Refusals.{Gives}
use Rattle.doc_shelf_pages.proofs.Documents.{caches_have_documents}
use Rattle.doc_shelf_pages.proofs.KeptEdits.{edits_of_kept}
use Rattle.doc_shelf_pages.specs.EditLaws.{Stands}
use Rattle.doc_shelf_pages.specs.Shelves.{IsBeingPut, IsEdited, IsKept, let_go}
use Rattle.doc_shelf_pages.specs.KeptPages.{Kept, carried, without_page as kept_without_page}
use Rattle.doc_shelf_pages.specs.Views.{Renders}
use Rattle.doc_store.proofs.StampLaw.{move_needs}
use Rattle.doc_store.proofs.StoreSteps.{move_stays, put_stays, remove_stays, taken_out}
use Rattle.doc_store_readers.specs.Pages.{Page}
use Rattle.doc_store.specs.Store.{StoreState, IsStore, aliases_after, fits, may_move, moved_by, moved_in, page_limit, put_limit}
use Rattle.doc_store.specs.Store.{stamp_after, text_limit, with_move, with_page, without_page}
use Rattle.doc_store.specs.declared.moving.MoveError.{MoveError}
use Rattle.doc_store.specs.declared.moving.MoveError.TheVariants as move_errors
use Rattle.doc_store.specs.declared.store.EditError.{EditError}
use Rattle.doc_store.specs.declared.store.EditError.TheVariants as edit_errors

err_ok : {X E : Type 0} (e : E) (x : X) → ◌≡◌ {A = Result X E} (Err e) (Ok x) → ⊥
err_ok e x is = cc

-- where a put fits, a stamp is left
pub no_stamp : (pages : ℕ) (stands : Bool) (puts : ℕ) (text : List ℕ) → fits pages stands puts text ≡ Ok tt → None ≡ stamp_after puts → ⊥
no_stamp pages stands puts text = by (nat_lt text_limit (length text)) (not stands && nat_le page_limit pages) (nat_le put_limit puts)
  where
    none_some : None ≡ Some puts → ⊥
    none_some is = cc

    by : (long full out : Bool) → ◌≡◌ {A = Result (Unit {0}) EditError} (if long then Err edit_errors.TooLong else (if full || out then Err
        edit_errors.StoreFull else Ok tt)) (Ok tt) → None ≡ (if out then None else Some puts) → ⊥
    by true full out is none = err_ok edit_errors.TooLong tt is
    by false true out is none = err_ok edit_errors.StoreFull tt is
    by false false true is none = err_ok edit_errors.StoreFull tt is
    by false false false is none = none_some none

-- an accepted move moves
pub move_accepted : (store new : StoreState) (from to : List ℕ) (done : Unit {0})
    → Gives move_errors.Memory (moved_in store from to) store new (Ok done) → new ≡ with_move store from to
move_accepted store new from to done gives = by (may_move store from to) gives
  where
    by : (may : Result (Unit {0}) MoveError)
        → ◌≡◌ {A = StoreState × Result (Unit {0}) MoveError} (moved_by store from to may) (new, Ok done) → new ≡ with_move store from to
    by (Ok fine) is = sym (ap (λ (q : StoreState × Result (Unit {0}) MoveError). q.0) is)
    by (Err e) is = absurd (err_ok e done (ap (λ (q : StoreState × Result (Unit {0}) MoveError). q.1) is))

is_store_without : (store : StoreState) (path : List ℕ) → IsStore store → IsStore (without_page store path)
is_store_without store path is = by (map.contains_key store.site.pages path)
  where
    by : (b : Bool) → IsStore (if b then taken_out store path else store)
    by true = remove_stays store path is
    by false = is

there_is : {X : Type 0} (o : Option X) → is_some o ≡ true → (x : X) × (o ≡ Some x)
there_is None is = absurd (both_ways false refl is)
there_is (Some x) is = (x, refl)

there_is_none : {X : Type 0} (o : Option X) → is_some o ≡ false → o ≡ None
there_is_none None is = refl
there_is_none (Some x) is = absurd (both_ways true is refl)

module _ (render : Renders) (store new : StoreState) (is : IsStore store) where
  -- a store that is as it was
  pub same_after : (kept : Kept) → IsKept render store kept → new ≡ store → IsEdited render store new kept
  same_after kept k same =
      subst (λ s. IsEdited render store s kept) (sym same) (record { is_store = is; pages = k; documents = λ cache has. has })

  pub refused_after : (kept left : Kept) (path text : List ℕ) (stamp : ℕ) → IsBeingPut render store path text kept → new ≡ store
      → stamp ≡ store.puts → left ≡ kept_without_page kept path stamp → IsEdited render store new left
  refused_after kept left path text stamp put same next gone =
      same_after left
      (subst (IsKept render store) (sym (gone ∙ ap (kept_without_page kept path) next))
      ((edits_of_kept.puts render store is).refused kept path text put)) same

  pub put_after : (kept left : Kept) (path text : List ℕ) (groups : List (List ℕ)) → IsBeingPut render store path text kept
      → new ≡ with_page store path (record { groups = groups; text = text }) → left ≡ let_go kept path (map.get store.stamps path)
      → IsEdited render store new left
  put_after kept left path text groups put made gone =
      subst (λ s. IsEdited render store s left) (sym made)
      (subst (IsEdited render store (with_page store path (record { groups = groups; text = text }))) (sym gone)
      (record {
        is_store = put_stays store path (record { groups = groups; text = text }) is;
        pages = (edits_of_kept.puts render store is).made kept path text groups put;
        documents = λ cache has. (caches_have_documents.edits render store cache is has).put path (record { groups = groups; text = text });
      }))

  pub removed_after : (kept left : Kept) (path : List ℕ) → IsKept render store kept → new ≡ without_page store path
      → left ≡ let_go kept path (map.get store.stamps path) → IsEdited render store new left
  removed_after kept left path k made gone =
      subst (λ s. IsEdited render store s left) (sym made)
      (subst (IsEdited render store (without_page store path)) (sym gone)
      (record {
        is_store = is_store_without store path is;
        pages = edits_of_kept.removals render store is kept path k;
        documents = λ cache has. (caches_have_documents.edits render store cache is has).removed path;
      }))

  module _ (from to : List ℕ) (before : ℕ) (may : may_move store from to ≡ Ok tt) (stamped : map.get store.stamps from ≡ Some before) where
    needs : (map.contains_key store.site.pages from ≡ true) × (map.contains_key store.site.pages to ≡ false)
    needs = move_needs (map.contains_key store.site.pages from) (map.contains_key store.site.pages to)
        (map.len (aliases_after store.site.aliases from to)) store.puts may

    here : (page : Page) × Stands store from before page
    here =
        let found = there_is (map.get store.site.pages from) needs.0 in
        (found.0, record { stamped = stamped; stands = found.1 })

    carried_on : (kept over : Kept) (stamp : ℕ) → IsKept render store kept → stamp ≡ store.puts → over ≡ carried kept from before to stamp
        → IsBeingPut render store to here.0.text over
    carried_on kept over stamp k next is_over =
        subst (IsBeingPut render store to here.0.text) (sym (is_over ∙ ap (carried kept from before to) next))
        ((edits_of_kept.moves render store is).carries kept from to before here.0 k here.1)

    pub moved_after : (kept over left : Kept) (stamp : ℕ) → IsKept render store kept → stamp ≡ store.puts
        → over ≡ carried kept from before to stamp → new ≡ with_move store from to → left ≡ kept_without_page over from before
        → IsEdited render store new left
    moved_after kept over left stamp k next is_over made gone =
        subst (λ s. IsEdited render store s left) (sym made)
        (subst (IsEdited render store (with_move store from to)) (sym gone)
        (record {
          is_store = move_stays store from to is needs.0 needs.1;
          pages = (edits_of_kept.moves render store is).made over from to before here.0 here.1
              (there_is_none (map.get store.site.pages to) needs.1) (carried_on kept over stamp k next is_over);
          documents = λ cache has. (caches_have_documents.edits render store cache is has).moved from to before here.0 here.1;
        }))

    pub unmoved_after : (kept over left : Kept) (stamp : ℕ) → IsKept render store kept → stamp ≡ store.puts
        → over ≡ carried kept from before to stamp → new ≡ store → left ≡ kept_without_page over to stamp → IsEdited render store new left
    unmoved_after kept over left stamp k next is_over same gone =
        refused_after over left to here.0.text stamp (carried_on kept over stamp k next is_over) same next gone

-- what a call says of the store that it was refused, or not
pub moved_if : (store new : StoreState) (from to : List ℕ) (result : Result (Unit {0}) MoveError)
    → Gives move_errors.Memory (moved_in store from to) store new result → is_ok result ≡ true → new ≡ with_move store from to
moved_if store new from to (Ok done) gives fine = move_accepted store new from to done gives
moved_if store new from to (Err e) gives fine = absurd (both_ways false refl fine)

pub unmoved_if : (store new : StoreState) (from to : List ℕ) (result : Result (Unit {0}) MoveError)
    → Gives move_errors.Memory (moved_in store from to) store new result → is_ok result ≡ false → new ≡ store
unmoved_if store new from to (Ok done) gives fine = absurd (both_ways true fine refl)
unmoved_if store new from to (Err e) gives fine = gives.1
