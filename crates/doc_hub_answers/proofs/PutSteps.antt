-- Edits of an owner, by the store and by the owner's view.
use Rattle.std.proofs.Common.{◌≡◌, ℕ, List, Bool, true, false, cond, Option, Some, None, Result, Ok, Err, refl, sym, ap, ◌∙◌}
use Rattle.std.specs.Prelude.{◌&&◌, is_ok, is_some}
use Rattle.std.specs.FinMap as map
use Rattle.std.specs.Result.{result_ok}
use Rattle.std.specs.Str.{IsUtf8, is_utf8}
use Rattle.std.proofs.lemmas.Str.{IsUtf8-from_is_utf8, is_utf8-from_IsUtf8}
use Rattle.doc_store_readers.specs.Sites.{View, page_at, view_of}
use Rattle.doc_store.specs.Store.{StoreState, fits_in}
use Rattle.doc_store_readers.specs.declared.groups.GroupsError.{GroupsError}
use Rattle.doc_store_readers.specs.declared.reader.Reader.{Reader}
use Rattle.doc_hub_answers.specs.Edits.{puts_taken}
use Rattle.doc_hub_answers.specs.Replies.{delete_at, edited, put_at, put_page, refused}
use Rattle.doc_hub_answers.specs.declared.edit.Edit.TheVariants as edits
use Rattle.doc_hub_answers.proofs.OwnerSteps.{owner_room, owner_stands}

module _ (store : StoreState) (reader : Reader) (path : List ℕ) (owns : reader.owner ≡ true) where
  abbrev view : View
  view = view_of store.site (Some reader)

  -- a put that is taken
  pub put_fits : (takes : Bool) (groups : List (List ℕ)) (text : List ℕ) (code : ℕ)
      → code ≡ cond (map.contains_key store.site.pages path) 204 201 → (takes && is_ok (fits_in store path text)) ≡ true
      → edited code (edits.Put path groups) ≡ put_page view (puts_taken takes store.puts) path groups text
  put_fits takes groups text code is fine =
      ap (λ n. edited n (edits.Put path groups)) (is ∙ ap (λ b. cond b 204 201) (sym (owner_stands store.site reader path owns)))
      ∙ sym (ap (λ b. cond b (edited (cond (is_some (page_at view.pages path)) 204 201) (edits.Put path groups)) (refused 507))
      (owner_room takes store reader path text owns ∙ fine))

  -- and one that it doesn't
  pub put_is_full : (takes : Bool) (groups : List (List ℕ)) (text : List ℕ) → (takes && is_ok (fits_in store path text)) ≡ false
      → refused 507 ≡ put_page view (puts_taken takes store.puts) path groups text
  put_is_full takes groups text full =
      sym (ap (λ b. cond b (edited (cond (is_some (page_at view.pages path)) 204 201) (edits.Put path groups)) (refused 507))
      (owner_room takes store reader path text owns ∙ full))

  -- a removal, by whether a page stands
  pub deleted : (stands : Bool) → stands ≡ map.contains_key store.site.pages path
      → cond stands (edited 204 (edits.Remove path)) (refused 404) ≡ delete_at view (Some path)
  deleted stands is = ap (λ b. cond b (edited 204 (edits.Remove path)) (refused 404)) (is ∙ sym (owner_stands store.site reader path owns))

-- what is told as an answer is one
pub ok_from : {X E : Type 0} (r : Result X E) (x : X) → Some x ≡ result_ok r → r ≡ Ok x
ok_from (Ok y) x is = ap Ok (sym (same y x is))
  where
    same : {X : Type 0} (y x : X) → Some x ≡ Some y → x ≡ y
    same y x h = cc
ok_from (Err e) x is = absurd (none x is)
  where
    none : {X : Type 0} (x : X) → Some x ≡ None → ⊥
    none x h = cc

is_utf8-no : (text : List ℕ) (b : Bool) → is_utf8 text ≡ b → (IsUtf8 text → ⊥) → b ≡ false
is_utf8-no text true is bad = absurd (bad (IsUtf8-from_is_utf8 text is))
is_utf8-no text false is bad = refl

-- a put of what is no text
pub put_is_no_text : (view : View) (left : Bool) (written : Option (List ℕ)) (path : List ℕ) (named : Result (List (List ℕ)) GroupsError)
    (groups : List (List ℕ)) (text : List ℕ)
    → written ≡ Some path → named ≡ Ok groups → (IsUtf8 text → ⊥) → refused 400 ≡ put_at view left written named text
put_is_no_text view left written path named groups text at are bad =
    sym (ap (λ w. put_at view left w named text) at ∙ ap (λ g. put_at view left (Some path) g text) are
    ∙ ap (λ b. cond b (put_page view left path groups text) (refused 400)) (is_utf8-no text (is_utf8 text) refl bad))

-- a put of a text
pub put_is_text : (view : View) (left : Bool) (written : Option (List ℕ)) (path : List ℕ) (named : Result (List (List ℕ)) GroupsError)
    (groups : List (List ℕ)) (text : List ℕ)
    → written ≡ Some path → named ≡ Ok groups → IsUtf8 text → put_page view left path groups text ≡ put_at view left written named text
put_is_text view left written path named groups text at are utf8 =
    sym (ap (λ w. put_at view left w named text) at ∙ ap (λ g. put_at view left (Some path) g text) are
    ∙ ap (λ b. cond b (put_page view left path groups text) (refused 400)) (is_utf8-from_IsUtf8 text utf8))
