-- What a desk says of edits that have no room, by the store and by the owner's view.
use Rattle.std.proofs.Common.{◌≡◌, ℕ, List, Bor, Bool, true, false, length, refl, sym, ap, ◌∙◌, subst}
use Rattle.std.specs.Prelude.{not, ◌&&◌, ◌||◌, nat_lt, nat_le, codes, is_some, Option, Some, None, option_copied, option_map}
use Rattle.std.specs.Prelude.{Result, Ok, Err, IfOk, if◌then◌else◌}
use Rattle.std.specs.FinMap as map
use Rattle.std.specs.Result.{is_err}
use Rattle.std.specs.Str.{IsUtf8, is_utf8}
use Rattle.std.proofs.lemmas.Bool.{and_parts, both_ways}
use Rattle.std.proofs.lemmas.Str.{IsUtf8-from_is_utf8, is_utf8-from_IsUtf8}
use Rattle.doc_http.specs.declared.request.Request.{Request}
use Rattle.doc_http_conditions.specs.Verdicts.{verdict_of}
use Rattle.doc_page_parts.specs.Refusals.{IsAnswer}
use Rattle.doc_page_parts.specs.declared.failure.Memory.{Memory}
use Rattle.doc_page_parts.specs.declared.path.PathError.{PathError}
use Rattle.doc_page_parts.specs.declared.path.PathError.TheVariants as path_errors
use Rattle.doc_store_readers.specs.Pages.{Page}
use Rattle.doc_store_readers.specs.Sites.{IsSite, View, page_at, view_of}
use Rattle.doc_store_readers.specs.declared.reader.Reader.{Reader}
use Rattle.doc_store.specs.Store.{StoreState, alias_limit, aliases_after, fits_in, may_move, page_limit, put_limit, text_limit}
use Rattle.doc_store.specs.declared.moving.MoveError.TheVariants as move_errors
use Rattle.doc_store.specs.declared.store.EditError.{EditError}
use Rattle.doc_store.specs.declared.store.EditError.TheVariants.{TooLong, StoreFull}
use Rattle.doc_hub_people.specs.Edits.{puts_left, puts_taken}
use Rattle.doc_hub_people.specs.Answer.{Answer}
use Rattle.doc_hub_people.proofs.OwnerSteps.{owner_aliases, owner_pages, owner_stands}
use Rattle.doc_hub_editing.proofs.MakingSteps.{not_out}
use Rattle.doc_hub_editing.specs.EditAnswers.{no_alias_room, no_room, put_done, put_text}
use Rattle.doc_hub_editing.specs.EditResponses.{EditingResponse, full_by, refused_for, reply_to_verdict, tag_at, unless, unmet_by}
use Rattle.doc_hub_editing.specs.EditSteps.{told_at}
use Rattle.doc_hub_editing.specs.declared.desk.Desk.{Desk}

-- ---- whether an edit is taken

-- where puts are taken one is left
none_out : (takes : Bool) (puts : ℕ) → puts_taken takes puts ≡ true → nat_le put_limit puts ≡ false
none_out takes puts taken = not_out puts _ refl (and_parts takes (puts_left puts) taken).1

no_ok : {X E P : Type 0} (x : X) (e : E) → Err e ≡ Ok x → P
no_ok x e is = absurd (no x e is)
  where
    no : {X E : Type 0} (x : X) (e : E) → Err e ≡ Ok x → ⊥
    no x e h = cc

-- ---- puts

-- what the store says, by whether the text is too long, a page stands, pages have no room, and no stamp is left; and what an owner is
-- told, by whether puts are taken
abbrev fits_by : (long stands full out : Bool) → Result (Unit {0}) EditError
fits_by long stands full out = if long then Err TooLong else (if (not stands && full) || out then Err StoreFull else Ok tt)

abbrev told_by : (long stands full taken : Bool) → Option (List ℕ)
told_by long stands full taken =
    if long then Some (codes "the text has more than 1048576 bytes")
    else (if not taken then Some (codes "no edit is left") else (if not stands && full then Some (codes "10000 pages stand") else None))

fit_by : (long stands full out taken : Bool) → fits_by long stands full out ≡ Ok tt
    → (if taken then None else Some (codes "no edit is left")) ≡ told_by long stands full taken
fit_by true stands full out taken is = no_ok tt TooLong is
fit_by false true full true taken is = no_ok tt StoreFull is
fit_by false true full false true is = refl
fit_by false true full false false is = refl
fit_by false false true out taken is = no_ok tt StoreFull is
fit_by false false false true taken is = no_ok tt StoreFull is
fit_by false false false false true is = refl
fit_by false false false false false is = refl

same_error : (e f : EditError) → ◌≡◌ {A = Result (Unit {0}) EditError} (Err e) (Err f) → f ≡ e
same_error e f h = cc

no_room_by : (long stands full out taken : Bool) (e : EditError) → fits_by long stands full out ≡ Err e → (e ≡ TooLong → ⊥)
    → (taken ≡ true → out ≡ false)
    → Some (if taken then codes "10000 pages stand" else codes "no edit is left") ≡ told_by long stands full taken
no_room_by true stands full out taken e is other left = absurd (other (same_error TooLong e is))
no_room_by false stands full out false e is other left = refl
no_room_by false stands full true true e is other left = absurd (both_ways true (left refl) refl)
no_room_by false true full false true e is other left = no_ok tt e (sym is)
no_room_by false false true false true e is other left = refl
no_room_by false false false false true e is other left = no_ok tt e (sym is)

module _ (takes : Bool) (store : StoreState) (reader : Reader) (path text : List ℕ) (owns : reader.owner ≡ true) where
  abbrev told : Option (List ℕ)
  told =
      no_room (view_of store.site (Some reader)) (puts_taken takes store.puts) (page_at (view_of store.site (Some reader)).pages path) text

  -- by the view as by the site
  by_site : told_by (nat_lt text_limit (length text)) (map.contains_key store.site.pages path)
      (nat_le page_limit (map.len store.site.pages)) (puts_taken takes store.puts) ≡ told
  by_site = sym (λ i.
      if nat_lt text_limit (length text) then Some (codes "the text has more than 1048576 bytes")
      else (if not (puts_taken takes store.puts) then Some (codes "no edit is left")
      else (if not (owner_stands store.site reader path owns i) && nat_le page_limit (owner_pages store.site reader owns i)
      then Some (codes "10000 pages stand") else None)))

  pub room : fits_in store path text ≡ Ok tt → (if puts_taken takes store.puts then None else Some (codes "no edit is left")) ≡ told
  room is =
      fit_by (nat_lt text_limit (length text)) (map.contains_key store.site.pages path)
      (nat_le page_limit (map.len store.site.pages)) (nat_le put_limit store.puts) (puts_taken takes store.puts) is ∙ by_site

  pub full : (e : EditError) → fits_in store path text ≡ Err e → (e ≡ TooLong → ⊥)
      → Some (if puts_taken takes store.puts then codes "10000 pages stand" else codes "no edit is left") ≡ told
  full e is other =
      no_room_by (nat_lt text_limit (length text)) (map.contains_key store.site.pages path)
      (nat_le page_limit (map.len store.site.pages)) (nat_le put_limit store.puts) (puts_taken takes store.puts) e is other
      (none_out takes store.puts) ∙ by_site

-- ---- moves

-- of a page that stands to a path where none does, while a stamp is left
refused_by : (stands taken full out : Bool) → stands ≡ true → taken ≡ false → out ≡ false
    → is_err {T = Unit {0}} (if not stands then Err move_errors.NoPage else (if taken then Err move_errors.Taken
    else (if full || out then Err move_errors.StoreFull else Ok tt))) ≡ full
refused_by false taken full out is free left = absurd (both_ways false refl is)
refused_by true true full out is free left = absurd (both_ways true free refl)
refused_by true false full true is free left = absurd (both_ways true left refl)
refused_by true false true false is free left = refl
refused_by true false false false is free left = refl

abbrev moved_by : (full : Bool) → Option (List ℕ)
moved_by full = if full then Some (codes "10000 aliases stand") else None

module _ (takes : Bool) (store : StoreState) (reader : Reader) (from to : List ℕ) (owns : reader.owner ≡ true)
    (stands : is_some (page_at (view_of store.site (Some reader)).pages from) ≡ true)
    (free : page_at (view_of store.site (Some reader)).pages to ≡ None) (is : IsSite store.site)
    (taken : puts_taken takes store.puts ≡ true) where
  abbrev move_told : Option (List ℕ)
  move_told = no_alias_room (view_of store.site (Some reader)) (puts_taken takes store.puts) to

  stands_there : map.contains_key store.site.pages from ≡ true
  stands_there = sym (owner_stands store.site reader from owns) ∙ stands

  by_aliases : moved_by (nat_lt alias_limit (map.len (aliases_after store.site.aliases from to))) ≡ move_told
  by_aliases = sym (λ i. if not (taken i) then Some (codes "no edit is left")
      else (if nat_lt alias_limit (owner_aliases store.site reader from to owns stands_there is i)
      then Some (codes "10000 aliases stand") else None))

  filled : is_err (may_move store from to) ≡ nat_lt alias_limit (map.len (aliases_after store.site.aliases from to))
  filled =
      refused_by _ _ _ _ stands_there (sym (owner_stands store.site reader to owns) ∙ ap is_some free) (none_out takes store.puts taken)

  pub move_by : (full : Bool) → is_err (may_move store from to) ≡ full → moved_by full ≡ move_told
  move_by full refused = ap moved_by (sym refused ∙ filled) ∙ by_aliases

-- ---- conditions

-- where a request has none, nothing stands against it
pub no_conditions : (reads : Bool) (request : Request) (stands : Option Page) (a b : Option (Bor (List ℕ)))
    → option_copied a ≡ request.if_match → option_copied b ≡ request.if_none_match → is_some a ≡ false → is_some b ≡ false
    → None ≡ unmet_by reads request stands
unfolding verdict_of
no_conditions reads request stands None None first second is also =
    λ i. reply_to_verdict (verdict_of reads (first i) (second i) (tag_at stands)) (tag_at stands)
no_conditions reads request stands (Some a) b first second is also = absurd (both_ways true is refl)
no_conditions reads request stands None (Some b) first second is also = absurd (both_ways true also refl)

-- ---- what is told

-- a response that is another one
pub tells : (desk : Desk) (result : Result Answer Memory) (response given : EditingResponse)
    → IfOk result (λ a. a ≡ told_at desk response) → response ≡ given → IfOk result (λ a. a ≡ told_at desk given)
tells desk result response given told same = subst (λ r. IfOk result (λ a. a ≡ told_at desk r)) same told

-- whether something was found
pub was_found : {X Y : Type 0} (f : X → Y) (x : Option X) (y : Option Y) → option_map f x ≡ y → is_some x ≡ is_some y
was_found f None y is = ap is_some is
was_found f (Some x) y is = ap is_some is

-- ---- texts that are put

is_utf8-no : (text : List ℕ) (b : Bool) → is_utf8 text ≡ b → (IsUtf8 text → ⊥) → b ≡ false
is_utf8-no text true is bad = absurd (bad (IsUtf8-from_is_utf8 text is))
is_utf8-no text false is bad = refl

module _ (view : View) (left at_source : Bool) (path : List ℕ) (stands : Option Page) (groups : List (List ℕ)) (request : Request) where
  abbrev put : EditingResponse
  put = put_text view left at_source path stands groups request

  abbrev done_by : (text : List ℕ) → Option (List ℕ) → EditingResponse
  done_by text why = unless (full_by why) (put_done at_source path (is_some stands) (record { groups = groups; text = text }))

  by_utf8 : (utf8 : Bool) → is_utf8 request.body ≡ utf8
      → (if utf8 then done_by request.body (no_room view left stands request.body)
      else refused_for 400 (codes "the text is not UTF-8")) ≡ put
  by_utf8 utf8 is =
      sym (ap (λ b. if b then done_by request.body (no_room view left stands request.body)
      else refused_for 400 (codes "the text is not UTF-8")) is)

  pub no_text : (IsUtf8 request.body → ⊥) → refused_for 400 (codes "the text is not UTF-8") ≡ put
  no_text bad = by_utf8 false (is_utf8-no request.body _ refl bad)

  -- by what is said of room
  pub text_by : (text : List ℕ) (why : Option (List ℕ)) → text ≡ request.body → IsUtf8 request.body → why ≡ no_room view left stands text
      → done_by text why ≡ put
  text_by text why same utf8 is =
      ap (done_by text) is ∙ ap (λ t. done_by t (no_room view left stands t)) same
      ∙ by_utf8 true (is_utf8-from_IsUtf8 request.body utf8)

-- ---- paths that are named

pub no_path : (made : Result (List ℕ) PathError) (e : PathError) → IsAnswer path_errors.Memory made (Err e) → e ≡ path_errors.BadPath
    → Err path_errors.BadPath ≡ made
no_path (Ok path) e told is = absurd (differ (sym told ∙ is))
  where
    differ : path_errors.Memory ≡ path_errors.BadPath → ⊥
    differ h = cc
no_path (Err f) e told is = ap Err (sym is ∙ told)
