-- Answers as they are sent.
use Rattle.std.proofs.Common.{◌≡◌, ℕ, List, Bor, Bool, true, false, refl, ap, sym, ◌∙◌, subst}
use Rattle.std.specs.Prelude.{IfOk, Some, None, Result, Ok, Err, if◌then◌else◌}
use Rattle.doc_page_parts.specs.declared.failure.Memory.{Memory}
use Rattle.doc_store_readers.specs.Sites.{View}
use Rattle.doc_store.specs.Store.{StoreState}
use Rattle.doc_http_replies.specs.declared.reply.Allow.TheVariants.{Read}
use Rattle.doc_http.specs.declared.request.Request.{Request}
use Rattle.doc_http_targets.specs.Targets.{Route, route_shown}
use Rattle.doc_http_targets.specs.declared.route.Route as found
use Rattle.doc_http_targets.specs.declared.route.Route.TheVariants as found_routes
use Rattle.doc_http_targets.specs.WrittenPaths.{path_written}
use Rattle.doc_hub_answers.specs.AnswerSteps.{Answered, AnsweredSo, after_edit, sent_in}
use Rattle.doc_hub_answers.specs.Edits.{store_after}
use Rattle.doc_media.specs.Media.{Beside}
use Rattle.doc_hub_answers.specs.Replies.{Renders, Response, at_route, delete_at, edit_at, edit_page, edited, not_allowed}
use Rattle.doc_hub_answers.specs.Replies.{only_reply, put_by, reads, refused, reply_at}
use Rattle.doc_hub_answers.specs.declared.answer.Answer.{Answer}
use Rattle.doc_hub_answers.specs.declared.exchange.Exchange.{Exchange}
use Rattle.doc_hub_answers.specs.declared.method.Method.{Method}
use Rattle.doc_hub_answers.specs.declared.method.Method.TheVariants.{Put, Delete}
use Rattle.doc_hub_answers.specs.declared.edit.Edit.{Edit}

-- ---- a response by what is sent of it

module _ (exchange : Exchange) (old new : StoreState) (text : List ℕ) where
  -- a response without an edit, of a store that is as it was
  pub sent_alone : (response given : Response) (result : Result Answer Memory) → IfOk result (λ a. a ≡ sent_in exchange response)
      → response ≡ given → response.edit ≡ None → new ≡ old → AnsweredSo text old (sent_in exchange given) new result
  sent_alone response given (Ok told) is same none stays =
      (is ∙ ap (sent_in exchange) same, stays ∙ sym (ap (store_after old text) (ap (λ (a : Answer). a.edit) is ∙ none)))
  sent_alone response given (Err e) is same none stays = stays

  -- one with an edit, which was made
  pub sent_edited : (done told : Answer) (code : ℕ) (edit : Edit) (given : Response) → done ≡ sent_in exchange (refused code)
      → told ≡ after_edit done edit → edited code edit ≡ given → new ≡ store_after old text (Some edit)
      → AnsweredSo text old (sent_in exchange given) new (Ok told)
  sent_edited done told code edit given done_is told_is same made = (
    told_is ∙ ap (λ d. after_edit d edit) done_is ∙ ap (sent_in exchange) same,
    made ∙ sym (ap (λ (a : Answer). store_after old text a.edit) told_is),
  )

-- ---- the response to a request, by what was found for it

module _ (view : View) (owner left : Bool) (rest : List ℕ) (request : Request) (method : Method) where
  pub put_is_edit : method ≡ Put → owner ≡ true → put_by view left rest request ≡ edit_page view owner left rest request method
  put_is_edit is owns =
      sym (ap (edit_page view owner left rest request) is ∙ ap (λ o. if o then put_by view left rest request else refused 403) owns)

  pub delete_is_edit : method ≡ Delete → owner ≡ true
      → delete_at view (path_written rest) ≡ edit_page view owner left rest request method
  delete_is_edit is owns =
      sym (ap (edit_page view owner left rest request) is
      ∙ ap (λ o. if o then delete_at view (path_written rest) else refused 403) owns)

-- ---- the response at a route

module _ (exchange : Exchange) (old new : StoreState) (render : Renders) (view : View) (media : Beside) (owner left : Bool) (route : Route)
    (result : Result Answer Memory) where
  -- by a method that reads
  pub read_so : reads exchange.method ≡ true
      → IfOk result (λ a. a ≡ sent_in exchange (only_reply (reply_at render view media route exchange.request.now))) → new ≡ old
      → Answered exchange old (at_route render view media owner left route exchange.request.now exchange.method) new result
  read_so is told stays =
      sent_alone exchange old new exchange.request.now.body (only_reply
      (reply_at render view media route exchange.request.now)) _ result told
      (sym (ap (λ b. if b then only_reply (reply_at render view media route exchange.request.now)
      else edit_at view owner left route exchange.request.now exchange.method) is)) refl stays

  -- or by another
  pub edited_so : reads exchange.method ≡ false
      → Answered exchange old (edit_at view owner left route exchange.request.now exchange.method) new result
      → Answered exchange old (at_route render view media owner left route exchange.request.now exchange.method) new result
  edited_so is answered =
      subst (λ b. Answered exchange old (if b then only_reply (reply_at render view media route exchange.request.now)
      else edit_at view owner left route exchange.request.now exchange.method) new result) (sym is) answered

-- another method at a route that is no page
pub edit_refused : (exchange : Exchange) (store : StoreState) (view : View) (owner left : Bool) (route : found.Route)
    (result : Result Answer Memory)
    → ((rest : Bor (List ℕ)) → route ≡ found_routes.Page rest → ⊥) → IfOk result (λ a. a ≡ sent_in exchange (only_reply (not_allowed Read)))
    → Answered exchange store (edit_at view owner left (route_shown route) exchange.request.now exchange.method) store result
edit_refused exchange store view owner left (found_routes.Page rest) result other told = absurd (other rest refl)
edit_refused exchange store view owner left (found_routes.Backlinks rest) result other told =
    sent_alone exchange store store exchange.request.now.body (only_reply (not_allowed Read)) _ result told refl refl refl
edit_refused exchange store view owner left found_routes.Contents result other told =
    sent_alone exchange store store exchange.request.now.body (only_reply (not_allowed Read)) _ result told refl refl refl
edit_refused exchange store view owner left found_routes.Search result other told =
    sent_alone exchange store store exchange.request.now.body (only_reply (not_allowed Read)) _ result told refl refl refl
edit_refused exchange store view owner left found_routes.Broken result other told =
    sent_alone exchange store store exchange.request.now.body (only_reply (not_allowed Read)) _ result told refl refl refl
