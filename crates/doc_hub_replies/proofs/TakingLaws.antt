-- Answers where no edits are taken: none makes one.
use Rattle.std.proofs.Common.{◌≡◌, Bool, true, false, List, ℕ, refl, ap, sym, ◌∙◌, subst}
use Rattle.std.specs.Prelude.{◌&&◌, ◌==◌, not, codes, Option, Some, None, option_map, Result, Ok, ⊤, if◌then◌else◌}
use Rattle.std.specs.Str.{is_utf8}
use Rattle.doc_http.specs.declared.request.Request.{Request}
use Rattle.doc_http.specs.Requests.{is_bare}
use Rattle.doc_http_replies.specs.Heads.{Dress, dressed_bytes}
use Rattle.doc_http_replies.specs.Manners.{dress_of}
use Rattle.doc_http_replies.specs.declared.manner.Manner.{Manner}
use Rattle.doc_http_replies.specs.declared.reply.Allow.{Allow}
use Rattle.doc_http_targets.specs.EditTargets.{EditRoute, edit_route_of}
use Rattle.doc_http_targets.specs.EditTargets as edit_routes
use Rattle.doc_http_targets.specs.Targets.{Route, route_of}
use Rattle.doc_http_targets.specs.Targets as routes
use Rattle.doc_http_targets.specs.WrittenPaths.{path_written}
use Rattle.doc_media.specs.Media.{Beside, Media, beside_of}
use Rattle.doc_page_parts.specs.declared.failure.Memory.{Memory}
use Rattle.doc_people.specs.declared.settings.Browse.{Browse}
use Rattle.doc_people.specs.declared.settings.Offers.{Offers}
use Rattle.doc_people.specs.declared.settings.Settings.{Settings}
use Rattle.doc_store.specs.Store.{StoreState}
use Rattle.doc_store_readers.specs.Readers.{ReaderTable}
use Rattle.doc_store_readers.specs.Sites.{View, view_of}
use Rattle.doc_store_readers.specs.declared.reader.Reader.{Reader}
use Rattle.doc_hub_media.specs.AnswerSteps.{AnsweredSo, sent_in}
use Rattle.doc_hub_media.specs.Counts.{RendersPuts, moves_of, previews_of}
use Rattle.doc_hub_media.specs.Replies.{Renders, Response, at_route, edit_at, method_of, on_route, only_reply, reads, refused, reply_at}
use Rattle.doc_hub_media.specs.Replies.{not_allowed, plain_answer, response_to}
use Rattle.doc_hub_media.specs.Exchange.{Exchange}
use Rattle.doc_hub_media.specs.Answer.{Answer}
use Rattle.doc_hub_media.specs.Edit.{Edit}
use Rattle.doc_hub_media.specs.Method.{Method}
use Rattle.doc_hub_media.specs.Method.TheVariants.{Get, Head, Put, Delete, Post, Other}
use Rattle.doc_hub_asking.specs.Asking.{Asking, is_guest, owns, reader_asking, row_of}
use Rattle.doc_hub_asking.specs.Asking as asked
use Rattle.doc_hub_media.specs.PeopleAnswers.{offers_for, people_reply}
use Rattle.doc_hub_editing_refusals.specs.Asked.{EditRequest}
use Rattle.doc_hub_editing_refusals.specs.Asked as requests
use Rattle.doc_hub_media.specs.EditAnswers.{by_other, by_owner, edit_response, preview_at, preview_of, response_if, shows_preview}
use Rattle.doc_hub_media.specs.EditRequests.{asked_by, at_edit_route, edit_request_of}
use Rattle.doc_hub_media.specs.EditRequests as asks
use Rattle.doc_hub_media.specs.EditResponses.{EditingResponse}
use Rattle.doc_hub_media.specs.EditResponses as responses
use Rattle.doc_hub_media.specs.MediaAnswers.{is_preview_kept}
use Rattle.doc_hub_replies.proofs.AnswerLaws.{edits_nothing_beside}
use Rattle.doc_hub_replies.proofs.EditLaws.{EditsNothing, nobody_edits, other_alone, owner_alone}
use Rattle.doc_hub_replies.proofs.ServingSteps.{counted_alone, told_alone}
use Rattle.doc_hub_replies.specs.Answers.{answer_by, answer_of, asks_for_style, asks_preview, dress_by, dress_for, edited_or, is_for_people}
use Rattle.doc_hub_replies.specs.Answers.{kept_from_guests, people_answer, style_answer, unedited}
use Rattle.doc_hub_replies.specs.Answers as answers
use Rattle.doc_hub_replies.specs.Laws.{EditsChangeNothingElse, NoEditIsMade}
use Rattle.doc_hub_replies.specs.ServingSteps.{closes_after}
use Rattle.doc_hub_replies.specs.TakingEdits.{answer_given, left_by, left_of, left_of_editing, left_to, not_left, refused_method, refused_or}
use Rattle.doc_hub_replies.specs.TakingEdits.{told_to}

none_is_some : {X P : Type 0} (x : X) → Some x ≡ None → P
none_is_some x is = absurd (no x is)
  where
    no : {X : Type 0} (x : X) → Some x ≡ None → ⊥
    no x h = cc

same_within : {X : Type 0} (x y : X) → Some x ≡ Some y → x ≡ y
same_within x y is = cc

-- ---- what is left makes no edit

-- what makes no edit, whoever asks
abbrev Quiet : EditRequest → Type 0
Quiet (requests.ReadSource rest) = ⊤
Quiet (requests.PutSource rest) = ⊥
Quiet (requests.PutPage rest) = ⊥
Quiet (requests.Remove rest) = ⊥
Quiet (requests.Regroup rest) = ⊥
Quiet (requests.Move rest) = ⊥
Quiet (requests.Open rest) = ⊤
Quiet (requests.Preview rest) = ⊤
Quiet (requests.NotAllowed resource) = ⊤

abbrev AllQuiet : Option EditRequest → Type 0
AllQuiet None = ⊤
AllQuiet (Some what) = Quiet what

quiet_editing : (route : EditRoute) (method : Method) → left_of_editing route method ≡ None → Quiet (at_edit_route route method)
quiet_editing (edit_routes.Source rest) Get left = tt
quiet_editing (edit_routes.Source rest) Head left = tt
quiet_editing (edit_routes.Source rest) Put left = none_is_some _ left
quiet_editing (edit_routes.Source rest) Delete left = none_is_some _ left
quiet_editing (edit_routes.Source rest) Post left = none_is_some _ left
quiet_editing (edit_routes.Source rest) Other left = none_is_some _ left
quiet_editing (edit_routes.Groups rest) method left = none_is_some _ left
quiet_editing (edit_routes.Move rest) method left = none_is_some _ left
quiet_editing (edit_routes.Edit rest) Get left = tt
quiet_editing (edit_routes.Edit rest) Head left = tt
quiet_editing (edit_routes.Edit rest) Put left = none_is_some _ left
quiet_editing (edit_routes.Edit rest) Delete left = none_is_some _ left
quiet_editing (edit_routes.Edit rest) Post left = none_is_some _ left
quiet_editing (edit_routes.Edit rest) Other left = none_is_some _ left
quiet_editing (edit_routes.Preview rest) Get left = none_is_some _ left
quiet_editing (edit_routes.Preview rest) Head left = none_is_some _ left
quiet_editing (edit_routes.Preview rest) Put left = none_is_some _ left
quiet_editing (edit_routes.Preview rest) Delete left = none_is_some _ left
quiet_editing (edit_routes.Preview rest) Post left = tt
quiet_editing (edit_routes.Preview rest) Other left = none_is_some _ left

quiet_page : (route : Option Route) (method : Method) → left_of route method ≡ None → AllQuiet (asks.at_route route method)
quiet_page None method left = tt
quiet_page (Some (routes.Page rest)) Get left = tt
quiet_page (Some (routes.Page rest)) Head left = tt
quiet_page (Some (routes.Page rest)) Put left = none_is_some _ left
quiet_page (Some (routes.Page rest)) Delete left = none_is_some _ left
quiet_page (Some (routes.Page rest)) Post left = none_is_some _ left
quiet_page (Some (routes.Page rest)) Other left = none_is_some _ left
quiet_page (Some (routes.Backlinks rest)) method left = tt
quiet_page (Some routes.Contents) method left = tt
quiet_page (Some routes.Search) method left = tt
quiet_page (Some routes.Broken) method left = tt

quiet_by : (route : Option EditRoute) (other : Option Route) (method : Method) → left_by route other method ≡ None
    → AllQuiet (asked_by route other method)
quiet_by (Some route) other method left = quiet_editing route method left
quiet_by None other method left = quiet_page other method left

-- where pages are edited so, or not
quiet_where : (editing : Bool) (route : Option EditRoute) (other : Option Route) (method : Method)
    → left_by (if editing then route else None) other method ≡ None → AllQuiet (if editing then asked_by route other method else None)
quiet_where true route other method left = quiet_by route other method left
quiet_where false route other method left = tt

-- what doesn't edit so is left of its route
left_without : (editing : Bool) (route : Option EditRoute) (other : Option Route) (method : Method)
    → left_by (if editing then route else None) other method ≡ None → (if editing then asked_by route other method else None) ≡ None
    → left_of other method ≡ None
left_without true (Some route) other method left none = none_is_some _ none
left_without true None other method left none = left
left_without false route other method left none = left

-- ---- responses

-- a preview, by whether the text has the type that it must have, and whether it is UTF-8
preview_by : (markdown utf8 : Bool) (untyped shown broken : EditingResponse) → untyped.edit ≡ None → shown.edit ≡ None
    → broken.edit ≡ None
    → (let response : EditingResponse = (if not markdown then untyped else (if utf8 then shown else broken)) in response.edit ≡ None)
preview_by false utf8 untyped shown broken first second third = first
preview_by true true untyped shown broken first second third = second
preview_by true false untyped shown broken first second third = third

preview_at_quiet : (render : Renders) (browse : Browse) (view : View) (beside : Beside) (path : Option (List ℕ)) (request : Request)
    → (preview_at render browse view beside path request).edit ≡ None
preview_at_quiet render browse view beside None request = refl
preview_at_quiet render browse view beside (Some path) request =
    preview_by request.markdown (is_utf8 request.body) (responses.refused 415)
    (responses.only_reply (responses.Shown (preview_of browse view beside path (render request.body))))
    (responses.refused_for 400 (codes "the text is not UTF-8")) refl refl refl

module _ (render : Renders) (browse : Browse) (view : View) (beside : Beside) (left people : Bool) (request : Request) where
  owner_quiet : (offers : Offers) (what : EditRequest) → Quiet what
      → (by_owner render browse offers view beside left people request what).edit ≡ None
  owner_quiet offers (requests.ReadSource rest) quiet = owner_alone render browse offers view beside left people request (requests.ReadSource rest) tt
  owner_quiet offers (requests.PutSource rest) quiet = absurd quiet
  owner_quiet offers (requests.PutPage rest) quiet = absurd quiet
  owner_quiet offers (requests.Remove rest) quiet = absurd quiet
  owner_quiet offers (requests.Regroup rest) quiet = absurd quiet
  owner_quiet offers (requests.Move rest) quiet = absurd quiet
  owner_quiet offers (requests.Open rest) quiet = owner_alone render browse offers view beside left people request (requests.Open rest) tt
  owner_quiet offers (requests.Preview rest) quiet = preview_at_quiet render browse view beside (path_written rest) request
  owner_quiet offers (requests.NotAllowed resource) quiet = owner_alone render browse offers view beside left people request (requests.NotAllowed resource) tt

  entry_quiet : (offers : Offers) (guest owner : Bool) (what : EditRequest) → Quiet what
      → (let response : EditingResponse = (if owner then by_owner render browse offers view beside left people request what
      else by_other render browse offers view guest people what) in response.edit ≡ None)
  entry_quiet offers guest true what quiet = owner_quiet offers what quiet
  entry_quiet offers guest false what quiet = other_alone render browse offers view guest people what

  quiet_edits_nothing : (asking : Asking) (what : Option EditRequest) → AllQuiet what
      → EditsNothing (response_if render browse view beside asking left people request what)
  quiet_edits_nothing asking None quiet = tt
  quiet_edits_nothing asked.Nobody (Some what) quiet = tt
  quiet_edits_nothing (asked.Guest row) (Some what) quiet = entry_quiet (offers_for browse true row.owner) true row.owner what quiet
  quiet_edits_nothing (asked.Known row) (Some what) quiet = entry_quiet (offers_for browse false row.owner) false row.owner what quiet

  -- whoever has an entry is answered what they edit so
  asked_is_answered : (asking : Asking) (row : Reader) (what : EditRequest) → row_of asking ≡ Some row
      → response_if render browse view beside asking left people request (Some what) ≡ None → ⊥
  asked_is_answered asked.Nobody row what is none = cc
  asked_is_answered (asked.Guest other) row what is none = none_is_some _ none
  asked_is_answered (asked.Known other) row what is none = none_is_some _ none

-- whatever a list is asked, it makes no edit
list_quiet : (reading : Bool) (one other : Response) → one.edit ≡ None → other.edit ≡ None
    → (let response : Response = (if reading then one else other) in response.edit ≡ None)
list_quiet true one other first second = first
list_quiet false one other first second = second

module _ (render : Renders) (view : View) (beside : Beside) (owner left : Bool) (request : Request) where
  route_quiet : (route : Route) (method : Method) → left_of (Some route) method ≡ None
      → (at_route render view beside owner left route request method).edit ≡ None
  route_quiet (routes.Page rest) Get none = refl
  route_quiet (routes.Page rest) Head none = refl
  route_quiet (routes.Page rest) Put none = none_is_some _ none
  route_quiet (routes.Page rest) Delete none = none_is_some _ none
  route_quiet (routes.Page rest) Post none = none_is_some _ none
  route_quiet (routes.Page rest) Other none = none_is_some _ none
  route_quiet (routes.Backlinks rest) method none =
      list_quiet (reads method) (only_reply (reply_at render view beside (routes.Backlinks rest) request))
      (edit_at view owner left (routes.Backlinks rest) request method) refl refl
  route_quiet routes.Contents method none =
      list_quiet (reads method) (only_reply (reply_at render view beside routes.Contents request))
      (edit_at view owner left routes.Contents request method) refl refl
  route_quiet routes.Search method none =
      list_quiet (reads method) (only_reply (reply_at render view beside routes.Search request))
      (edit_at view owner left routes.Search request method) refl refl
  route_quiet routes.Broken method none =
      list_quiet (reads method) (only_reply (reply_at render view beside routes.Broken request))
      (edit_at view owner left routes.Broken request method) refl refl

  at_quiet : (route : Option Route) → left_of route (method_of request.method) ≡ None
      → (on_route render view beside owner left route request).edit ≡ None
  at_quiet None none = refl
  at_quiet (Some route) none = route_quiet route (method_of request.method) none

response_quiet : (render : Renders) (view : View) (beside : Beside) (reader : Option Reader) (left : Bool) (request : Request)
    → left_of (route_of request.target) (method_of request.method) ≡ None → (response_to render view beside reader left request).edit ≡ None
response_quiet render view beside None left request none = refl
response_quiet render view beside (Some reader) left request none =
    at_quiet render view beside reader.owner left request (route_of request.target) none

-- ---- answers

either : (test : Bool) (one other : Answer) → one.edit ≡ None → other.edit ≡ None
    → (let answer : Answer = (if test then one else other) in answer.edit ≡ None)
either true one other first second = first
either false one other first second = second

kept_quiet : (forbidden : Bool) (response : Response) → response.edit ≡ None
    → (let kept : Response = (if forbidden then refused 401 else response) in kept.edit ≡ None)
kept_quiet true response none = refl
kept_quiet false response none = none

module _ (browse : Browse) (render : Renders) (view : View) (beside : Beside) (asking : Asking) (left close : Bool) (request : Request) where
  unedited_quiet : (response_to render view beside (row_of asking) left request).edit ≡ None
      → (unedited browse render view beside asking left close request).edit ≡ None
  unedited_quiet none =
      let response : Response = response_to render view beside (row_of asking) left request in
      let page : Answer = people_answer (people_reply render browse view beside asking request) close request in
      let plain : Answer = plain_answer (dress_for browse asking) (kept_from_guests (is_guest asking) response) close request in
      either (is_for_people request) page plain refl (kept_quiet (is_guest asking && response.reply.code == 403) response none)

  edited_quiet : (found : Option EditingResponse) → EditsNothing found
      → (found ≡ None → (unedited browse render view beside asking left close request).edit ≡ None)
      → (edited_or found (dress_for browse asking) close request (unedited browse render view beside asking left close request)).edit ≡ None
  edited_quiet None nothing alone = alone refl
  edited_quiet (Some response) nothing alone = nothing

  browsed_quiet : EditsNothing (edit_response render browse view beside asking left (is_for_people request) request)
      → (edit_response render browse view beside asking left (is_for_people request) request ≡ None
      → (response_to render view beside (row_of asking) left request).edit ≡ None)
      → (answers.browsed browse render view beside asking left close request).edit ≡ None
  browsed_quiet nothing alone =
      let found : Option EditingResponse = edit_response render browse view beside asking left (is_for_people request) request in
      let other : Answer = unedited browse render view beside asking left close request in
      either (asks_for_style request) (style_answer close request) (edited_or found (dress_for browse asking) close request other) refl
      (edited_quiet found nothing (λ none. unedited_quiet (alone none)))

-- who has an entry, and asks for what is left
module _ (render : Renders) (view : View) (beside : Beside) (asking : Asking) (row : Reader) (left close : Bool) (request : Request)
    (entry : row_of asking ≡ Some row) where
  alone_by : (browse : Browse) (what : Option EditRequest)
      → (what ≡ None → left_of (route_of request.target) (method_of request.method) ≡ None)
      → response_if render browse view beside asking left (is_for_people request) request what ≡ None
      → (response_to render view beside (row_of asking) left request).edit ≡ None
  alone_by browse None is none = response_quiet render view beside (row_of asking) left request (is refl)
  alone_by browse (Some what) is none =
      absurd (asked_is_answered render browse view beside left (is_for_people request) request asking row what entry none)

  by_quiet : (browse : Option Browse) → not_left browse request ≡ None
      → (answer_by browse render view beside asking left close request).edit ≡ None
  unfolding edit_response
  by_quiet None none = response_quiet render view beside (row_of asking) left request none
  by_quiet (Some browse) none =
      let route = edit_route_of request.target in
      let other = route_of request.target in
      let method = method_of request.method in
      browsed_quiet browse render view beside asking left close request
      (quiet_edits_nothing render browse view beside left (is_for_people request) request asking (edit_request_of browse request)
      (quiet_where browse.editing route other method none))
      (alone_by browse (edit_request_of browse request) (left_without browse.editing route other method none))

nobody_quiet : (browse : Option Browse) (render : Renders) (view : View) (beside : Beside) (left close : Bool) (request : Request)
    → (answer_by browse render view beside asked.Nobody left close request).edit ≡ None
nobody_quiet None render view beside left close request = refl
nobody_quiet (Some browse) render view beside left close request =
    browsed_quiet browse render view beside asked.Nobody left close request
    (subst EditsNothing (sym (nobody_edits render browse view beside left (is_for_people request) request)) tt) (λ none. refl)

quiet_for : (browse : Option Browse) (render : Renders) (view : View) (beside : Beside) (asking : Asking) (left close : Bool)
    (request : Request) → told_to asking (not_left browse request) ≡ None
    → (answer_by browse render view beside asking left close request).edit ≡ None
quiet_for browse render view beside asked.Nobody left close request none = nobody_quiet browse render view beside left close request
quiet_for browse render view beside (asked.Guest row) left close request none =
    by_quiet render view beside (asked.Guest row) row left close request refl browse none
quiet_for browse render view beside (asked.Known row) left close request none =
    by_quiet render view beside (asked.Known row) row left close request refl browse none

-- what is refused makes no edit, and all else is answered as ever
pub given_by_edit : (P : Option Edit → Type 0) (settings : Settings) (render : Renders) (view : View) (beside : Beside) (asking : Asking)
    (left : Bool) (request : Request) → P None → P (answer_of settings render view beside asking left request).edit
    → P (answer_given settings render view beside asking left request).edit
unfolding answer_given
given_by_edit P settings render view beside asking left request none holds =
    by (left_to settings asking request)
  where
    by : (allow : Option Allow)
        → P (refused_or allow (dress_by settings.browse asking) (closes_after settings request) request
        (answer_of settings render view beside asking left request)).edit
    by None = holds
    by (Some allow) = none

-- an edit that is made is made where edits are taken
pub given_edit_is : (settings : Settings) (render : Renders) (view : View) (beside : Beside) (asking : Asking) (left : Bool)
    (request : Request) (edit : Edit) → (answer_given settings render view beside asking left request).edit ≡ Some edit
    → (answer_of settings render view beside asking left request).edit ≡ Some edit
given_edit_is settings render view beside asking left request edit =
    given_by_edit (λ made. made ≡ Some edit → (answer_of settings render view beside asking left request).edit ≡ Some edit) settings render
    view beside asking left request (λ is. none_is_some edit (sym is)) (λ is. is)

pub edits_change_nothing_else : EditsChangeNothingElse
unfolding answer_given
edits_change_nothing_else settings render view beside asking left request takes =
    ap (λ takes. refused_or (if takes then None else told_to asking (not_left settings.browse request)) (dress_by settings.browse asking)
    (closes_after settings request) request (answer_of settings render view beside asking left request)) takes

answer_quiet : (settings : Settings) (render : Renders) (view : View) (beside : Beside) (asking : Asking) (left : Bool) (request : Request)
    → told_to asking (not_left settings.browse request) ≡ None → (answer_of settings render view beside asking left request).edit ≡ None
unfolding answer_of
answer_quiet settings render view beside asking left request none =
    edits_nothing_beside settings.browse render view beside asking left (closes_after settings request) request
    (quiet_for settings.browse render view beside asking left (closes_after settings request) request none)

by_allow : (settings : Settings) (render : Renders) (view : View) (beside : Beside) (asking : Asking) (left : Bool) (request : Request)
    (allow : Option Allow) → told_to asking (not_left settings.browse request) ≡ allow
    → (refused_or allow (dress_by settings.browse asking) (closes_after settings request) request
    (answer_of settings render view beside asking left request)).edit ≡ None
by_allow settings render view beside asking left request None is = answer_quiet settings render view beside asking left request is
by_allow settings render view beside asking left request (Some allow) is = refl

pub no_edit_is_made : NoEditIsMade
unfolding answer_given
no_edit_is_made settings render view beside asking left request takes =
    subst (λ t. (refused_or (if t then None else told_to asking (not_left settings.browse request)) (dress_by settings.browse asking)
    (closes_after settings request) request (answer_of settings render view beside asking left request)).edit ≡ None) (sym takes)
    (by_allow settings render view beside asking left request (told_to asking (not_left settings.browse request)) refl)

-- ---- previews

abbrev IsPreview : Option EditRequest → Type 0
IsPreview (Some (requests.Preview rest)) = ⊤
IsPreview what = ⊥

refused_no_preview : (route : Option EditRoute) (other : Option Route) (method : Method) (allow : Allow)
    → left_by route other method ≡ Some allow → IsPreview (asked_by route other method) → ⊥
refused_no_preview (Some (edit_routes.Source rest)) other Get allow is preview = preview
refused_no_preview (Some (edit_routes.Source rest)) other Head allow is preview = preview
refused_no_preview (Some (edit_routes.Source rest)) other Put allow is preview = preview
refused_no_preview (Some (edit_routes.Source rest)) other Delete allow is preview = preview
refused_no_preview (Some (edit_routes.Source rest)) other Post allow is preview = preview
refused_no_preview (Some (edit_routes.Source rest)) other Other allow is preview = preview
refused_no_preview (Some (edit_routes.Groups rest)) other Get allow is preview = preview
refused_no_preview (Some (edit_routes.Groups rest)) other Head allow is preview = preview
refused_no_preview (Some (edit_routes.Groups rest)) other Put allow is preview = preview
refused_no_preview (Some (edit_routes.Groups rest)) other Delete allow is preview = preview
refused_no_preview (Some (edit_routes.Groups rest)) other Post allow is preview = preview
refused_no_preview (Some (edit_routes.Groups rest)) other Other allow is preview = preview
refused_no_preview (Some (edit_routes.Move rest)) other Get allow is preview = preview
refused_no_preview (Some (edit_routes.Move rest)) other Head allow is preview = preview
refused_no_preview (Some (edit_routes.Move rest)) other Put allow is preview = preview
refused_no_preview (Some (edit_routes.Move rest)) other Delete allow is preview = preview
refused_no_preview (Some (edit_routes.Move rest)) other Post allow is preview = preview
refused_no_preview (Some (edit_routes.Move rest)) other Other allow is preview = preview
refused_no_preview (Some (edit_routes.Edit rest)) other Get allow is preview = preview
refused_no_preview (Some (edit_routes.Edit rest)) other Head allow is preview = preview
refused_no_preview (Some (edit_routes.Edit rest)) other Put allow is preview = preview
refused_no_preview (Some (edit_routes.Edit rest)) other Delete allow is preview = preview
refused_no_preview (Some (edit_routes.Edit rest)) other Post allow is preview = preview
refused_no_preview (Some (edit_routes.Edit rest)) other Other allow is preview = preview
refused_no_preview (Some (edit_routes.Preview rest)) other Get allow is preview = preview
refused_no_preview (Some (edit_routes.Preview rest)) other Head allow is preview = preview
refused_no_preview (Some (edit_routes.Preview rest)) other Put allow is preview = preview
refused_no_preview (Some (edit_routes.Preview rest)) other Delete allow is preview = preview
refused_no_preview (Some (edit_routes.Preview rest)) other Post allow is preview = none_is_some allow (sym is)
refused_no_preview (Some (edit_routes.Preview rest)) other Other allow is preview = preview
refused_no_preview None None method allow is preview = preview
refused_no_preview None (Some (routes.Page rest)) Get allow is preview = preview
refused_no_preview None (Some (routes.Page rest)) Head allow is preview = preview
refused_no_preview None (Some (routes.Page rest)) Put allow is preview = preview
refused_no_preview None (Some (routes.Page rest)) Delete allow is preview = preview
refused_no_preview None (Some (routes.Page rest)) Post allow is preview = preview
refused_no_preview None (Some (routes.Page rest)) Other allow is preview = preview
refused_no_preview None (Some (routes.Backlinks rest)) method allow is preview = preview
refused_no_preview None (Some routes.Contents) method allow is preview = preview
refused_no_preview None (Some routes.Search) method allow is preview = preview
refused_no_preview None (Some routes.Broken) method allow is preview = preview

refused_where : (editing : Bool) (route : Option EditRoute) (other : Option Route) (method : Method) (allow : Allow)
    → left_by (if editing then route else None) other method ≡ Some allow
    → IsPreview (if editing then asked_by route other method else None) → ⊥
refused_where true route other method allow is preview = refused_no_preview route other method allow is preview
refused_where false route other method allow is preview = preview

shows_none : (owner : Bool) (request : Request) (what : Option EditRequest) → (IsPreview what → ⊥) → shows_preview owner request what ≡ false
shows_none owner request None never = refl
shows_none owner request (Some (requests.ReadSource rest)) never = refl
shows_none owner request (Some (requests.PutSource rest)) never = refl
shows_none owner request (Some (requests.PutPage rest)) never = refl
shows_none owner request (Some (requests.Remove rest)) never = refl
shows_none owner request (Some (requests.Regroup rest)) never = refl
shows_none owner request (Some (requests.Move rest)) never = refl
shows_none owner request (Some (requests.Open rest)) never = refl
shows_none owner request (Some (requests.Preview rest)) never = absurd (never tt)
shows_none owner request (Some (requests.NotAllowed resource)) never = refl

told_is : (asking : Asking) (allow : Option Allow) (told : Allow) → told_to asking allow ≡ Some told → allow ≡ Some told
told_is asked.Nobody allow told is = none_is_some told (sym is)
told_is (asked.Guest row) allow told is = is
told_is (asked.Known row) allow told is = is

asks_none : (browse : Option Browse) (asking : Asking) (request : Request) (allow : Allow) → not_left browse request ≡ Some allow
    → asks_preview browse asking request ≡ false
asks_none None asking request allow is = refl
asks_none (Some browse) asking request allow is =
    shows_none (owns asking) request (edit_request_of browse request)
    (refused_where browse.editing (edit_route_of request.target) (route_of request.target) (method_of request.method) allow is)

left_is : (takes : Bool) (asking : Asking) (allow : Option Allow) (told : Allow) → (if takes then None else told_to asking allow) ≡ Some told
    → allow ≡ Some told
left_is true asking allow told is = none_is_some told (sym is)
left_is false asking allow told is = told_is asking allow told is

-- ---- answers as they are put together

module _ (settings : Settings) (render : Renders) (readers : ReaderTable) (media : Media) (left : Bool) (request : Request)
    (old : StoreState) where
  abbrev asking : Asking
  asking = reader_asking settings.browse readers request

  abbrev view : View
  view = view_of old.site (row_of asking)

  abbrev beside : Beside
  beside = beside_of media (row_of asking)

  abbrev wanted : Answer
  wanted = answer_given settings render view beside asking left request

  abbrev inner : Answer
  inner = answer_of settings render view beside asking left request

  abbrev refusal : Allow → Answer
  refusal allow = refused_method (dress_by settings.browse asking) (closes_after settings request) request allow

  wanted_by : (allow : Option Allow) → left_to settings asking request ≡ allow
      → wanted ≡ refused_or allow (dress_by settings.browse asking) (closes_after settings request) request inner
  unfolding answer_given
  wanted_by allow is =
      ap (λ a. refused_or a (dress_by settings.browse asking) (closes_after settings request) request inner) is

  told_by : (allow : Option Allow) (answer : Answer) → left_to settings asking request ≡ allow → Some answer ≡ option_map refusal allow
      → AnsweredSo request.body old wanted old (Ok answer)
  told_by None answer is some = none_is_some answer some
  told_by (Some allow) answer is some =
      subst (λ a. AnsweredSo request.body old a old (Ok answer)) (sym (wanted_by (Some allow) is))
      (told_alone old request.body (refusal allow) (Ok answer) (same_within answer (refusal allow) some) refl)

  pub refused_so : (answer : Answer) → Some answer ≡ option_map refusal (left_to settings asking request)
      → AnsweredSo request.body old wanted old (Ok answer)
  refused_so answer some = told_by (left_to settings asking request) answer refl some

  none_by : (allow : Option Allow) → None ≡ option_map refusal allow → allow ≡ None
  none_by None none = refl
  none_by (Some allow) none = none_is_some _ (sym none)

  pub given_by : (new : StoreState) (result : Result Answer Memory) → None ≡ option_map refusal (left_to settings asking request)
      → AnsweredSo request.body old inner new result → AnsweredSo request.body old wanted new result
  given_by new result none answered =
      subst (λ a. AnsweredSo request.body old a new result) (sym (wanted_by None (none_by (left_to settings asking request) none))) answered

  shown_by : (allow : Option Allow) (answer : Answer) → left_to settings asking request ≡ allow → Some answer ≡ option_map refusal allow
      → answers.shows_preview settings.browse view beside asking request ≡ false
  shown_by None answer is some = none_is_some answer some
  shown_by (Some allow) answer is some =
      ap (λ shows. shows && not (is_preview_kept settings.browse view beside request)) (asks_none settings.browse asking request allow
      (left_is settings.takes_edits asking (not_left settings.browse request) allow is))

  edit_by : (allow : Option Allow) (answer : Answer) → Some answer ≡ option_map refusal allow → answer.edit ≡ None
  edit_by None answer some = none_is_some answer some
  edit_by (Some allow) answer some = ap (λ (a : Answer). a.edit) (same_within answer (refusal allow) some)

  -- nothing is rendered for a refusal
  pub refused_counted : (rendered accepted : ℕ) (answer : Answer) → Some answer ≡ option_map refusal (left_to settings asking request)
      → RendersPuts rendered accepted rendered accepted (moves_of answer.edit)
      (previews_of (answers.shows_preview settings.browse view beside asking request))
  refused_counted rendered accepted answer some =
      counted_alone rendered accepted rendered accepted (answers.shows_preview settings.browse view beside asking request) answer (Ok answer)
      refl (edit_by (left_to settings asking request) answer some) refl refl
      (shown_by (left_to settings asking request) answer refl some)

-- ---- a refusal as it is put together

module _ {X : Type 0} (refusal : Allow → X) (settings : Settings) (asking : Asking) (request : Request) where
  abbrev refused_if : Bool → Option Allow → Option X
  refused_if takes allow = option_map refusal (if takes then None else told_to asking allow)

  -- where edits are taken there is none
  pub none_where_taken : settings.takes_edits ≡ true → None ≡ option_map refusal (left_to settings asking request)
  none_where_taken takes = ap (λ t. refused_if t (not_left settings.browse request)) (sym takes)

  none_told : (takes : Bool) → None ≡ refused_if takes None
  none_told true = refl
  none_told false = none_by asking
    where
      none_by : (asking : Asking) → None ≡ option_map refusal (told_to asking None)
      none_by asked.Nobody = refl
      none_by (asked.Guest row) = refl
      none_by (asked.Known row) = refl

  -- nor where the method is left
  pub none_where_left : not_left settings.browse request ≡ None → None ≡ option_map refusal (left_to settings asking request)
  none_where_left left = none_told settings.takes_edits ∙ ap (refused_if settings.takes_edits) (sym left)

  to_nobody : (takes : Bool) (asking : Asking) (allow : Option Allow) → None ≡ row_of asking
      → None ≡ option_map refusal (if takes then None else told_to asking allow)
  to_nobody true asking allow none = refl
  to_nobody false asked.Nobody allow none = refl
  to_nobody false (asked.Guest row) allow none = none_is_some row (sym none)
  to_nobody false (asked.Known row) allow none = none_is_some row (sym none)

  -- nor where nobody asks
  pub none_to_nobody : None ≡ row_of asking → None ≡ option_map refusal (left_to settings asking request)
  none_to_nobody none = to_nobody settings.takes_edits asking (not_left settings.browse request) none

  to_somebody : (asking : Asking) (allow : Allow) (row : Reader) → Some row ≡ row_of asking → Some allow ≡ told_to asking (Some allow)
  to_somebody asked.Nobody allow row some = none_is_some row some
  to_somebody (asked.Guest other) allow row some = refl
  to_somebody (asked.Known other) allow row some = refl

  pub refused_where_not : (allow : Allow) (row : Reader) → settings.takes_edits ≡ false → not_left settings.browse request ≡ Some allow
      → Some row ≡ row_of asking → Some (refusal allow) ≡ option_map refusal (left_to settings asking request)
  refused_where_not allow row off left some =
      ap (option_map refusal) (to_somebody asking allow row some)
      ∙ (λ i. refused_if (sym off i) (sym left i))

pub refusal_sent : (exchange : Exchange) (request : Request) (manner : Manner) (dress : Dress) (close : Bool) (allow : Allow)
    → exchange.manner ≡ manner → dress_of manner ≡ dress → manner.head_only ≡ is_bare request.method → manner.close ≡ close
    → sent_in exchange (only_reply (not_allowed allow)) ≡ refused_method dress close request allow
refusal_sent exchange request manner dress close allow kept dressed bare closes = λ i. record {
  bytes = dressed_bytes ((ap dress_of kept ∙ dressed) i) (not_allowed allow) ((ap (λ (m : Manner). m.head_only) kept ∙ bare) i)
      ((ap (λ (m : Manner). m.close) kept ∙ closes) i);
  closes = (ap (λ (m : Manner). m.close) kept ∙ closes) i;
  edit = None;
}
