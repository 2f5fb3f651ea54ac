-- A request that edits asks whether a put is taken only where it is a PUT of an owner.
use Rattle.std.proofs.Common.{◌≡◌, ℕ, List, Bool, true, false, refl, ap}
use Rattle.std.specs.Prelude.{Option, Some, None, if◌then◌else◌}
use Rattle.doc_http.specs.declared.request.Request.{Request}
use Rattle.doc_http_targets.specs.EditTargets.{EditRoute, edit_route_of}
use Rattle.doc_http_targets.specs.EditTargets as edit_routes
use Rattle.doc_http_targets.specs.Targets.{Route, route_of}
use Rattle.doc_http_targets.specs.Targets as routes
use Rattle.doc_media.specs.Media.{Beside}
use Rattle.doc_people.specs.declared.settings.Browse.{Browse}
use Rattle.doc_people.specs.declared.settings.Offers.{Offers}
use Rattle.doc_store_readers.specs.Sites.{View}
use Rattle.doc_store_readers.specs.declared.reader.Reader.{Reader}
use Rattle.doc_hub_replies.specs.Replies.{Renders, method_of}
use Rattle.doc_hub_replies.specs.Method.{Method}
use Rattle.doc_hub_replies.specs.Method.TheVariants.{Get, Head, Put, Delete, Post, Other}
use Rattle.doc_hub_editing_refusals.specs.Asked.{EditRequest}
use Rattle.doc_hub_editing_refusals.specs.Asked as requests
use Rattle.doc_hub_replies.specs.EditAnswers.{by_entry, by_other, by_owner, edit_response, response_by, response_if}
use Rattle.doc_hub_replies.specs.EditRequests.{asked_by, at_edit_route, at_page, at_route, at_source, edit_request_of, if_posted}
use Rattle.doc_hub_replies.specs.EditRequests.{if_put, if_read}
use Rattle.doc_hub_replies.specs.EditResponses.{EditingResponse}
use Rattle.doc_hub_asking.specs.Asking.{Asking, row_of}
use Rattle.doc_hub_asking.specs.Asking as asked
use Rattle.doc_hub_replies.specs.PeopleAnswers.{offers_for}

-- ---- what asks whether a put is taken

-- a put of a page, other groups for it, or a move
abbrev takes_put : EditRequest → Bool
takes_put (requests.PutSource rest) = true
takes_put (requests.PutPage rest) = true
takes_put (requests.Regroup rest) = true
takes_put (requests.Move rest) = true
takes_put what = false

abbrev takes_put_if : Option EditRequest → Bool
takes_put_if None = false
takes_put_if (Some what) = takes_put what

-- ---- it is a PUT

never : {X : Type 0} → false ≡ true → X
never is = absurd (unlike is)
  where
    unlike : false ≡ true → ⊥
    unlike e = cc

source_puts : (rest : List ℕ) (method : Method) → takes_put (at_source rest method) ≡ true → method ≡ Put
source_puts rest Get takes = never takes
source_puts rest Head takes = never takes
source_puts rest Put takes = refl
source_puts rest Delete takes = never takes
source_puts rest Post takes = never takes
source_puts rest Other takes = never takes

written_puts : (what : EditRequest) (method : Method) → takes_put (if_put what method) ≡ true → method ≡ Put
written_puts what Get takes = never takes
written_puts what Head takes = never takes
written_puts what Put takes = refl
written_puts what Delete takes = never takes
written_puts what Post takes = never takes
written_puts what Other takes = never takes

form_puts : (rest : List ℕ) (method : Method) → takes_put (if_read (requests.Open rest) method) ≡ true → method ≡ Put
form_puts rest Get takes = never takes
form_puts rest Head takes = never takes
form_puts rest Put takes = never takes
form_puts rest Delete takes = never takes
form_puts rest Post takes = never takes
form_puts rest Other takes = never takes

preview_puts : (rest : List ℕ) (method : Method) → takes_put (if_posted (requests.Preview rest) method) ≡ true → method ≡ Put
preview_puts rest Get takes = never takes
preview_puts rest Head takes = never takes
preview_puts rest Put takes = never takes
preview_puts rest Delete takes = never takes
preview_puts rest Post takes = never takes
preview_puts rest Other takes = never takes

edit_route_puts : (route : EditRoute) (method : Method) → takes_put (at_edit_route route method) ≡ true → method ≡ Put
edit_route_puts (edit_routes.Source rest) method takes = source_puts rest method takes
edit_route_puts (edit_routes.Groups rest) method takes = written_puts (requests.Regroup rest) method takes
edit_route_puts (edit_routes.Move rest) method takes = written_puts (requests.Move rest) method takes
edit_route_puts (edit_routes.Edit rest) method takes = form_puts rest method takes
edit_route_puts (edit_routes.Preview rest) method takes = preview_puts rest method takes

page_puts : (rest : List ℕ) (method : Method) → takes_put_if (at_page rest method) ≡ true → method ≡ Put
page_puts rest Get takes = never takes
page_puts rest Head takes = never takes
page_puts rest Put takes = refl
page_puts rest Delete takes = never takes
page_puts rest Post takes = never takes
page_puts rest Other takes = never takes

route_puts : (route : Option Route) (method : Method) → takes_put_if (at_route route method) ≡ true → method ≡ Put
route_puts None method takes = never takes
route_puts (Some (routes.Page rest)) method takes = page_puts rest method takes
route_puts (Some (routes.Backlinks rest)) method takes = never takes
route_puts (Some routes.Contents) method takes = never takes
route_puts (Some routes.Search) method takes = never takes
route_puts (Some routes.Broken) method takes = never takes

asked_puts : (route : Option EditRoute) (other : Option Route) (method : Method) → takes_put_if (asked_by route other method) ≡ true
    → method ≡ Put
asked_puts None other method takes = route_puts other method takes
asked_puts (Some route) other method takes = edit_route_puts route method takes

request_puts : (browse : Browse) (request : Request) → takes_put_if (edit_request_of browse request) ≡ true
    → method_of request.method ≡ Put
request_puts browse request takes = by browse.editing takes
  where
    by : (editing : Bool)
        → takes_put_if
        (if editing then asked_by (edit_route_of request.target) (route_of request.target) (method_of request.method) else None) ≡ true
        → method_of request.method ≡ Put
    by true takes = asked_puts (edit_route_of request.target) (route_of request.target) (method_of request.method) takes
    by false takes = never takes

-- ---- and else the answer is the same

module _ (render : Renders) (browse : Browse) (view : View) (media : Beside) (left other for_people : Bool) (request : Request) where
  same_owner : (offers : Offers) (what : EditRequest) → (takes_put what ≡ true → left ≡ other)
      → by_owner render browse offers view media left for_people request what
      ≡ by_owner render browse offers view media other for_people request what
  same_owner offers (requests.ReadSource rest) same = refl
  same_owner offers (requests.PutSource rest) same =
      ap (λ l. by_owner render browse offers view media l for_people request (requests.PutSource rest)) (same refl)
  same_owner offers (requests.PutPage rest) same =
      ap (λ l. by_owner render browse offers view media l for_people request (requests.PutPage rest)) (same refl)
  same_owner offers (requests.Remove rest) same = refl
  same_owner offers (requests.Regroup rest) same =
      ap (λ l. by_owner render browse offers view media l for_people request (requests.Regroup rest)) (same refl)
  same_owner offers (requests.Move rest) same =
      ap (λ l. by_owner render browse offers view media l for_people request (requests.Move rest)) (same refl)
  same_owner offers (requests.Open rest) same = refl
  same_owner offers (requests.Preview rest) same = refl
  same_owner offers (requests.NotAllowed resource) same = refl

  same_if : (offers : Offers) (guest owner : Bool) (what : EditRequest) → (owner ≡ true → takes_put what ≡ true → left ≡ other)
      → ◌≡◌ {A = EditingResponse}
      (if owner then by_owner render browse offers view media left for_people request what
      else by_other render browse offers view guest for_people what)
      (if owner then by_owner render browse offers view media other for_people request what
      else by_other render browse offers view guest for_people what)
  same_if offers guest true what same = same_owner offers what (same refl)
  same_if offers guest false what same = refl

  same_entry : (guest : Bool) (row : Reader) (what : EditRequest) → (row.owner ≡ true → takes_put what ≡ true → left ≡ other)
      → by_entry render browse view media guest row left for_people request what
      ≡ by_entry render browse view media guest row other for_people request what
  same_entry guest row what same = same_if (offers_for browse guest row.owner) guest row.owner what same

  same_by : (asking : Asking) (what : EditRequest)
      → ((row : Reader) → row.owner ≡ true → row_of asking ≡ Some row → takes_put what ≡ true → left ≡ other)
      → response_by render browse view media asking left for_people request what
      ≡ response_by render browse view media asking other for_people request what
  same_by asked.Nobody what same = refl
  same_by (asked.Guest row) what same = ap Some (same_entry true row what (λ owns takes. same row owns refl takes))
  same_by (asked.Known row) what same = ap Some (same_entry false row what (λ owns takes. same row owns refl takes))

  same_asked : (asking : Asking) (what : Option EditRequest)
      → ((row : Reader) → row.owner ≡ true → row_of asking ≡ Some row → takes_put_if what ≡ true → left ≡ other)
      → response_if render browse view media asking left for_people request what
      ≡ response_if render browse view media asking other for_people request what
  same_asked asking None same = refl
  same_asked asking (Some what) same = same_by asking what same

  pub edit_response_alike : (asking : Asking)
      → ((row : Reader) → row.owner ≡ true → row_of asking ≡ Some row → method_of request.method ≡ Put → left ≡ other)
      → edit_response render browse view media asking left for_people request
      ≡ edit_response render browse view media asking other for_people request
  unfolding edit_response
  edit_response_alike asking same =
      same_asked asking (edit_request_of browse request)
      (λ row owns asks takes. same row owns asks (request_puts browse request takes))
