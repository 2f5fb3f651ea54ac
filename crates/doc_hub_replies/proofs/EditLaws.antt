-- Requests that edit: to whom they are answered, and what makes no edit of them.
use Rattle.std.proofs.Common.{◌≡◌, Bool, true, false, List, ℕ, refl, ap, sym, ◌∙◌}
use Rattle.std.specs.Prelude.{Option, Some, None, ⊤, if◌then◌else◌}
use Rattle.doc_http.specs.declared.request.Request.{Request}
use Rattle.doc_http_targets.specs.EditTargets.{EditRoute, edit_route_of}
use Rattle.doc_http_targets.specs.EditTargets as edit_routes
use Rattle.doc_http_targets.specs.Targets.{Route, route_of}
use Rattle.doc_http_targets.specs.Targets as routes
use Rattle.doc_http_targets.specs.WrittenPaths.{path_written}
use Rattle.doc_media.specs.Media.{Beside}
use Rattle.doc_people.specs.declared.settings.Browse.{Browse}
use Rattle.doc_people.specs.declared.settings.Offers.{Offers}
use Rattle.doc_store_readers.specs.Pages.{Page}
use Rattle.doc_store_readers.specs.Sites.{View, goal_in, page_at}
use Rattle.doc_store_readers.specs.declared.reader.Reader.{Reader}
use Rattle.doc_hub_media.specs.Replies.{Renders, method_of, reads}
use Rattle.doc_hub_media.specs.Method.{Method}
use Rattle.doc_hub_media.specs.Method.TheVariants.{Get, Head, Put, Delete, Post, Other}
use Rattle.doc_hub_asking.specs.Asking.{Asking, is_guest, owns, row_of}
use Rattle.doc_hub_asking.specs.Asking as asked
use Rattle.doc_hub_media.specs.PeopleLaws.{OwnsNothing}
use Rattle.doc_hub_media.specs.PeopleAnswers.{offers_for}
use Rattle.doc_hub_editing_refusals.specs.Asked.{EditRequest}
use Rattle.doc_hub_editing_refusals.specs.Asked as requests
use Rattle.doc_hub_media.specs.EditAnswers.{begins_path, by_entry, by_other, by_owner, edit_response, folder_begun, forbidden, form_at}
use Rattle.doc_hub_media.specs.EditAnswers.{is_preview, new_form, not_found, open_form, read_source, response_if}
use Rattle.doc_hub_media.specs.EditAnswers.{shows_preview, source_or_goal, unauthorized}
use Rattle.doc_hub_media.specs.EditRequests.{asked_by, at_edit_route, at_route, edit_request_of}
use Rattle.doc_hub_media.specs.EditResponses.{EditingReply, EditingResponse, unless, unmet_by}

-- ---- to whom they are answered

module _ (render : Renders) (browse : Browse) (view : View) (beside : Beside) (left people : Bool) (request : Request) where
  abbrev by : Asking → Option EditRequest → Option EditingResponse
  by asking what = response_if render browse view beside asking left people request what

  nobody_by : (what : Option EditRequest) → by asked.Nobody what ≡ None
  nobody_by None = refl
  nobody_by (Some what) = refl

  -- nobody who may read isn't answered so
  pub nobody_edits : edit_response render browse view beside asked.Nobody left people request ≡ None
  unfolding edit_response
  nobody_edits = nobody_by (edit_request_of browse request)

  -- nor is a request that doesn't edit
  pub nothing_is_asked : (asking : Asking) → edit_request_of browse request ≡ None
      → edit_response render browse view beside asking left people request ≡ None
  unfolding edit_response
  nothing_is_asked asking none = ap (by asking) none

  -- whoever has no entry is nobody
  pub without_entry : (asking : Asking) → None ≡ row_of asking → edit_response render browse view beside asking left people request ≡ None
  without_entry asked.Nobody none = nobody_edits
  without_entry (asked.Guest row) none = cc
  without_entry (asked.Known row) none = cc

  -- by the entry of who asks, where there is one
  abbrev entered : Bool → EditRequest → Option Reader → Option EditingResponse
  entered guest what None = None
  entered guest what (Some row) = Some (by_entry render browse view beside guest row left people request what)

  entry_by : (asking : Asking) (what : EditRequest) → by asking (Some what) ≡ entered (is_guest asking) what (row_of asking)
  entry_by asked.Nobody what = refl
  entry_by (asked.Guest row) what = refl
  entry_by (asked.Known row) what = refl

  -- whoever has one is answered by it
  pub with_entry : (asking : Asking) (row : Reader) (what : EditRequest) → Some row ≡ row_of asking
      → edit_request_of browse request ≡ Some what
      → edit_response render browse view beside asking left people request
      ≡ Some (by_entry render browse view beside (is_guest asking) row left people request what)
  unfolding edit_response
  with_entry asking row what some is =
      ap (by asking) is ∙ entry_by asking what ∙ ap (entered (is_guest asking) what) (sym some)

-- ---- requests that read

-- what reads, or isn't allowed
abbrev Reads : EditRequest → Type 0
Reads (requests.ReadSource rest) = ⊤
Reads (requests.PutSource rest) = ⊥
Reads (requests.PutPage rest) = ⊥
Reads (requests.Remove rest) = ⊥
Reads (requests.Regroup rest) = ⊥
Reads (requests.Move rest) = ⊥
Reads (requests.Open rest) = ⊤
Reads (requests.Preview rest) = ⊥
Reads (requests.NotAllowed resource) = ⊤

-- the same, or nothing
abbrev AllReads : Option EditRequest → Type 0
AllReads None = ⊤
AllReads (Some what) = Reads what

reads_get : (route : EditRoute) → Reads (at_edit_route route Get)
reads_get (edit_routes.Source rest) = tt
reads_get (edit_routes.Groups rest) = tt
reads_get (edit_routes.Move rest) = tt
reads_get (edit_routes.Edit rest) = tt
reads_get (edit_routes.Preview rest) = tt

reads_head : (route : EditRoute) → Reads (at_edit_route route Head)
reads_head (edit_routes.Source rest) = tt
reads_head (edit_routes.Groups rest) = tt
reads_head (edit_routes.Move rest) = tt
reads_head (edit_routes.Edit rest) = tt
reads_head (edit_routes.Preview rest) = tt

reads_at : (route : Option Route) (method : Method) → reads method ≡ true → AllReads (at_route route method)
reads_at None method is = tt
reads_at (Some (routes.Page rest)) Get is = tt
reads_at (Some (routes.Page rest)) Head is = tt
reads_at (Some (routes.Page rest)) Put is = cc
reads_at (Some (routes.Page rest)) Delete is = cc
reads_at (Some (routes.Page rest)) Post is = tt
reads_at (Some (routes.Page rest)) Other is = tt
reads_at (Some (routes.Backlinks rest)) method is = tt
reads_at (Some routes.Contents) method is = tt
reads_at (Some routes.Search) method is = tt
reads_at (Some routes.Broken) method is = tt

asked_reads : (route : Option EditRoute) (other : Option Route) (method : Method) → reads method ≡ true
    → AllReads (asked_by route other method)
asked_reads (Some route) other Get is = reads_get route
asked_reads (Some route) other Head is = reads_head route
asked_reads (Some route) other Put is = cc
asked_reads (Some route) other Delete is = cc
asked_reads (Some route) other Post is = cc
asked_reads (Some route) other Other is = cc
asked_reads None other method is = reads_at other method is

if_edited : (editing : Bool) (what : Option EditRequest) → AllReads what → AllReads (if editing then what else None)
if_edited true what read = read
if_edited false what read = tt

request_reads : (browse : Browse) (request : Request) → reads (method_of request.method) ≡ true → AllReads (edit_request_of browse request)
request_reads browse request is =
    if_edited browse.editing _ (asked_reads (edit_route_of request.target) (route_of request.target) (method_of request.method) is)

-- ---- responses without an edit

-- the edit of a response, where there is one
abbrev pub EditsNothing : Option EditingResponse → Type 0
EditsNothing None = ⊤
EditsNothing (Some response) = response.edit ≡ None

unless_alone : (reply : Option EditingReply) (done : EditingResponse) → done.edit ≡ None → (unless reply done).edit ≡ None
unless_alone None done none = none
unless_alone (Some reply) done none = refl

source_alone : (stands : Option Page) (goal : Option (List ℕ)) (request : Request) → (source_or_goal stands goal request).edit ≡ None
source_alone None goal request = refl
source_alone (Some page) goal request = unless_alone (unmet_by true request (Some page)) _ refl

read_alone : (view : View) (path : Option (List ℕ)) (request : Request) → (read_source view path request).edit ≡ None
read_alone view None request = refl
read_alone view (Some path) request = source_alone (page_at view.pages path) (goal_in view path) request

module _ (render : Renders) (browse : Browse) (offers : Offers) (view : View) where
  absent_alone : (people : Bool) → (not_found render browse offers view people).edit ≡ None
  absent_alone true = refl
  absent_alone false = refl

  form_alone : (people : Bool) (path : Option (List ℕ)) → (form_at render browse offers view people path).edit ≡ None
  form_alone people None = absent_alone people
  form_alone people (Some path) = refl

  new_alone : (people : Bool) (folder : Option (List ℕ)) → (new_form render browse offers view people folder).edit ≡ None
  new_alone people None = absent_alone people
  new_alone people (Some folder) = refl

  open_by : (people begins : Bool) (folder path : Option (List ℕ))
      → (let response : EditingResponse = (if begins then new_form render browse offers view people folder
      else form_at render browse offers view people path) in response.edit ≡ None)
  open_by people true folder path = new_alone people folder
  open_by people false folder path = form_alone people path

  open_alone : (people : Bool) (rest : List ℕ) → (open_form render browse offers view people rest).edit ≡ None
  open_alone people rest = open_by people (begins_path rest) (folder_begun rest) (path_written rest)

  pub owner_alone : (beside : Beside) (left people : Bool) (request : Request) (what : EditRequest) → Reads what
      → (by_owner render browse offers view beside left people request what).edit ≡ None
  owner_alone beside left people request (requests.ReadSource rest) read = read_alone view (path_written rest) request
  owner_alone beside left people request (requests.PutSource rest) read = absurd read
  owner_alone beside left people request (requests.PutPage rest) read = absurd read
  owner_alone beside left people request (requests.Remove rest) read = absurd read
  owner_alone beside left people request (requests.Regroup rest) read = absurd read
  owner_alone beside left people request (requests.Move rest) read = absurd read
  owner_alone beside left people request (requests.Open rest) read = open_alone people rest
  owner_alone beside left people request (requests.Preview rest) read = absurd read
  owner_alone beside left people request (requests.NotAllowed resource) read = refl

  unauthorized_alone : (people : Bool) → (unauthorized browse people).edit ≡ None
  unauthorized_alone true = refl
  unauthorized_alone false = refl

  forbidden_alone : (people : Bool) (what : EditRequest) → (forbidden render browse offers view people what).edit ≡ None
  forbidden_alone true (requests.Open rest) = refl
  forbidden_alone false (requests.Open rest) = refl
  forbidden_alone people what = refl

  pub other_alone : (guest people : Bool) (what : EditRequest) → (by_other render browse offers view guest people what).edit ≡ None
  other_alone guest people (requests.NotAllowed resource) = refl
  other_alone true people what = unauthorized_alone people
  other_alone false people what = forbidden_alone people what

module _ (render : Renders) (browse : Browse) (view : View) (beside : Beside) (left people : Bool) (request : Request) where
  reading_by : (offers : Offers) (guest owner : Bool) (what : EditRequest) → Reads what
      → (let response : EditingResponse = (if owner then by_owner render browse offers view beside left people request what
      else by_other render browse offers view guest people what) in response.edit ≡ None)
  reading_by offers guest true what read = owner_alone render browse offers view beside left people request what read
  reading_by offers guest false what read = other_alone render browse offers view guest people what

  other_by : (offers : Offers) (guest owner : Bool) (what : EditRequest) → owner ≡ false
      → (let response : EditingResponse = (if owner then by_owner render browse offers view beside left people request what
      else by_other render browse offers view guest people what) in response.edit ≡ None)
  other_by offers guest true what none = cc
  other_by offers guest false what none = other_alone render browse offers view guest people what

  reading_edits_nothing : (asking : Asking) (what : Option EditRequest) → AllReads what
      → EditsNothing (response_if render browse view beside asking left people request what)
  reading_edits_nothing asking None read = tt
  reading_edits_nothing asked.Nobody (Some what) read = tt
  reading_edits_nothing (asked.Guest row) (Some what) read = reading_by (offers_for browse true row.owner) true row.owner what read
  reading_edits_nothing (asked.Known row) (Some what) read = reading_by (offers_for browse false row.owner) false row.owner what read

  -- what reads edits nothing
  pub who_reads_edits_nothing : (asking : Asking) → reads (method_of request.method) ≡ true
      → EditsNothing (edit_response render browse view beside asking left people request)
  unfolding edit_response
  who_reads_edits_nothing asking is =
      reading_edits_nothing asking (edit_request_of browse request) (request_reads browse request is)

  guest_by : (row : Reader) (what : Option EditRequest) → row.owner ≡ false
      → EditsNothing (response_if render browse view beside (asked.Guest row) left people request what)
  guest_by row None none = tt
  guest_by row (Some what) none = other_by (offers_for browse true row.owner) true row.owner what none

  -- nor does a guest
  pub guests_edit_nothing_so : (asking : Asking) → OwnsNothing asking → is_guest asking ≡ true
      → EditsNothing (edit_response render browse view beside asking left people request)
  unfolding edit_response
  guests_edit_nothing_so asked.Nobody none is = cc
  guests_edit_nothing_so (asked.Guest row) none is = guest_by row (edit_request_of browse request) none
  guests_edit_nothing_so (asked.Known row) none is = cc

-- ---- previews

module _ (request : Request) where
  reading_shows_none : (owner : Bool) (what : Option EditRequest) → AllReads what → shows_preview owner request what ≡ false
  reading_shows_none owner None read = refl
  reading_shows_none owner (Some (requests.ReadSource rest)) read = refl
  reading_shows_none owner (Some (requests.PutSource rest)) read = refl
  reading_shows_none owner (Some (requests.PutPage rest)) read = refl
  reading_shows_none owner (Some (requests.Remove rest)) read = refl
  reading_shows_none owner (Some (requests.Regroup rest)) read = refl
  reading_shows_none owner (Some (requests.Move rest)) read = refl
  reading_shows_none owner (Some (requests.Open rest)) read = refl
  reading_shows_none owner (Some (requests.Preview rest)) read = absurd read
  reading_shows_none owner (Some (requests.NotAllowed resource)) read = refl

  nobody_is_shown_one : (what : Option EditRequest) → shows_preview false request what ≡ false
  nobody_is_shown_one (Some (requests.Preview rest)) = refl
  nobody_is_shown_one what = refl

  module _ (browse : Browse) where
    -- what reads shows no preview
    pub who_reads_is_shown_none : (asking : Asking) → reads (method_of request.method) ≡ true → is_preview browse asking request ≡ false
    who_reads_is_shown_none asking is =
        reading_shows_none (owns asking) (edit_request_of browse request) (request_reads browse request is)

    -- nor does what doesn't edit
    pub nothing_shows_none : (asking : Asking) → edit_request_of browse request ≡ None → is_preview browse asking request ≡ false
    nothing_shows_none asking none = ap (shows_preview (owns asking) request) none

    -- nor the answer to whoever has no entry
    pub without_entry_shows_none : (asking : Asking) → None ≡ row_of asking → is_preview browse asking request ≡ false
    without_entry_shows_none asked.Nobody none = nobody_is_shown_one (edit_request_of browse request)
    without_entry_shows_none (asked.Guest row) none = cc
    without_entry_shows_none (asked.Known row) none = cc

-- whether an entry is an owner's
abbrev owns_by : Option Reader → Bool
owns_by None = false
owns_by (Some row) = row.owner

owns_is : (asking : Asking) → owns asking ≡ owns_by (row_of asking)
owns_is asked.Nobody = refl
owns_is (asked.Guest row) = refl
owns_is (asked.Known row) = refl

-- whether one is shown to whoever has an entry
pub with_entry_shows : (browse : Browse) (asking : Asking) (request : Request) (row : Reader) (what : EditRequest)
    → Some row ≡ row_of asking → edit_request_of browse request ≡ Some what
    → shows_preview row.owner request (Some what) ≡ is_preview browse asking request
with_entry_shows browse asking request row what some is =
    sym (λ i. shows_preview ((owns_is asking ∙ ap owns_by (sym some)) i) request (is i))
