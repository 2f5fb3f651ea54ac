-- Who asks by GET or HEAD edits nothing.
use Rattle.std.proofs.Common.{◌≡◌, ℕ, List, Bool, true, false, refl, ap, subst}
use Rattle.std.specs.Prelude.{Option, Some, None, if◌then◌else◌}
use Rattle.doc_store_readers.specs.Pages.{Page}
use Rattle.doc_store_readers.specs.Sites.{View, goal_in, page_at, view_of}
use Rattle.doc_store_readers.specs.declared.reader.Reader.{Reader}
use Rattle.doc_media.specs.Media.{Beside, beside_of}
use Rattle.doc_people.specs.declared.settings.Browse.{Browse}
use Rattle.doc_people.specs.declared.settings.Offers.{Offers}
use Rattle.doc_http.specs.declared.request.Request.{Request}
use Rattle.doc_http_targets.specs.EditTargets.{EditRoute, edit_route_of}
use Rattle.doc_http_targets.specs.EditTargets as edit_routes
use Rattle.doc_http_targets.specs.Targets.{Route, route_of}
use Rattle.doc_http_targets.specs.Targets as routes
use Rattle.doc_http_targets.specs.WrittenPaths.{path_written}
use Rattle.doc_hub.specs.Edits.{puts_taken}
use Rattle.doc_hub.specs.Replies.{Renders, Response, edit_at, method_of, on_route, only_reply, reads, reply_at, response_to}
use Rattle.doc_hub.specs.Edit.{Edit}
use Rattle.doc_hub.specs.Method.{Method}
use Rattle.doc_hub.specs.Method.TheVariants.{Get, Head, Put, Delete, Post, Other}
use Rattle.doc_hub.specs.Asking.{Asking}
use Rattle.doc_hub.specs.Asking as asked
use Rattle.doc_hub.specs.Asked.{EditRequest}
use Rattle.doc_hub.specs.Asked as requests
use Rattle.doc_hub.specs.Answers.{is_for_people}
use Rattle.doc_hub.specs.EditAnswers.{begins_path, by_entry, by_other, by_owner, edit_response, folder_begun, form_at, new_form}
use Rattle.doc_hub.specs.EditAnswers.{not_found, open_form, read_source, response_by, response_if, source_or_goal}
use Rattle.doc_hub.specs.EditRequests.{asked_by, at_edit_route}
use Rattle.doc_hub.specs.EditResponses.{EditingReply, EditingResponse, unless, unmet_by}
use Rattle.doc_hub.specs.PeopleAnswers.{offers_for}
use Rattle.doc_hub.specs.Worlds.{World, answer_in, asking_of, reader_of}
use Rattle.doc_hub.proofs.AnswerEdits.{HoldsFor, answer_holds}

-- there is no edit
abbrev IsNone : Option Edit → Type 0
IsNone edit = edit ≡ None

-- what holds of GET and of HEAD holds of each method that reads
by_reading : (P : Method → Type 0) (method : Method) → reads method ≡ true → P Get → P Head → P method
by_reading P Get is get head = get
by_reading P Head is get head = head
by_reading P Put is get head = absurd (cc)
by_reading P Delete is get head = absurd (cc)
by_reading P Post is get head = absurd (cc)
by_reading P Other is get head = absurd (cc)

-- ---- where pages are edited

-- HEAD asks for what GET asks for
as_get : (route : Option EditRoute) (other : Option Route) → asked_by route other Get ≡ asked_by route other Head
as_get (Some (edit_routes.Source rest)) other = refl
as_get (Some (edit_routes.Groups rest)) other = refl
as_get (Some (edit_routes.Move rest)) other = refl
as_get (Some (edit_routes.Edit rest)) other = refl
as_get (Some (edit_routes.Preview rest)) other = refl
as_get None None = refl
as_get None (Some (routes.Page rest)) = refl
as_get None (Some (routes.Backlinks rest)) = refl
as_get None (Some routes.Contents) = refl
as_get None (Some routes.Search) = refl
as_get None (Some routes.Broken) = refl

abbrev Alone : EditingResponse → Type 0
Alone response = IsNone response.edit

either : (test : Bool) (one other : EditingResponse) → Alone one → Alone other → Alone (if test then one else other)
either true one other alone also = alone
either false one other alone also = also

unless_alone : (against : Option EditingReply) (done : EditingResponse) → Alone done → Alone (unless against done)
unless_alone None done alone = alone
unless_alone (Some reply) done alone = refl

module _ (view : View) (request : Request) where
  source_alone : (page : Option Page) (goal : Option (List ℕ)) → Alone (source_or_goal page goal request)
  source_alone None goal = refl
  source_alone (Some page) goal = unless_alone (unmet_by true request (Some page)) _ refl

  read_alone : (path : Option (List ℕ)) → Alone (read_source view path request)
  read_alone None = refl
  read_alone (Some path) = source_alone (page_at view.pages path) (goal_in view path)

  module _ (render : Renders) (browse : Browse) (media : Beside) (left for_people : Bool) where
    module _ (offers : Offers) where
      none_alone : Alone (not_found render browse offers view for_people)
      none_alone = either for_people _ _ refl refl

      new_alone : (folder : Option (List ℕ)) → Alone (new_form render browse offers view for_people folder)
      new_alone None = none_alone
      new_alone (Some folder) = refl

      form_alone : (path : Option (List ℕ)) → Alone (form_at render browse offers view for_people path)
      form_alone None = none_alone
      form_alone (Some path) = refl

      open_alone : (rest : List ℕ) → Alone (open_form render browse offers view for_people rest)
      open_alone rest = either (begins_path rest) (new_form render browse offers view for_people (folder_begun rest))
          (form_at render browse offers view for_people (path_written rest)) (new_alone (folder_begun rest)) (form_alone (path_written rest))

      owner_alone : (route : EditRoute)
          → Alone (by_owner render browse offers view media left for_people request (at_edit_route route Get))
      owner_alone (edit_routes.Source rest) = read_alone (path_written rest)
      owner_alone (edit_routes.Groups rest) = refl
      owner_alone (edit_routes.Move rest) = refl
      owner_alone (edit_routes.Edit rest) = open_alone rest
      owner_alone (edit_routes.Preview rest) = refl

      other_alone : (guest : Bool) (what : EditRequest) → Alone (by_other render browse offers view guest for_people what)
      other_alone guest (requests.NotAllowed resource) = refl
      other_alone true what = either for_people _ _ refl refl
      other_alone false (requests.Open rest) = either for_people _ _ refl refl
      other_alone false what = refl

    entry_alone : (guest : Bool) (reader : Reader) (route : EditRoute)
        → Alone (by_entry render browse view media guest reader left for_people request (at_edit_route route Get))
    entry_alone guest reader route =
        let offers : Offers = offers_for browse guest reader.owner in
        let what : EditRequest = at_edit_route route Get in
        either reader.owner (by_owner render browse offers view media left for_people request what)
        (by_other render browse offers view guest for_people what) (owner_alone offers route) (other_alone offers guest what)

    asked_alone : (asking : Asking) (route : EditRoute)
        → HoldsFor IsNone (response_by render browse view media asking left for_people request (at_edit_route route Get))
    asked_alone asked.Nobody route = tt
    asked_alone (asked.Guest row) route = entry_alone true row route
    asked_alone (asked.Known row) route = entry_alone false row route

    module _ (asking : Asking) where
      abbrev by : Option EditRequest → Option EditingResponse
      by what = response_if render browse view media asking left for_people request what

      get_alone : (route : Option EditRoute) (other : Option Route) → HoldsFor IsNone (by (asked_by route other Get))
      get_alone (Some route) other = asked_alone asking route
      get_alone None None = tt
      get_alone None (Some (routes.Page rest)) = tt
      get_alone None (Some (routes.Backlinks rest)) = tt
      get_alone None (Some routes.Contents) = tt
      get_alone None (Some routes.Search) = tt
      get_alone None (Some routes.Broken) = tt

      asked_by_alone : (route : Option EditRoute) (other : Option Route) (method : Method) → reads method ≡ true
          → HoldsFor IsNone (by (asked_by route other method))
      asked_by_alone route other method is =
          by_reading (λ m. HoldsFor IsNone (by (asked_by route other m))) method is (get_alone route other)
          (subst (λ what. HoldsFor IsNone (by what)) (as_get route other) (get_alone route other))

      if_edited : (editing : Bool) (what : Option EditRequest) → HoldsFor IsNone (by what)
          → HoldsFor IsNone (by (if editing then what else None))
      if_edited true what alone = alone
      if_edited false what alone = tt

      edit_response_alone : reads (method_of request.method) ≡ true
          → HoldsFor IsNone (edit_response render browse view media asking left for_people request)
      unfolding edit_response
      edit_response_alone is =
          let route : Option EditRoute = edit_route_of request.target in
          let other : Option Route = route_of request.target in
          let method : Method = method_of request.method in
          if_edited browse.editing (asked_by route other method) (asked_by_alone route other method is)

-- ---- any other answer

module _ (render : Renders) (view : View) (media : Beside) (left : Bool) (request : Request)
    (is : reads (method_of request.method) ≡ true) where
  route_alone : (owner : Bool) (route : Option Route) → IsNone (on_route render view media owner left route request).edit
  route_alone owner None = refl
  route_alone owner (Some route) =
      let reply : Response = only_reply (reply_at render view media route request) in
      let other : Response = edit_at view owner left route request (method_of request.method) in
      ap (λ (reading : Bool). (let response : Response = (if reading then reply else other) in response.edit)) is

  response_alone : (reader : Option Reader) → IsNone (response_to render view media reader left request).edit
  response_alone None = refl
  response_alone (Some reader) = route_alone reader.owner (route_of request.target)

-- ---- the answer in a world

pub reading_edits_nothing : (render : Renders) (w : World) (request : Request) → reads (method_of request.method) ≡ true
    → (answer_in render w request).edit ≡ None
reading_edits_nothing render w request is =
    let view : View = view_of w.site (reader_of w request) in
    let media : Beside = beside_of w.media (reader_of w request) in
    let left : Bool = puts_taken w.takes_puts w.puts in
    answer_holds IsNone refl render view media (asking_of w request) left request
    (response_alone render view media left request is (reader_of w request))
    (λ browse. edit_response_alone view request render browse media left (is_for_people request) (asking_of w request) is) w.settings
