-- What a request asks that media may have a part in, by its target and its method. All of this is this project's choice.
use Rattle.std.specs.Prelude.{List, ℕ, Option, Some, None, option_map, if◌then◌else◌}
use Rattle.doc_http.specs.declared.request.Request.{Request}
use Rattle.doc_http_targets.specs.Targets.{Route, route_of}
use Rattle.doc_http_targets.specs.Targets as routes
use Rattle.doc_people.specs.declared.settings.Browse.{Browse}
use Rattle.doc_hub_editing.specs.Replies.{method_of, reads}
use Rattle.doc_hub_editing.specs.Method.{Method}
use Rattle.doc_hub_editing_refusals.specs.Asked.{EditRequest}
use Rattle.doc_hub_editing.specs.EditRequests.{at_page, edit_request_of}

-- to read what stands at a path, or an edit, or what serves one. REST is as the target writes it.
pub data MediaRequest : Type 0 where
  Read : List ℕ → MediaRequest
  Edit : EditRequest → MediaRequest

-- at a page the methods that read and those that edit
abbrev pub at_page_or_medium : List ℕ → Method → Option MediaRequest
at_page_or_medium rest method = if reads method then Some (Read rest) else option_map Edit (at_page rest method)

abbrev pub at_route : Option Route → Method → Option MediaRequest
at_route None method = None
at_route (Some (routes.Page rest)) method = at_page_or_medium rest method
at_route (Some route) method = None

-- a request that edits by the settings, or else by its route
abbrev pub asked_by : Option EditRequest → Option Route → Method → Option MediaRequest
asked_by (Some what) route method = Some (Edit what)
asked_by None route method = at_route route method

-- what a request edits by the settings for people, where there are some
abbrev pub edit_asked : Option Browse → Request → Option EditRequest
edit_asked None request = None
edit_asked (Some browse) request = edit_request_of browse request

abbrev pub media_request_of : Option Browse → Request → Option MediaRequest
media_request_of browse request = asked_by (edit_asked browse request) (route_of request.target) (method_of request.method)
