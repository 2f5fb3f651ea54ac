-- What a request asks of the source of a page, by its target and its method. All of this is this project's choice.
use Rattle.std.specs.Prelude.{ℕ, List, Option, Some, None, if◌then◌else◌}
use Rattle.doc_http.specs.declared.request.Request.{Request}
use Rattle.doc_http_replies.specs.declared.reply.Allow.TheVariants as resources
use Rattle.doc_http_targets.specs.EditTargets.{EditRoute, edit_route_of}
use Rattle.doc_http_targets.specs.EditTargets as edit_routes
use Rattle.doc_http_targets.specs.Targets.{Route, route_of}
use Rattle.doc_http_targets.specs.Targets as routes
use Rattle.doc_people.specs.declared.settings.Browse.{Browse}
use Rattle.doc_hub_people.specs.Replies.{method_of}
use Rattle.doc_hub_people.specs.Method.{Method}
use Rattle.doc_hub_people.specs.Method.TheVariants.{Get, Head, Put, Delete, Post, Other}
use Rattle.doc_hub_editing_refusals.specs.Asked.{EditRequest, ReadSource, PutSource, PutPage, Remove, Regroup, Move, Open, Preview}
use Rattle.doc_hub_editing_refusals.specs.Asked.{NotAllowed}

-- ---- by the route and the method

abbrev pub at_source : List ℕ → Method → EditRequest
at_source rest Get = ReadSource rest
at_source rest Head = ReadSource rest
at_source rest Put = PutSource rest
at_source rest Delete = Remove rest
at_source rest Post = NotAllowed resources.Page
at_source rest Other = NotAllowed resources.Page

-- what is only written
abbrev pub if_put : EditRequest → Method → EditRequest
if_put asked Put = asked
if_put asked method = NotAllowed resources.Write

-- what is only read
abbrev pub if_read : EditRequest → Method → EditRequest
if_read asked Get = asked
if_read asked Head = asked
if_read asked method = NotAllowed resources.Read

-- what texts are sent to
abbrev pub if_posted : EditRequest → Method → EditRequest
if_posted asked Post = asked
if_posted asked method = NotAllowed resources.Post

abbrev pub at_edit_route : EditRoute → Method → EditRequest
at_edit_route (edit_routes.Source rest) method = at_source rest method
at_edit_route (edit_routes.Groups rest) method = if_put (Regroup rest) method
at_edit_route (edit_routes.Move rest) method = if_put (Move rest) method
at_edit_route (edit_routes.Edit rest) method = if_read (Open rest) method
at_edit_route (edit_routes.Preview rest) method = if_posted (Preview rest) method

-- at the page itself the methods that edit
abbrev pub at_page : List ℕ → Method → Option EditRequest
at_page rest Put = Some (PutPage rest)
at_page rest Delete = Some (Remove rest)
at_page rest method = None

abbrev pub at_route : Option Route → Method → Option EditRequest
at_route None method = None
at_route (Some (routes.Page rest)) method = at_page rest method
at_route (Some route) method = None

-- ---- of a request

abbrev pub asked_by : Option EditRoute → Option Route → Method → Option EditRequest
asked_by (Some route) other method = Some (at_edit_route route method)
asked_by None other method = at_route other method

-- where pages are edited so
abbrev pub edit_request_of : Browse → Request → Option EditRequest
edit_request_of browse request =
    if browse.editing then asked_by (edit_route_of request.target) (route_of request.target) (method_of request.method) else None
