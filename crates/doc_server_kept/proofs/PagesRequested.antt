-- The edit that goes with the response to a request beside the pages for people is as calls take it.
use Rattle.std.proofs.Common.{ℕ, List, Bool, true, false}
use Rattle.std.specs.Prelude.{codes, Option, Some, None, Result, Ok, Err, if◌then◌else◌}
use Rattle.doc_store_readers.specs.Groups.{groups_of}
use Rattle.doc_store_readers.specs.Sites.{View}
use Rattle.doc_store_readers.specs.declared.groups.GroupsError.{GroupsError}
use Rattle.doc_store_readers.specs.declared.reader.Reader.{Reader}
use Rattle.doc_media.specs.Media.{Beside}
use Rattle.doc_http.specs.declared.request.Request.{Request}
use Rattle.doc_http_targets.specs.Queries.{parameter}
use Rattle.doc_http_targets.specs.Targets.{Route, route_of}
use Rattle.doc_http_targets.specs.Targets as routes
use Rattle.doc_http_targets.specs.WrittenPaths.{path_written}
use Rattle.doc_hub.specs.Replies.{Renders, Response, delete_at, edit_at, edit_page, edited, has_room, method_of}
use Rattle.doc_hub.specs.Replies.{on_route, only_reply, put_at, put_by, put_page, reads, refused, reply_at, response_to}
use Rattle.doc_hub.specs.Edit.TheVariants as edits
use Rattle.doc_hub.specs.Method.{Method}
use Rattle.doc_hub.specs.Method.TheVariants.{Get, Head, Put, Delete, Post, Other}
use Rattle.doc_server_kept.proofs.PathsWritten.{AreGroups, IsPath, groups_are, written_is_path}
use Rattle.doc_server_kept.proofs.SitesOfCalls.{OfCalls}

either : (test : Bool) (one other : Response) → OfCalls one.edit → OfCalls other.edit → OfCalls (if test then one else other).edit
either true one other is also = is
either false one other is also = also

module _ (view : View) (left : Bool) where
  put_is : (path : Option (List ℕ)) (groups : Result (List (List ℕ)) GroupsError) (text : List ℕ) → IsPath path → AreGroups groups
      → OfCalls (put_at view left path groups text).edit
  put_is None groups text is are = tt
  put_is (Some path) (Err e) text is are = tt
  put_is (Some path) (Ok groups) text is are = either _ (put_page view left path groups text) (refused 400)
      (either (has_room view left path text) (edited _ (edits.Put path groups)) (refused 507) (is, are) tt) tt

  removal_is : (path : Option (List ℕ)) → IsPath path → OfCalls (delete_at view path).edit
  removal_is None is = tt
  removal_is (Some path) is = either _ (edited 204 (edits.Remove path)) (refused 404) is tt

  page_is : (owner : Bool) (rest : List ℕ) (request : Request) (method : Method)
      → OfCalls (edit_page view owner left rest request method).edit
  page_is owner rest request Get = tt
  page_is owner rest request Head = tt
  page_is owner rest request Put = either owner (put_by view left rest request) (refused 403)
      (put_is (path_written rest) (groups_of (parameter request.target (codes "groups"))) request.body (written_is_path rest)
      (groups_are (parameter request.target (codes "groups")))) tt
  page_is owner rest request Delete = either owner (delete_at view (path_written rest)) (refused 403)
      (removal_is (path_written rest) (written_is_path rest)) tt
  page_is owner rest request Post = tt
  page_is owner rest request Other = tt

  route_is : (owner : Bool) (route : Route) (request : Request) (method : Method)
      → OfCalls (edit_at view owner left route request method).edit
  route_is owner (routes.Page rest) request method = page_is owner rest request method
  route_is owner (routes.Backlinks rest) request method = tt
  route_is owner routes.Contents request method = tt
  route_is owner routes.Search request method = tt
  route_is owner routes.Broken request method = tt

  found_is : (render : Renders) (media : Beside) (owner : Bool) (route : Option Route) (request : Request)
      → OfCalls (on_route render view media owner left route request).edit
  found_is render media owner None request = tt
  found_is render media owner (Some route) request =
      let method : Method = method_of request.method in
      either (reads method) (only_reply (reply_at render view media route request)) (edit_at view owner left route request method) tt
      (route_is owner route request method)

pub response_is : (render : Renders) (view : View) (media : Beside) (reader : Option Reader) (left : Bool) (request : Request)
    → OfCalls (response_to render view media reader left request).edit
response_is render view media None left request = tt
response_is render view media (Some reader) left request = found_is view left render media reader.owner (route_of request.target) request
