-- The edit that goes with a response is at paths of pages.
use Rattle.std.proofs.Common.{◌≡◌, ℕ, List, Bool, true, false, refl}
use Rattle.std.specs.Prelude.{⊤, codes, Option, Some, None, IfSome, Result, Ok, Err, option_and_then, if◌then◌else◌}
use Rattle.std.specs.List.{join_with_byte}
use Rattle.doc_page_parts.specs.Paths.{is_path}
use Rattle.doc_media.specs.Media.{Beside}
use Rattle.doc_resolve.specs.WrittenPaths.{if_path, path_written as path_of_segments}
use Rattle.doc_store_readers.specs.Groups.{groups_of}
use Rattle.doc_store_readers.specs.Sites.{View}
use Rattle.doc_store_readers.specs.declared.groups.GroupsError.{GroupsError}
use Rattle.doc_store_readers.specs.declared.reader.Reader.{Reader}
use Rattle.doc_http.specs.declared.request.Request.{Request}
use Rattle.doc_http_targets.specs.Queries.{parameter}
use Rattle.doc_http_targets.specs.Targets.{Route, route_of}
use Rattle.doc_http_targets.specs.Targets as routes
use Rattle.doc_http_targets.specs.WrittenPaths.{path_written}
use Rattle.doc_hub_replies.specs.Replies.{Renders, Response, delete_at, edit_at, edit_page, edited, has_room, method_of}
use Rattle.doc_hub_replies.specs.Replies.{on_route, only_reply, put_at, put_by, put_page, reads, refused, reply_at, response_to}
use Rattle.doc_hub_replies.specs.Edit.{Edit}
use Rattle.doc_hub_replies.specs.Edit.TheVariants as edits
use Rattle.doc_hub_replies.specs.Method.{Method}
use Rattle.doc_hub_replies.specs.Method.TheVariants.{Get, Head, Put, Delete, Post, Other}

-- no edit, or one at paths of pages
abbrev pub AtPaths : Option Edit → Type 0
AtPaths None = ⊤
AtPaths (Some (edits.Put path groups)) = is_path path ≡ true
AtPaths (Some (edits.Regroup path groups)) = is_path path ≡ true
AtPaths (Some (edits.Move from to)) = (is_path from ≡ true) × (is_path to ≡ true)
AtPaths (Some (edits.Remove path)) = is_path path ≡ true

-- ---- what a request writes

abbrev pub IsPath : Option (List ℕ) → Type 0
IsPath path = IfSome path (λ p. is_path p ≡ true)

if_is_path : (text : List ℕ) (t : Bool) → is_path text ≡ t → IsPath (if t then Some text else None)
if_is_path text true is = is
if_is_path text false is = tt

joined_is_path : (texts : Option (List (List ℕ))) → IsPath (option_and_then (λ l. if_path (join_with_byte 47 l)) texts)
joined_is_path None = tt
joined_is_path (Some texts) = if_is_path (join_with_byte 47 texts) (is_path (join_with_byte 47 texts)) refl

pub written_is_path : (text : List ℕ) → IsPath (path_written text)
unfolding path_written path_of_segments
written_is_path text = joined_is_path _

-- ---- responses

either : (test : Bool) (one other : Response) → AtPaths one.edit → AtPaths other.edit → AtPaths (if test then one else other).edit
either true one other at also = at
either false one other at also = also

module _ (view : View) (left : Bool) where
  put_at_path : (path : Option (List ℕ)) (groups : Result (List (List ℕ)) GroupsError) (text : List ℕ) → IsPath path
      → AtPaths (put_at view left path groups text).edit
  put_at_path None groups text is = tt
  put_at_path (Some path) (Err e) text is = tt
  put_at_path (Some path) (Ok groups) text is = either _ (put_page view left path groups text) (refused 400)
      (either (has_room view left path text) (edited _ (edits.Put path groups)) (refused 507) is tt) tt

  removal_at_path : (path : Option (List ℕ)) → IsPath path → AtPaths (delete_at view path).edit
  removal_at_path None is = tt
  removal_at_path (Some path) is = either _ (edited 204 (edits.Remove path)) (refused 404) is tt

  page_at_path : (owner : Bool) (rest : List ℕ) (request : Request) (method : Method)
      → AtPaths (edit_page view owner left rest request method).edit
  page_at_path owner rest request Get = tt
  page_at_path owner rest request Head = tt
  page_at_path owner rest request Put = either owner (put_by view left rest request) (refused 403)
      (put_at_path (path_written rest) (groups_of (parameter request.target (codes "groups"))) request.body (written_is_path rest)) tt
  page_at_path owner rest request Delete = either owner (delete_at view (path_written rest)) (refused 403)
      (removal_at_path (path_written rest) (written_is_path rest)) tt
  page_at_path owner rest request Post = tt
  page_at_path owner rest request Other = tt

  route_at_path : (owner : Bool) (route : Route) (request : Request) (method : Method)
      → AtPaths (edit_at view owner left route request method).edit
  route_at_path owner (routes.Page rest) request method = page_at_path owner rest request method
  route_at_path owner (routes.Backlinks rest) request method = tt
  route_at_path owner routes.Contents request method = tt
  route_at_path owner routes.Search request method = tt
  route_at_path owner routes.Broken request method = tt

  found_at_path : (render : Renders) (media : Beside) (owner : Bool) (route : Option Route) (request : Request)
      → AtPaths (on_route render view media owner left route request).edit
  found_at_path render media owner None request = tt
  found_at_path render media owner (Some route) request =
      let method : Method = method_of request.method in
      either (reads method) (only_reply (reply_at render view media route request)) (edit_at view owner left route request method) tt
      (route_at_path owner route request method)

pub response_at_paths : (render : Renders) (view : View) (media : Beside) (reader : Option Reader) (left : Bool) (request : Request)
    → AtPaths (response_to render view media reader left request).edit
response_at_paths render view media None left request = tt
response_at_paths render view media (Some reader) left request =
    found_at_path view left render media reader.owner (route_of request.target) request
