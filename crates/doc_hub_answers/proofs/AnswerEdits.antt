-- The edit that goes with an answer can be made: a put of a text that is UTF-8 and fits, or a removal of a page that stands.
use Rattle.std.proofs.Common.{◌≡◌, ℕ, List, Bool, true, false, refl, sym, ◌∙◌}
use Rattle.std.specs.Prelude.{codes, is_some, Option, Some, None, Result, Ok, Err, if◌then◌else◌}
use Rattle.std.specs.Str.{is_utf8}
use Rattle.doc_store_readers.specs.Groups.{groups_of}
use Rattle.doc_store_readers.specs.Sites.{page_at, view_of}
use Rattle.doc_store.specs.Store.{StoreState}
use Rattle.doc_store_readers.specs.declared.groups.GroupsError.{GroupsError}
use Rattle.doc_store_readers.specs.declared.reader.Reader.{Reader}
use Rattle.doc_http_replies.specs.declared.reply.Reply.{Reply}
use Rattle.doc_http.specs.declared.request.Request.{Request}
use Rattle.doc_http_targets.specs.Queries.{parameter}
use Rattle.doc_http_targets.specs.Targets.{Route, route_of}
use Rattle.doc_http_targets.specs.Targets as routes
use Rattle.doc_http_targets.specs.WrittenPaths.{path_written}
use Rattle.doc_hub_answers.specs.Edits.{CanBeMade, puts_taken}
use Rattle.doc_media.specs.Media.{Beside}
use Rattle.doc_hub_answers.specs.Replies.{Renders, Response, at_route, delete_at, edit_at, edit_page, edited, has_room, method_of}
use Rattle.doc_hub_answers.specs.Replies.{on_route, only_reply, put_at, put_by, put_page, reads, refused, reply_at, response_to}
use Rattle.doc_hub_answers.specs.declared.method.Method.{Method}
use Rattle.doc_hub_answers.specs.declared.method.Method.TheVariants.{Get, Head, Put, Delete, Post, Other}
use Rattle.doc_hub_answers.specs.declared.edit.Edit.TheVariants as edits
use Rattle.doc_hub_answers.proofs.OwnerSteps.{owner_fits, owner_stands}

module _ (takes : Bool) (store : StoreState) (reader : Reader) where
  abbrev Can : List ℕ → Response → Type 0
  Can text response = CanBeMade store text response.edit

  -- ---- what an owner asks for

  page_can : (path : List ℕ) (groups : List (List ℕ)) (text : List ℕ) (code : ℕ) (room : Bool) → reader.owner ≡ true → is_utf8 text ≡ true
      → has_room (view_of store.site (Some reader)) (puts_taken takes store.puts) path text ≡ room
      → Can text (if room then edited code (edits.Put path groups) else refused 507)
  page_can path groups text code true owns utf8 is = (utf8, owner_fits takes store reader path text owns is)
  page_can path groups text code false owns utf8 is = tt

  text_can : (path : List ℕ) (groups : List (List ℕ)) (text : List ℕ) (utf8 : Bool) → reader.owner ≡ true → is_utf8 text ≡ utf8
      → Can text (if utf8 then put_page (view_of store.site (Some reader)) (puts_taken takes store.puts) path groups text else refused 400)
  text_can path groups text true owns is = page_can path groups text _ _ owns is refl
  text_can path groups text false owns is = tt

  put_can : (path : Option (List ℕ)) (groups : Result (List (List ℕ)) GroupsError) (text : List ℕ) → reader.owner ≡ true
      → Can text (put_at (view_of store.site (Some reader)) (puts_taken takes store.puts) path groups text)
  put_can None groups text owns = tt
  put_can (Some path) (Err e) text owns = tt
  put_can (Some path) (Ok groups) text owns = text_can path groups text _ owns refl

  removal_can : (path text : List ℕ) (stands : Bool) → reader.owner ≡ true
      → is_some (page_at (view_of store.site (Some reader)).pages path) ≡ stands
      → Can text (if stands then edited 204 (edits.Remove path) else refused 404)
  removal_can path text true owns is = sym (owner_stands store.site reader path owns) ∙ is
  removal_can path text false owns is = tt

  delete_can : (path : Option (List ℕ)) (text : List ℕ) → reader.owner ≡ true → Can text (delete_at (view_of store.site (Some reader)) path)
  delete_can None text owns = tt
  delete_can (Some path) text owns = removal_can path text _ owns refl

  -- ---- what any reader asks for

  put_if : (rest : List ℕ) (request : Request) (owner : Bool) → reader.owner ≡ owner
      → Can request.body (if owner then put_by (view_of store.site (Some reader))
      (puts_taken takes store.puts) rest request else refused 403)
  put_if rest request true owns = put_can (path_written rest) (groups_of (parameter request.target (codes "groups"))) request.body owns
  put_if rest request false owns = tt

  delete_if : (rest : List ℕ) (request : Request) (owner : Bool) → reader.owner ≡ owner
      → Can request.body (if owner then delete_at (view_of store.site (Some reader)) (path_written rest) else refused 403)
  delete_if rest request true owns = delete_can (path_written rest) request.body owns
  delete_if rest request false owns = tt

  page_can_be : (rest : List ℕ) (request : Request) (method : Method)
      → Can request.body (edit_page (view_of store.site (Some reader)) reader.owner (puts_taken takes store.puts) rest request method)
  page_can_be rest request Get = tt
  page_can_be rest request Head = tt
  page_can_be rest request Put = put_if rest request reader.owner refl
  page_can_be rest request Delete = delete_if rest request reader.owner refl
  page_can_be rest request Post = tt
  page_can_be rest request Other = tt

  edit_can : (route : Route) (request : Request) (method : Method)
      → Can request.body (edit_at (view_of store.site (Some reader)) reader.owner (puts_taken takes store.puts) route request method)
  edit_can (routes.Page rest) request method = page_can_be rest request method
  edit_can (routes.Backlinks rest) request method = tt
  edit_can routes.Contents request method = tt
  edit_can routes.Search request method = tt
  edit_can routes.Broken request method = tt

  if_reads : (reply : Reply) (edit : Response) (text : List ℕ) (reading : Bool) → Can text edit
      → Can text (if reading then only_reply reply else edit)
  if_reads reply edit text true can = tt
  if_reads reply edit text false can = can

  at_can : (render : Renders) (media : Beside) (route : Route) (request : Request) (method : Method)
      → Can request.body (at_route render (view_of store.site (Some reader)) media reader.owner
      (puts_taken takes store.puts) route request method)
  at_can render media route request method =
      if_reads (reply_at render (view_of store.site (Some reader)) media route request) _ request.body (reads method)
      (edit_can route request method)

  route_can : (render : Renders) (media : Beside) (route : Option Route) (request : Request)
      → Can request.body (on_route render (view_of store.site (Some reader)) media reader.owner (puts_taken takes store.puts) route request)
  route_can render media None request = tt
  route_can render media (Some route) request = at_can render media route request (method_of request.method)

-- the edit that goes with a response can be made
pub response_can : (takes : Bool) (render : Renders) (media : Beside) (store : StoreState) (reader : Option Reader) (request : Request)
    → CanBeMade store request.body (response_to render (view_of store.site reader) media reader (puts_taken takes store.puts) request).edit
response_can takes render media store None request = tt
response_can takes render media store (Some reader) request = route_can takes store reader render media (route_of request.target) request
