-- The responses to requests put pages or remove them, or edit nothing: none of them moves a page, or gives it other groups.
use Rattle.std.proofs.Common.{◌≡◌, ℕ, List, Bool, true, false, refl}
use Rattle.std.specs.Prelude.{codes, is_some, Option, Some, None, Result, Ok, Err, ⊤, if◌then◌else◌}
use Rattle.std.specs.Str.{is_utf8}
use Rattle.doc_http.specs.declared.request.Request.{Request}
use Rattle.doc_http_replies.specs.declared.reply.Reply.{Reply}
use Rattle.doc_http_targets.specs.Queries.{parameter}
use Rattle.doc_http_targets.specs.Targets.{Route, route_of}
use Rattle.doc_http_targets.specs.Targets as routes
use Rattle.doc_http_targets.specs.WrittenPaths.{path_written}
use Rattle.doc_store_readers.specs.Groups.{groups_of}
use Rattle.doc_store_readers.specs.Sites.{View, page_at}
use Rattle.doc_store_readers.specs.declared.groups.GroupsError.{GroupsError}
use Rattle.doc_store_readers.specs.declared.reader.Reader.{Reader}
use Rattle.doc_hub_answers.specs.Counts.{moves_of}
use Rattle.doc_hub_answers.specs.Replies.{Renders, Response, delete_at, edit_at, edit_page, edited, has_room, method_of}
use Rattle.doc_media.specs.Media.{Beside}
use Rattle.doc_hub_answers.specs.Replies.{on_route, only_reply, put_at, put_by, put_page, reads, refused, reply_at, response_to}
use Rattle.doc_hub_answers.specs.declared.edit.Edit.{Edit}
use Rattle.doc_hub_answers.specs.declared.edit.Edit.TheVariants as edits
use Rattle.doc_hub_answers.specs.declared.method.Method.{Method}
use Rattle.doc_hub_answers.specs.declared.method.Method.TheVariants.{Get, Head, Put, Delete, Post, Other}

-- a put, a removal, or nothing
abbrev pub PutsOrRemoves : Option Edit → Type 0
PutsOrRemoves None = ⊤
PutsOrRemoves (Some (edits.Put path groups)) = ⊤
PutsOrRemoves (Some (edits.Regroup path groups)) = ⊥
PutsOrRemoves (Some (edits.Move from to)) = ⊥
PutsOrRemoves (Some (edits.Remove path)) = ⊤

abbrev Does : Response → Type 0
Does response = PutsOrRemoves response.edit

module _ (view : View) (owner left : Bool) where
  -- ---- what an owner asks for

  page_does : (path : List ℕ) (groups : List (List ℕ)) (code : ℕ) (room : Bool)
      → Does (if room then edited code (edits.Put path groups) else refused 507)
  page_does path groups code true = tt
  page_does path groups code false = tt

  text_does : (path : List ℕ) (groups : List (List ℕ)) (text : List ℕ) (utf8 : Bool)
      → Does (if utf8 then put_page view left path groups text else refused 400)
  text_does path groups text true = page_does path groups _ (has_room view left path text)
  text_does path groups text false = tt

  put_does : (path : Option (List ℕ)) (groups : Result (List (List ℕ)) GroupsError) (text : List ℕ)
      → Does (put_at view left path groups text)
  put_does None groups text = tt
  put_does (Some path) (Err e) text = tt
  put_does (Some path) (Ok groups) text = text_does path groups text (is_utf8 text)

  removal_does : (path : List ℕ) (stands : Bool) → Does (if stands then edited 204 (edits.Remove path) else refused 404)
  removal_does path true = tt
  removal_does path false = tt

  delete_does : (path : Option (List ℕ)) → Does (delete_at view path)
  delete_does None = tt
  delete_does (Some path) = removal_does path (is_some (page_at view.pages path))

  -- ---- what any reader asks for

  if_owner : (response : Response) (owns : Bool) → Does response → Does (if owns then response else refused 403)
  if_owner response true does = does
  if_owner response false does = tt

  edit_page_does : (rest : List ℕ) (request : Request) (method : Method) → Does (edit_page view owner left rest request method)
  edit_page_does rest request Get = tt
  edit_page_does rest request Head = tt
  edit_page_does rest request Put =
      if_owner (put_by view left rest request) owner
      (put_does (path_written rest) (groups_of (parameter request.target (codes "groups"))) request.body)
  edit_page_does rest request Delete = if_owner (delete_at view (path_written rest)) owner (delete_does (path_written rest))
  edit_page_does rest request Post = tt
  edit_page_does rest request Other = tt

  edit_does : (route : Route) (request : Request) (method : Method) → Does (edit_at view owner left route request method)
  edit_does (routes.Page rest) request method = edit_page_does rest request method
  edit_does (routes.Backlinks rest) request method = tt
  edit_does routes.Contents request method = tt
  edit_does routes.Search request method = tt
  edit_does routes.Broken request method = tt

  if_reads : (reply : Reply) (response : Response) (reading : Bool) → Does response → Does (if reading then only_reply reply else response)
  if_reads reply response true does = tt
  if_reads reply response false does = does

  route_does : (render : Renders) (media : Beside) (route : Option Route) (request : Request)
      → Does (on_route render view media owner left route request)
  route_does render media None request = tt
  route_does render media (Some route) request =
      if_reads (reply_at render view media route request) _ (reads (method_of request.method))
      (edit_does route request (method_of request.method))

pub responses_put_or_remove : (render : Renders) (view : View) (media : Beside) (reader : Option Reader) (puts_left : Bool)
    (request : Request)
    → PutsOrRemoves (response_to render view media reader puts_left request).edit
responses_put_or_remove render view media None puts_left request = tt
responses_put_or_remove render view media (Some reader) puts_left request =
    route_does view reader.owner puts_left render media (route_of request.target) request

no_move : (edit : Option Edit) → PutsOrRemoves edit → moves_of edit ≡ 0
no_move None does = refl
no_move (Some (edits.Put path groups)) does = refl
no_move (Some (edits.Regroup path groups)) does = absurd does
no_move (Some (edits.Move from to)) does = absurd does
no_move (Some (edits.Remove path)) does = refl

-- so no response is counted as a move
pub responses_neither_move_nor_regroup : (render : Renders) (view : View) (media : Beside) (reader : Option Reader) (puts_left : Bool)
    (request : Request)
    → moves_of (response_to render view media reader puts_left request).edit ≡ 0
responses_neither_move_nor_regroup render view media reader puts_left request =
    no_move (response_to render view media reader puts_left request).edit
    (responses_put_or_remove render view media reader puts_left request)
