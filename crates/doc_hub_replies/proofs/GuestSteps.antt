-- Guests edit nothing, since they own nothing.
use Rattle.std.proofs.Common.{◌≡◌, Bool, true, false, refl, ap, ◌∙◌}
use Rattle.std.specs.Prelude.{◌&&◌, ◌==◌, Option, Some, None, if◌then◌else◌}
use Rattle.doc_http.specs.declared.request.Request.{Request}
use Rattle.doc_http_targets.specs.Targets.{Route, route_of}
use Rattle.doc_http_targets.specs.Targets as routes
use Rattle.doc_media.specs.Media.{Beside}
use Rattle.doc_store_readers.specs.Sites.{View}
use Rattle.doc_store_readers.specs.declared.reader.Reader.{Reader}
use Rattle.doc_hub_media.specs.Replies.{Renders, Response, at_route}
use Rattle.doc_hub_media.specs.Replies.{method_of, on_route, refused, response_to}
use Rattle.doc_hub_media.specs.Method.{Method}
use Rattle.doc_hub_media.specs.Method.TheVariants.{Get, Head, Put, Delete, Post, Other}
use Rattle.doc_hub_asking.specs.Asking.{Asking, is_guest, row_of}
use Rattle.doc_hub_asking.specs.Asking as asked
use Rattle.doc_hub_media.specs.PeopleLaws.{OwnsNothing}
use Rattle.doc_hub_replies.specs.Answers.{kept_from_guests}

-- ---- who owns nothing

module _ (render : Renders) (view : View) (beside : Beside) (left : Bool) (request : Request) where
  abbrev at : Route → Method → Response
  at route method = at_route render view beside false left route request method

  -- nothing of it is an edit
  at_edits_nothing : (route : Route) (method : Method) → (at route method).edit ≡ None
  at_edits_nothing route Get = refl
  at_edits_nothing route Head = refl
  at_edits_nothing (routes.Page rest) Put = refl
  at_edits_nothing (routes.Page rest) Delete = refl
  at_edits_nothing (routes.Page rest) Post = refl
  at_edits_nothing (routes.Page rest) Other = refl
  at_edits_nothing (routes.Backlinks rest) Put = refl
  at_edits_nothing (routes.Backlinks rest) Delete = refl
  at_edits_nothing (routes.Backlinks rest) Post = refl
  at_edits_nothing (routes.Backlinks rest) Other = refl
  at_edits_nothing routes.Contents Put = refl
  at_edits_nothing routes.Contents Delete = refl
  at_edits_nothing routes.Contents Post = refl
  at_edits_nothing routes.Contents Other = refl
  at_edits_nothing routes.Search Put = refl
  at_edits_nothing routes.Search Delete = refl
  at_edits_nothing routes.Search Post = refl
  at_edits_nothing routes.Search Other = refl
  at_edits_nothing routes.Broken Put = refl
  at_edits_nothing routes.Broken Delete = refl
  at_edits_nothing routes.Broken Post = refl
  at_edits_nothing routes.Broken Other = refl

  -- the same where there may be no route
  abbrev on : Option Route → Response
  on route = on_route render view beside false left route request

  on_edits_nothing : (route : Option Route) → (on route).edit ≡ None
  on_edits_nothing None = refl
  on_edits_nothing (Some route) = at_edits_nothing route (method_of request.method)

  by_row : (row : Reader) → row.owner ≡ false → response_to render view beside (Some row) left request ≡ on (route_of request.target)
  by_row row owns = ap (λ owner. on_route render view beside owner left (route_of request.target) request) owns

  -- ---- who asks

  abbrev by : Asking → Response
  by asking = response_to render view beside (row_of asking) left request

  kept_edits_nothing : (guest forbidden : Bool) (response : Response) → response.edit ≡ None
      → (let kept : Response = (if guest && forbidden then refused 401 else response) in kept.edit ≡ None)
  kept_edits_nothing true true response is = refl
  kept_edits_nothing true false response is = is
  kept_edits_nothing false forbidden response is = is

  -- a guest edits nothing
  pub guest_edits_nothing : (asking : Asking) → OwnsNothing asking → is_guest asking ≡ true
      → (kept_from_guests (is_guest asking) (by asking)).edit ≡ None
  guest_edits_nothing asked.Nobody owns is = cc
  guest_edits_nothing (asked.Guest row) owns is =
      kept_edits_nothing true ((by (asked.Guest row)).reply.code == 403) (by (asked.Guest row))
      (ap (λ (r : Response). r.edit) (by_row row owns) ∙ on_edits_nothing (route_of request.target))
  guest_edits_nothing (asked.Known row) owns is = cc
