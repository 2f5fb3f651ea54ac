-- What is answered where no edits are taken: no resource has PUT and DELETE then, and whoever has an entry is refused these by the route
-- and the method alone, before it is looked at whether they are an owner. All else is answered as ever. All of this is this project's
-- choice.
use Rattle.std.specs.Prelude.{Bool, true, false, Option, Some, None, if◌then◌else◌}
use Rattle.doc_http.specs.declared.request.Request.{Request}
use Rattle.doc_http_replies.specs.Heads.{Dress}
use Rattle.doc_http_replies.specs.declared.reply.Allow.{Allow}
use Rattle.doc_http_replies.specs.declared.reply.Allow.TheVariants as resources
use Rattle.doc_http_targets.specs.EditTargets.{EditRoute, edit_route_of}
use Rattle.doc_http_targets.specs.EditTargets as edit_routes
use Rattle.doc_http_targets.specs.Targets.{Route, route_of}
use Rattle.doc_http_targets.specs.Targets as routes
use Rattle.doc_media.specs.Media.{Beside}
use Rattle.doc_people.specs.declared.settings.Browse.{Browse}
use Rattle.doc_people.specs.declared.settings.Settings.{Settings}
use Rattle.doc_store_readers.specs.Sites.{View}
use Rattle.doc_hub_media.specs.Replies.{Renders, method_of, not_allowed, only_reply, plain_answer, reads}
use Rattle.doc_hub_media.specs.Answer.{Answer}
use Rattle.doc_hub_media.specs.Method.{Method}
use Rattle.doc_hub_media.specs.Method.TheVariants.{Post}
use Rattle.doc_hub_asking.specs.Asking.{Asking}
use Rattle.doc_hub_asking.specs.Asking as asked
use Rattle.doc_hub_replies.specs.Answers.{answer_of, dress_by}
use Rattle.doc_hub_replies.specs.ServingSteps.{closes_after}

-- ---- what is left of a resource

abbrev pub posts : Method → Bool
posts Post = true
posts method = false

-- what is left, where the method isn't part of it
abbrev pub unless_left : Bool → Allow → Option Allow
unless_left left allow = if left then None else Some allow

abbrev pub left_of_editing : EditRoute → Method → Option Allow
left_of_editing (edit_routes.Source rest) method = unless_left (reads method) resources.Read
left_of_editing (edit_routes.Groups rest) method = Some resources.Nothing
left_of_editing (edit_routes.Move rest) method = Some resources.Nothing
left_of_editing (edit_routes.Edit rest) method = unless_left (reads method) resources.Read
left_of_editing (edit_routes.Preview rest) method = unless_left (posts method) resources.Post

-- lists are only read in any case
abbrev pub left_of : Option Route → Method → Option Allow
left_of None method = None
left_of (Some (routes.Page rest)) method = unless_left (reads method) resources.Read
left_of (Some route) method = None

abbrev pub left_by : Option EditRoute → Option Route → Method → Option Allow
left_by (Some route) other method = left_of_editing route method
left_by None other method = left_of other method

-- the route of editing, where pages are edited so
abbrev pub editing_route : Option Browse → Request → Option EditRoute
editing_route None request = None
editing_route (Some browse) request = if browse.editing then edit_route_of request.target else None

-- what is left of what a request asks for, where its method isn't part of it
abbrev pub not_left : Option Browse → Request → Option Allow
not_left browse request = left_by (editing_route browse request) (route_of request.target) (method_of request.method)

-- ---- answers

-- nobody is told what a resource has
abbrev pub told_to : Asking → Option Allow → Option Allow
told_to asked.Nobody allow = None
told_to asking allow = allow

-- what is left, where that refuses the request
abbrev pub left_to : Settings → Asking → Request → Option Allow
left_to settings asking request = if settings.takes_edits then None else told_to asking (not_left settings.browse request)

-- a refusal of a method
abbrev pub refused_method : Dress → Bool → Request → Allow → Answer
refused_method dress close request allow = plain_answer dress (only_reply (not_allowed allow)) close request

abbrev pub refused_or : Option Allow → Dress → Bool → Request → Answer → Answer
refused_or None dress close request other = other
refused_or (Some allow) dress close request other = refused_method dress close request allow

-- The answer that is given: where edits are taken, that of whom they are taken from.
unfoldable pub answer_given : Settings → Renders → View → Beside → Asking → Bool → Request → Answer
answer_given settings render view beside asking puts_left request =
    refused_or (left_to settings asking request) (dress_by settings.browse asking) (closes_after settings request) request
    (answer_of settings render view beside asking puts_left request)
