-- What a request for the pages for people is answered: a function of the settings, of what a renderer makes of each text, of the view of
-- who asks, of the media that they see, of who asks and of the request, and of nothing else. All of this is this project's choice.
use Rattle.std.specs.Prelude.{ℕ, List, [], ◌++◌, Bool, true, false, ◌&&◌, codes, is_some, Option, Some, None, if◌then◌else◌}
use Rattle.doc_http.specs.declared.request.Request.{Request}
use Rattle.doc_http_replies.specs.Heads.{policy}
use Rattle.doc_http_replies.specs.PeopleReplies.{PeopleReply}
use Rattle.doc_http_targets.specs.PeopleTargets.{PeopleRoute, people_route_of}
use Rattle.doc_http_targets.specs.PeopleTargets as people_routes
use Rattle.doc_http_targets.specs.Queries.{parameter}
use Rattle.doc_http_targets.specs.Targets.{Route}
use Rattle.doc_http_targets.specs.Targets as routes
use Rattle.doc_http_targets.specs.WrittenFolders.{folder_written}
use Rattle.doc_http_targets.specs.WrittenPaths.{path_written}
use Rattle.doc_media.specs.Media.{Beside}
use Rattle.doc_page_encoding.specs.Encoding.{encoded_path}
use Rattle.doc_people.specs.BrokenLinks.{broken_body}
use Rattle.doc_people.specs.Folders.{page_href, sees_folder}
use Rattle.doc_people.specs.KeptPaths.{begun_at}
use Rattle.doc_people.specs.Lists.{backlinks_body, contents_body}
use Rattle.doc_people.specs.Pages.{page_body}
use Rattle.doc_people.specs.Search.{search_body, search_code}
use Rattle.doc_people.specs.Statuses.{moved_body, not_found_body, not_signed_in_body}
use Rattle.doc_people.specs.Views.{Renders}
use Rattle.doc_people.specs.declared.settings.Browse.{Browse}
use Rattle.doc_people.specs.declared.settings.Offers.{Offers}
use Rattle.doc_store_readers.specs.Pages.{Page}
use Rattle.doc_store_readers.specs.Sites.{View, goal_in, page_at}
use Rattle.doc_hub_asking.specs.Asking.{Asking}
use Rattle.doc_hub_asking.specs.Asking as asked

-- ---- replies

-- a page of a code
abbrev pub page_reply : ℕ → List ℕ → PeopleReply
page_reply code body = record { code = code; location = None; realm = None; policy = policy; body = body }

-- what was asked for stands at this address
abbrev pub moved_reply : Browse → List ℕ → PeopleReply
moved_reply browse location =
    record { code = 301; location = Some location; realm = None; policy = policy; body = moved_body browse location }

-- the title of the site, where readers may sign in as browsers do
abbrev pub realm_of : Browse → Option (List ℕ)
realm_of browse = if browse.login then Some browse.title else None

-- who asks isn't signed in
abbrev pub unauthorized_reply : Browse → PeopleReply
unauthorized_reply browse =
    record { code = 401; location = None; realm = realm_of browse; policy = policy; body = not_signed_in_body browse }

-- there is nothing that who asks may see; where a page may be begun at the path, it is offered
abbrev pub not_found_reply : Renders → Browse → Offers → View → Option (List ℕ) → PeopleReply
not_found_reply render browse offers view new = page_reply 404 (not_found_body render browse offers view new)

-- ---- pages, and what links to them

-- where nothing is seen at a path: where it leads, if anywhere; the front is that of the route
abbrev pub goal_reply : Renders → Browse → Offers → View → List ℕ → Option (List ℕ) → Option (List ℕ) → PeopleReply
goal_reply render browse offers view front new None = not_found_reply render browse offers view new
goal_reply render browse offers view front new (Some goal) = moved_reply browse (front ++ encoded_path goal)

-- a page that is seen, or where an alias leads that is seen, or nothing: what is hidden and what is absent are the same here
abbrev pub page_or_goal : Renders → Browse → Offers → View → Beside → List ℕ → Option Page → Option (List ℕ) → PeopleReply
page_or_goal render browse offers view media path (Some page) goal =
    page_reply 200 (page_body render browse offers view media path (render page.text))
page_or_goal render browse offers view media path None goal =
    goal_reply render browse offers view (codes "/page/") (begun_at view media path) goal

-- the page of the path that the target writes, or of none
abbrev pub page_under : Renders → Browse → Offers → View → Beside → Option (List ℕ) → PeopleReply
page_under render browse offers view media None = not_found_reply render browse offers view None
page_under render browse offers view media (Some path) =
    page_or_goal render browse offers view media path (page_at view.pages path) (goal_in view path)

-- the pages that link to one that is seen, from a text on
abbrev pub backlinks_or_goal : Renders → Browse → Offers → View → List ℕ → List ℕ → Option Page → Option (List ℕ) → PeopleReply
backlinks_or_goal render browse offers view from path (Some page) goal =
    page_reply 200 (backlinks_body render browse offers view path from)
backlinks_or_goal render browse offers view from path None goal = goal_reply render browse offers view (codes "/backlinks/") None goal

abbrev pub backlinks_under : Renders → Browse → Offers → View → List ℕ → Option (List ℕ) → PeopleReply
backlinks_under render browse offers view from None = not_found_reply render browse offers view None
backlinks_under render browse offers view from (Some path) =
    backlinks_or_goal render browse offers view from path (page_at view.pages path) (goal_in view path)

-- ---- lists

-- the contents of the folder that the target writes, where it is seen
abbrev pub folder_reply : Renders → Browse → Offers → View → List ℕ → Option (List ℕ) → PeopleReply
folder_reply render browse offers view from None = not_found_reply render browse offers view None
folder_reply render browse offers view from (Some folder) =
    if sees_folder view folder then page_reply 200 (contents_body render browse offers view folder from)
    else not_found_reply render browse offers view None

-- ---- the front, and the way to sign in

-- where the page at the front stands, or else the contents
abbrev pub front_location : Option (List ℕ) → List ℕ
front_location None = codes "/contents"
front_location (Some goal) = page_href goal

-- there is a way to sign in where guests may, and it asks them to; readers have done so
abbrev pub sign_in_by : Renders → Browse → Offers → View → Bool → Bool → PeopleReply
sign_in_by render browse offers view false guest = not_found_reply render browse offers view None
sign_in_by render browse offers view true false = moved_reply browse (codes "/")
sign_in_by render browse offers view true true = unauthorized_reply browse

-- there is one where both are set
abbrev pub has_sign_in : Browse → Bool
has_sign_in browse = browse.login && is_some browse.guest

-- what the pages offer who asks, a guest or a reader: a way to sign in, or where pages are edited so, what owners edit them by
abbrev pub offers_for : Browse → Bool → Bool → Offers
offers_for browse guest owner = record { sign_in = guest && has_sign_in browse; tools = owner && browse.editing }

-- ---- what a route leads to

abbrev pub reply_at : Renders → Browse → Offers → View → Beside → List ℕ → Route → PeopleReply
reply_at render browse offers view media target (routes.Page rest) = page_under render browse offers view media (path_written rest)
reply_at render browse offers view media target (routes.Backlinks rest) =
    backlinks_under render browse offers view (parameter target (codes "from")) (path_written rest)
reply_at render browse offers view media target routes.Contents =
    page_reply 200 (contents_body render browse offers view [] (parameter target (codes "from")))
reply_at render browse offers view media target routes.Search =
    page_reply (search_code (parameter target (codes "q"))) (search_body render browse offers view (parameter target (codes "q")))
reply_at render browse offers view media target routes.Broken =
    page_reply 200 (broken_body render browse offers view media (parameter target (codes "from")))

abbrev pub people_at : Renders → Browse → Offers → View → Beside → Bool → List ℕ → PeopleRoute → PeopleReply
people_at render browse offers view media guest target people_routes.Front =
    moved_reply browse (front_location (goal_in view browse.home))
people_at render browse offers view media guest target people_routes.SignIn =
    sign_in_by render browse offers view (has_sign_in browse) guest
people_at render browse offers view media guest target (people_routes.Folder rest) =
    folder_reply render browse offers view (parameter target (codes "from")) (folder_written rest)
people_at render browse offers view media guest target (people_routes.Plain route) =
    reply_at render browse offers view media target route

-- the route, where there is one
abbrev pub on_route : Renders → Browse → Offers → View → Beside → Bool → List ℕ → Option PeopleRoute → PeopleReply
on_route render browse offers view media guest target None = not_found_reply render browse offers view None
on_route render browse offers view media guest target (Some route) = people_at render browse offers view media guest target route

-- the path that a route asks the page of, if it asks for one and writes a path
abbrev pub page_at_plain : Route → Option (List ℕ)
page_at_plain (routes.Page rest) = path_written rest
page_at_plain (routes.Backlinks rest) = None
page_at_plain routes.Contents = None
page_at_plain routes.Search = None
page_at_plain routes.Broken = None

abbrev pub page_at_route : PeopleRoute → Option (List ℕ)
page_at_route people_routes.Front = None
page_at_route people_routes.SignIn = None
page_at_route (people_routes.Folder rest) = None
page_at_route (people_routes.Plain route) = page_at_plain route

abbrev pub page_asked : Option PeopleRoute → Option (List ℕ)
page_asked None = None
page_asked (Some route) = page_at_route route

-- who asks first: nobody gets nothing, whatever is asked
abbrev pub reply_to : Renders → Browse → View → Beside → Asking → List ℕ → PeopleReply
reply_to render browse view media asked.Nobody target = unauthorized_reply browse
reply_to render browse view media (asked.Guest row) target =
    on_route render browse (offers_for browse true row.owner) view media true target (people_route_of target)
reply_to render browse view media (asked.Known row) target =
    on_route render browse (offers_for browse false row.owner) view media false target (people_route_of target)

-- the reply to a request for people
unfoldable pub people_reply : Renders → Browse → View → Beside → Asking → Request → PeopleReply
people_reply render browse view media asking request = reply_to render browse view media asking request.target
