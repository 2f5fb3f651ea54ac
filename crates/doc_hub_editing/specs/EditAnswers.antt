-- What requests that edit are answered: a function of the settings for people, of what a renderer makes of each text, of the view of who
-- asks, of who asks, of whether a put is left, and of the request, and never of the whole site. Owners alone edit, and an owner's view is
-- the site. All of this is this project's choice.
use Rattle.std.specs.Prelude.{ℕ, ◌+◌, ◌-◌, List, [], ◌∷◌, ◌++◌, length, filter, slice_get, Bool, true, false, not, ◌&&◌, ◌||◌, nat_lt}
use Rattle.std.specs.Prelude.{nat_le, bytes_eq, is_some, codes, Option, Some, None, option_map, Result, Ok, Err, if◌then◌else◌}
use Rattle.std.specs.Str.{is_utf8}
use Rattle.doc_http.specs.declared.request.Request.{Request}
use Rattle.doc_http_replies.specs.PeopleReplies.{PeopleReply}
use Rattle.doc_http_targets.specs.Queries.{optional_parameter, parameter}
use Rattle.doc_http_targets.specs.WrittenFolders.{folder_written, is_slash_at, without_last}
use Rattle.doc_http_targets.specs.WrittenPaths.{path_written}
use Rattle.doc_page_encoding.specs.Encoding.{encoded_path}
use Rattle.doc_page_parts.specs.Pages.{filled, is_empty}
use Rattle.doc_page_parts.specs.Paths.{is_path, path_of}
use Rattle.doc_page_parts.specs.declared.path.PathError.{PathError}
use Rattle.doc_page_parts.specs.declared.rendered.Rendered.{Rendered}
use Rattle.doc_people.specs.Statuses.{refused_body}
use Rattle.doc_people.specs.declared.settings.Browse.{Browse}
use Rattle.doc_people.specs.declared.settings.Offers.{Offers}
use Rattle.doc_people_editing.specs.EditPage.{begin_body, edit_body}
use Rattle.doc_people_editing.specs.NewPage.{new_body}
use Rattle.doc_people_editing.specs.Policies.{edit_policy, preview_policy}
use Rattle.doc_people_editing.specs.Preview.{preview_body}
use Rattle.doc_media.specs.Media.{Beside}
use Rattle.doc_media_links.specs.MediaLinks.{shown_beside}
use Rattle.doc_store.specs.Store.{alias_limit, page_limit, text_limit}
use Rattle.doc_store_readers.specs.Groups.{groups_of}
use Rattle.doc_store_readers.specs.Pages.{Page}
use Rattle.doc_store_readers.specs.Sites.{View, goal_in, page_at}
use Rattle.doc_store_readers.specs.declared.groups.GroupsError.{GroupsError}
use Rattle.doc_store_readers.specs.declared.groups.GroupsError.TheVariants as groups_errors
use Rattle.doc_store_readers.specs.declared.reader.Reader.{Reader}
use Rattle.doc_store_tags.specs.Tags.{names_text, tag_of}
use Rattle.doc_hub_people.specs.Replies as plain
use Rattle.doc_hub_people.specs.Replies.{Renders, not_allowed, status_reply}
use Rattle.doc_hub_people.specs.Edit.TheVariants as edits
use Rattle.doc_hub_asking.specs.Asking.{Asking, owns}
use Rattle.doc_hub_asking.specs.Asking as asked
use Rattle.doc_hub_people.specs.PeopleAnswers as people
use Rattle.doc_hub_people.specs.PeopleAnswers.{offers_for}
use Rattle.doc_hub_editing_refusals.specs.Asked.{EditRequest}
use Rattle.doc_hub_editing_refusals.specs.Asked as requests
use Rattle.doc_hub_editing.specs.EditRequests.{edit_request_of}
use Rattle.doc_hub_editing.specs.EditResponses.{EditingReply, EditingResponse, Plain, Shown, full_by, only_reply, page_reply, refused}
use Rattle.doc_hub_editing.specs.EditResponses.{refused_for, unless, unmet_by}

-- ---- the text of a page

-- a page, or where the alias leads that stands in its place, or nothing
abbrev pub source_or_goal : Option Page → Option (List ℕ) → Request → EditingResponse
source_or_goal None goal request = only_reply (Plain (plain.goal_reply (codes "/source/") goal))
source_or_goal (Some page) goal request = unless (unmet_by true request (Some page)) (only_reply (page_reply 200 page.text page))

abbrev pub read_source : View → Option (List ℕ) → Request → EditingResponse
read_source view None request = refused 404
read_source view (Some path) request = source_or_goal (page_at view.pages path) (goal_in view path) request

-- ---- puts

-- why a text has no room where that page stands, or none: from the view of an owner, who sees the whole site, and whether a put is left
abbrev pub no_room : View → Bool → Option Page → List ℕ → Option (List ℕ)
no_room view puts_left stands text =
    if nat_lt text_limit (length text) then Some (codes "the text has more than 1048576 bytes")
    else (if not puts_left then Some (codes "no edit is left")
    else (if not (is_some stands) && nat_le page_limit (length view.pages) then Some (codes "10000 pages stand") else None))

-- 204 where a page stood, and else 201 (RFC 9110, section 9.3.4)
abbrev pub put_code : Bool → ℕ
put_code stood = if stood then 204 else 201

-- a put at the source tells the tag and the groups of the page as it is then, one at the page itself its status alone
abbrev pub put_reply : Bool → Bool → Page → EditingReply
put_reply true stood page = page_reply (put_code stood) [] page
put_reply false stood page = Plain (status_reply (put_code stood))

abbrev pub put_done : Bool → List ℕ → Bool → Page → EditingResponse
put_done at_source path stood page = record { reply = put_reply at_source stood page; edit = Some (edits.Put path page.groups) }

-- a put of a page with these groups and the request's body as its text, where that page stands, or none
abbrev pub put_text : View → Bool → Bool → List ℕ → Option Page → List (List ℕ) → Request → EditingResponse
put_text view puts_left at_source path stands groups request =
    if is_utf8 request.body
    then unless (full_by (no_room view puts_left stands request.body))
    (put_done at_source path (is_some stands) (record { groups = groups; text = request.body }))
    else refused_for 400 (codes "the text is not UTF-8")

-- why no groups could be made of what a request names
abbrev pub why_no_groups : GroupsError → List ℕ
why_no_groups groups_errors.BadGroup = codes "groups has a name that is none"
why_no_groups e = codes "groups has more than 32 names"

-- what is wrong with the groups is told before the conditions are judged, and what is wrong with the text behind
abbrev pub put_page : View → Bool → Bool → List ℕ → Option Page → Result (List (List ℕ)) GroupsError → Request → EditingResponse
put_page view puts_left at_source path stands (Err e) request = refused_for 400 (why_no_groups e)
put_page view puts_left at_source path stands (Ok groups) request =
    unless (unmet_by false request stands) (put_text view puts_left at_source path stands groups request)

-- the groups of the page that stands, or none
abbrev pub groups_at : Option Page → List (List ℕ)
groups_at None = []
groups_at (Some page) = page.groups

-- the groups that a request names, or else these
abbrev pub named_or : List (List ℕ) → Option (List ℕ) → Result (List (List ℕ)) GroupsError
named_or kept None = Ok kept
named_or kept (Some names) = groups_of names

-- the groups of a put: at the source a page keeps its own where none are named, and at the page itself it has none then
abbrev pub groups_put : Bool → Option Page → List ℕ → Result (List (List ℕ)) GroupsError
groups_put true stands target = named_or (groups_at stands) (optional_parameter target (codes "groups"))
groups_put false stands target = groups_of (parameter target (codes "groups"))

-- a put at the path that the target writes, or at none
abbrev pub put_at : View → Bool → Bool → Option (List ℕ) → Request → EditingResponse
put_at view puts_left at_source None request = refused_for 400 (codes "this is no path of a page")
put_at view puts_left at_source (Some path) request =
    put_page view puts_left at_source path (page_at view.pages path)
    (groups_put at_source (page_at view.pages path) request.target) request

-- ---- edits of a page that stands

-- the page of the path that the target writes, or of none
abbrev pub page_of : View → Option (List ℕ) → Option (List ℕ × Page)
page_of view None = None
page_of view (Some path) = option_map (λ page. (path, page)) (page_at view.pages path)

-- a removal
abbrev pub remove_page : Option (List ℕ × Page) → Request → EditingResponse
remove_page None request = refused 404
remove_page (Some found) request =
    unless (unmet_by false request (Some found.1)) (record { reply = Plain (status_reply 204); edit = Some (edits.Remove found.0) })

-- other groups for the page; its text stays
abbrev pub regroup_done : List ℕ → Page → List (List ℕ) → EditingResponse
regroup_done path page groups =
    record { reply = page_reply 204 [] (record page { groups = groups }); edit = Some (edits.Regroup path groups) }

abbrev pub regroup_page : View → Bool → Option (List ℕ × Page) → List (List ℕ) → Request → EditingResponse
regroup_page view puts_left None groups request = refused 404
regroup_page view puts_left (Some found) groups request =
    unless (unmet_by false request (Some found.1))
    (unless (full_by (no_room view puts_left (Some found.1) found.1.text)) (regroup_done found.0 found.1 groups))

-- by the groups that the request must name
abbrev pub regroup_named : View → Bool → Option (List ℕ × Page) → Option (Result (List (List ℕ)) GroupsError) → Request → EditingResponse
regroup_named view puts_left found None request = refused_for 400 (codes "groups is missing")
regroup_named view puts_left found (Some (Err e)) request = refused_for 400 (why_no_groups e)
regroup_named view puts_left found (Some (Ok groups)) request = regroup_page view puts_left found groups request

-- ---- moves

-- how many aliases stand after a move to a path, from the view of an owner: those but for that path, and the old one
abbrev pub aliases_after_move : View → List ℕ → ℕ
aliases_after_move view to = length (filter (λ alias. not (bytes_eq alias.0 to)) view.aliases) + 1

-- why a move to a path has no room
abbrev pub no_alias_room : View → Bool → List ℕ → Option (List ℕ)
no_alias_room view puts_left to =
    if not puts_left then Some (codes "no edit is left")
    else (if nat_lt alias_limit (aliases_after_move view to) then Some (codes "10000 aliases stand") else None)

-- the page goes to a path where none stands, which may be an alias
abbrev pub move_done : View → Bool → List ℕ → List ℕ → EditingResponse
move_done view puts_left from to =
    if is_some (page_at view.pages to) then refused_for 409 (codes "a page stands at to")
    else unless (full_by (no_alias_room view puts_left to)) (record { reply = Plain (status_reply 204); edit = Some (edits.Move from to) })

abbrev pub move_page : View → Bool → Option (List ℕ × Page) → List ℕ → Request → EditingResponse
move_page view puts_left None to request = refused 404
move_page view puts_left (Some found) to request =
    unless (unmet_by false request (Some found.1)) (move_done view puts_left found.0 to)

-- by the path that the request must name, as it stands
abbrev pub move_named : View → Bool → Option (List ℕ × Page) → Option (Result (List ℕ) PathError) → Request → EditingResponse
move_named view puts_left found None request = refused_for 400 (codes "to is missing")
move_named view puts_left found (Some (Err e)) request = refused_for 400 (codes "to is no path of a page")
move_named view puts_left found (Some (Ok to)) request = move_page view puts_left found to request

-- ---- the form that edits a page

-- a page for people with this policy
abbrev pub guarded_page : List ℕ → List ℕ → PeopleReply
guarded_page policy body = record (people.page_reply 200 body) { policy = policy }

-- nothing is there: to people a page says so
abbrev pub not_found : Renders → Browse → Offers → View → Bool → EditingResponse
not_found render browse offers view for_people =
    if for_people then only_reply (Shown (people.not_found_reply render browse offers view None)) else refused 404

-- the form stands at another address, that of the page
abbrev pub form_elsewhere : Browse → Bool → List ℕ → EditingReply
form_elsewhere browse for_people goal =
    if for_people then Shown (people.moved_reply browse (codes "/edit/" ++ encoded_path goal))
    else Plain (plain.moved_reply (codes "/edit/") goal)

-- the form of a page that stands
abbrev pub form_of : Renders → Browse → Offers → View → List ℕ → Page → EditingReply
form_of render browse offers view path page =
    Shown (guarded_page edit_policy (edit_body render browse offers view path page.text (names_text page.groups) (tag_of page)))

-- where no page stands: where the alias leads that stands there, or a form that begins one
abbrev pub form_or_goal : Renders → Browse → Offers → View → Bool → List ℕ → Option Page → Option (List ℕ) → EditingReply
form_or_goal render browse offers view for_people path (Some page) goal = form_of render browse offers view path page
form_or_goal render browse offers view for_people path None (Some goal) = form_elsewhere browse for_people goal
form_or_goal render browse offers view for_people path None None =
    Shown (guarded_page edit_policy (begin_body render browse offers view path))

abbrev pub form_at : Renders → Browse → Offers → View → Bool → Option (List ℕ) → EditingResponse
form_at render browse offers view for_people None = not_found render browse offers view for_people
form_at render browse offers view for_people (Some path) =
    only_reply (form_or_goal render browse offers view for_people path (page_at view.pages path) (goal_in view path))

-- the form that asks for the path of a new page, in a folder
abbrev pub new_form : Renders → Browse → Offers → View → Bool → Option (List ℕ) → EditingResponse
new_form render browse offers view for_people None = not_found render browse offers view for_people
new_form render browse offers view for_people (Some folder) =
    only_reply (Shown (guarded_page edit_policy (new_body render browse offers view folder)))

-- the folder that a text writes, where it is the beginning of a path
abbrev pub if_folder_path : Option (List ℕ) → Option (List ℕ)
if_folder_path None = None
if_folder_path (Some folder) = if is_path (without_last folder) then Some folder else None

-- REST asks for the path of a new page where it is empty or ends with `/`
abbrev pub begins_path : List ℕ → Bool
begins_path rest = is_empty rest || is_slash_at (slice_get rest (length rest - 1))

abbrev pub folder_begun : List ℕ → Option (List ℕ)
folder_begun [] = Some []
folder_begun (b ∷ rest) = if_folder_path (folder_written (b ∷ rest))

abbrev pub open_form : Renders → Browse → Offers → View → Bool → List ℕ → EditingResponse
open_form render browse offers view for_people rest =
    if begins_path rest then new_form render browse offers view for_people (folder_begun rest)
    else form_at render browse offers view for_people (path_written rest)

-- ---- previews

-- what a text would look like at a path, with its links as the owner sees them
abbrev pub preview_of : Browse → View → Beside → List ℕ → Rendered → PeopleReply
preview_of browse view media path page =
    guarded_page preview_policy (preview_body browse path page.headings (filled (shown_beside (goal_in view) media path) page))

-- the type of the text is what keeps forms of other sites out: they can't send it
abbrev pub preview_text : Renders → Browse → View → Beside → List ℕ → Request → EditingResponse
preview_text render browse view media path request =
    if not request.markdown then refused 415
    else (if is_utf8 request.body then only_reply (Shown (preview_of browse view media path (render request.body)))
    else refused_for 400 (codes "the text is not UTF-8"))

abbrev pub preview_at : Renders → Browse → View → Beside → Option (List ℕ) → Request → EditingResponse
preview_at render browse view media None request = refused 404
preview_at render browse view media (Some path) request = preview_text render browse view media path request

-- ---- whom

-- what an owner is answered; `for_people`: the request is one for people
abbrev pub by_owner : Renders → Browse → Offers → View → Beside → Bool → Bool → Request → EditRequest → EditingResponse
by_owner render browse offers view media puts_left for_people request (requests.ReadSource rest) = read_source view
    (path_written rest) request
by_owner render browse offers view media puts_left for_people request (requests.PutSource rest) =
    put_at view puts_left true (path_written rest) request
by_owner render browse offers view media puts_left for_people request (requests.PutPage rest) =
    put_at view puts_left false (path_written rest) request
by_owner render browse offers view media puts_left for_people request (requests.Remove rest) =
    remove_page (page_of view (path_written rest)) request
by_owner render browse offers view media puts_left for_people request (requests.Regroup rest) =
    regroup_named view puts_left (page_of view (path_written rest))
    (option_map groups_of (optional_parameter request.target (codes "groups"))) request
by_owner render browse offers view media puts_left for_people request (requests.Move rest) =
    move_named view puts_left (page_of view (path_written rest))
    (option_map path_of (optional_parameter request.target (codes "to"))) request
by_owner render browse offers view media puts_left for_people request (requests.Open rest) = open_form render browse offers view
    for_people rest
by_owner render browse offers view media puts_left for_people request (requests.Preview rest) =
    preview_at render browse view media (path_written rest) request
by_owner render browse offers view media puts_left for_people request (requests.NotAllowed resource) =
    only_reply (Plain (not_allowed resource))

-- a guest isn't forbidden anything: they haven't signed in; to people a page says so
abbrev pub unauthorized : Browse → Bool → EditingResponse
unauthorized browse for_people = if for_people then only_reply (Shown (people.unauthorized_reply browse)) else refused 401

-- a reader who is no owner is refused by what is asked alone, before anything is looked up; to people a page says so where the form is
abbrev pub forbidden : Renders → Browse → Offers → View → Bool → EditRequest → EditingResponse
forbidden render browse offers view for_people (requests.Open rest) =
    if for_people then only_reply (Shown (people.page_reply 403 (refused_body render browse offers view 403))) else refused 403
forbidden render browse offers view for_people asked = refused 403

-- to one who is no owner, a guest or a reader; a method that a resource hasn't comes first
abbrev pub by_other : Renders → Browse → Offers → View → Bool → Bool → EditRequest → EditingResponse
by_other render browse offers view guest for_people (requests.NotAllowed resource) = only_reply (Plain (not_allowed resource))
by_other render browse offers view true for_people asked = unauthorized browse for_people
by_other render browse offers view false for_people asked = forbidden render browse offers view for_people asked

abbrev pub by_entry : Renders → Browse → View → Beside → Bool → Reader → Bool → Bool → Request → EditRequest → EditingResponse
by_entry render browse view media guest reader puts_left for_people request asked =
    if reader.owner then by_owner render browse (offers_for browse guest reader.owner) view media puts_left for_people request asked
    else by_other render browse (offers_for browse guest reader.owner) view guest for_people asked

-- what is asked is answered to whoever has an entry
abbrev pub response_by : Renders → Browse → View → Beside → Asking → Bool → Bool → Request → EditRequest → Option EditingResponse
response_by render browse view media asked.Nobody puts_left for_people request what = None
response_by render browse view media (asked.Guest row) puts_left for_people request what =
    Some (by_entry render browse view media true row puts_left for_people request what)
response_by render browse view media (asked.Known row) puts_left for_people request what =
    Some (by_entry render browse view media false row puts_left for_people request what)

abbrev pub response_if : Renders → Browse → View → Beside → Asking → Bool → Bool → Request → Option EditRequest → Option EditingResponse
response_if render browse view media asking puts_left for_people request None = None
response_if render browse view media asking puts_left for_people request (Some what) =
    response_by render browse view media asking puts_left for_people request what

-- the response to a request that edits, where it is one and who asks has an entry
unfoldable pub edit_response : Renders → Browse → View → Beside → Asking → Bool → Bool → Request → Option EditingResponse
edit_response render browse view media asking puts_left for_people request =
    response_if render browse view media asking puts_left for_people request (edit_request_of browse request)

-- ---- what is rendered

-- whether the response to what an owner asks shows a preview, for which a text is rendered that is kept nowhere
abbrev pub shows_preview_at : Option (List ℕ) → Request → Bool
shows_preview_at None request = false
shows_preview_at (Some path) request = request.markdown && is_utf8 request.body

abbrev pub shows_preview : Bool → Request → Option EditRequest → Bool
shows_preview owner request (Some (requests.Preview rest)) = owner && shows_preview_at (path_written rest) request
shows_preview owner request asked = false

abbrev pub is_preview : Browse → Asking → Request → Bool
is_preview browse asking request = shows_preview (owns asking) request (edit_request_of browse request)
