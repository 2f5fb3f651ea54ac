-- The reply to a request that isn't one for people. It is a function of the reader's view, of the media that the reader sees, of the
-- reader's entry, the request, and whether a put is left, and never of the whole site: that is what makes noninterference true.
use Rattle.std.specs.Prelude.{ℕ, List, [], ◌++◌, Bool, true, false, ◌||◌, ◌&&◌, bytes_eq, codes, is_some, length, nat_lt, nat_le}
use Rattle.std.specs.Prelude.{Option, Some, None, Result, Ok, Err, if◌then◌else◌}
use Rattle.std.specs.Str.{is_utf8}
use Rattle.doc_shelf_pages.specs.Templates.{body_of}
use Rattle.doc_page_parts.specs.declared.linker.Shown.{Shown}
use Rattle.doc_page_parts.specs.declared.rendered.Rendered.{Rendered}
use Rattle.doc_store_readers.specs.Groups.{groups_of}
use Rattle.doc_store_readers.specs.Pages.{Page}
use Rattle.doc_store.specs.Store.{text_limit, page_limit}
use Rattle.doc_store_readers.specs.declared.groups.GroupsError.{GroupsError}
use Rattle.doc_store_readers.specs.declared.reader.Reader.{Reader}
use Rattle.doc_store_readers.specs.Sites.{View, page_at, goal_in}
use Rattle.doc_page_encoding.specs.Encoding.{encoded_path}
use Rattle.doc_media.specs.Media.{Beside}
use Rattle.doc_media_links.specs.MediaLinks.{shown_beside}
use Rattle.doc_http_replies.specs.declared.reply.Allow.{Allow}
use Rattle.doc_http_replies.specs.declared.reply.Allow.TheVariants as resources
use Rattle.doc_http_replies.specs.declared.reply.Reply.{Reply}
use Rattle.doc_http.specs.declared.request.Request.{Request}
use Rattle.doc_http_replies.specs.Heads.{Dress, dressed_bytes}
use Rattle.doc_http_replies.specs.Replies.{reply_bytes}
use Rattle.doc_http_replies.specs.ReplyForms.{content_reply}
use Rattle.doc_http.specs.Requests.{is_bare}
use Rattle.doc_http_targets.specs.Queries.{parameter}
use Rattle.doc_http_targets.specs.Targets.{Route, route_of}
use Rattle.doc_http_targets.specs.Targets as routes
use Rattle.doc_http_targets.specs.WrittenPaths.{path_written}
use Rattle.doc_shelf_pages.specs.Views.{backlinks_body, contents_body, report_body, search_body}
use Rattle.doc_words_search.specs.Words.{query_of}
use Rattle.doc_words_search.specs.declared.query.QueryError.{QueryError}
use Rattle.doc_hub_answers.specs.declared.answer.Answer.{Answer}
use Rattle.doc_hub_answers.specs.declared.method.Method.{Method}
use Rattle.doc_hub_answers.specs.declared.method.Method.TheVariants.{Get, Head, Put, Delete, Post, Other}
use Rattle.doc_hub_answers.specs.declared.edit.Edit.{Edit}
use Rattle.doc_hub_answers.specs.declared.edit.Edit.TheVariants as edits

-- what a renderer makes of each text
abbrev pub Renders : Type 0
Renders = List ℕ → Rendered

-- the methods that are told apart (RFC 9110, section 9); methods have case
abbrev pub method_of : List ℕ → Method
method_of name =
    if bytes_eq name (codes "GET") then Get
    else (if bytes_eq name (codes "HEAD") then Head
    else (if bytes_eq name (codes "PUT") then Put
    else (if bytes_eq name (codes "DELETE") then Delete
    else (if bytes_eq name (codes "POST") then Post else Other))))

-- ---- replies that edit nothing

-- a reply that says no more than its status
abbrev pub status_reply : ℕ → Reply
status_reply code = record { code = code; html = false; allow = None; location = None; body = [] }

abbrev pub html_reply : List ℕ → Reply
html_reply body = content_reply true body

abbrev pub text_reply : List ℕ → Reply
text_reply body = content_reply false body

-- a method that the resource hasn't
abbrev pub not_allowed : Allow → Reply
not_allowed resource = record (status_reply 405) { allow = Some resource }

-- the page stands under another path now; the front is that of its route
abbrev pub moved_reply : List ℕ → List ℕ → Reply
moved_reply front goal = record (status_reply 301) { location = Some (front ++ encoded_path goal) }

-- how a link to a destination is shown in the page at this path: by what the reader sees, whatever else stands in the site
abbrev pub link_shown : View → Beside → List ℕ → List ℕ → Shown
link_shown view media path dest = shown_beside (goal_in view) media path dest

-- where nothing is seen at a path: where it leads, if anywhere
abbrev pub goal_reply : List ℕ → Option (List ℕ) → Reply
goal_reply front (Some goal) = moved_reply front goal
goal_reply front None = status_reply 404

-- a page that the reader sees, or where an alias that they see leads, or nothing: what is hidden and what is absent are the same here
abbrev pub page_or_goal : Renders → View → Beside → List ℕ → Option Page → Option (List ℕ) → Reply
page_or_goal render view media path (Some page) goal = html_reply (body_of path (link_shown view media path) (render page.text))
page_or_goal render view media path None goal = goal_reply (codes "/page/") goal

-- GET and HEAD of the path that the target writes, or of none
abbrev pub at_path : Renders → View → Beside → Option (List ℕ) → Reply
at_path render view media None = status_reply 404
at_path render view media (Some path) = page_or_goal render view media path (page_at view.pages path) (goal_in view path)

-- ---- lists, which are read alone

-- the backlinks of a page that the reader sees, or where an alias that they see leads, or nothing
abbrev pub backlinks_or_goal : Renders → View → List ℕ → Option Page → Option (List ℕ) → Reply
backlinks_or_goal render view path (Some page) goal = text_reply (backlinks_body render view path)
backlinks_or_goal render view path None goal = goal_reply (codes "/backlinks/") goal

-- the backlinks of the path that the target writes, or of none
abbrev pub backlinks_at : Renders → View → Option (List ℕ) → Reply
backlinks_at render view None = status_reply 404
backlinks_at render view (Some path) = backlinks_or_goal render view path (page_at view.pages path) (goal_in view path)

-- what a search for the words of a query finds, where it has some and not too many
abbrev pub found : Renders → View → Result (List (List ℕ)) QueryError → Reply
found render view (Ok words) = text_reply (search_body render view words)
found render view (Err e) = status_reply 400

-- the same by the query that the target names `q`
abbrev pub search_at : Renders → View → List ℕ → Reply
search_at render view target = found render view (query_of (parameter target (codes "q")))

-- ---- responses: a reply, and the edit of the site that goes with it

pub record Response : Type 0 where
  pub reply : Reply
  pub edit : Option Edit

abbrev pub only_reply : Reply → Response
only_reply reply = record { reply = reply; edit = None }

abbrev pub refused : ℕ → Response
refused code = only_reply (status_reply code)

abbrev pub edited : ℕ → Edit → Response
edited code edit = record { reply = status_reply code; edit = Some edit }

-- whether a put of a text fits, from the view of an owner, who sees the whole site, and whether a put is left
abbrev pub has_room : View → Bool → List ℕ → List ℕ → Bool
has_room view puts_left path text =
    nat_le (length text) text_limit && (is_some (page_at view.pages path) || nat_lt (length view.pages) page_limit) && puts_left

-- a put of a page with these groups under a path: 201 where no page stood there, and else 204
abbrev pub put_page : View → Bool → List ℕ → List (List ℕ) → List ℕ → Response
put_page view puts_left path groups text =
    if has_room view puts_left path text
    then edited (if is_some (page_at view.pages path) then 204 else 201) (edits.Put path groups)
    else refused 507

-- the same by the path that the target writes and the groups that its query names, where it does
abbrev pub put_at : View → Bool → Option (List ℕ) → Result (List (List ℕ)) GroupsError → List ℕ → Response
put_at view puts_left None groups text = refused 400
put_at view puts_left (Some path) (Err e) text = refused 400
put_at view puts_left (Some path) (Ok groups) text = if is_utf8 text then put_page view puts_left path groups text else refused 400

-- PUT of an owner
abbrev pub put_by : View → Bool → List ℕ → Request → Response
put_by view puts_left rest request =
    put_at view puts_left (path_written rest) (groups_of (parameter request.target (codes "groups"))) request.body

-- DELETE of an owner
abbrev pub delete_at : View → Option (List ℕ) → Response
delete_at view None = refused 404
delete_at view (Some path) = if is_some (page_at view.pages path) then edited 204 (edits.Remove path) else refused 404

-- another method than GET and HEAD at a page, which owners alone write, whatever its path
abbrev pub edit_page : View → Bool → Bool → List ℕ → Request → Method → Response
edit_page view owner puts_left rest request Put = if owner then put_by view puts_left rest request else refused 403
edit_page view owner puts_left rest request Delete = if owner then delete_at view (path_written rest) else refused 403
edit_page view owner puts_left rest request _ = only_reply (not_allowed resources.Page)

-- ---- what a route leads to

-- GET and HEAD
abbrev pub reply_at : Renders → View → Beside → Route → Request → Reply
reply_at render view media (routes.Page rest) request = at_path render view media (path_written rest)
reply_at render view media (routes.Backlinks rest) request = backlinks_at render view (path_written rest)
reply_at render view media routes.Contents request = html_reply (contents_body render view)
reply_at render view media routes.Search request = search_at render view request.target
reply_at render view media routes.Broken request = text_reply (report_body render view media)

-- the other methods; lists are read alone, by owners too
abbrev pub edit_at : View → Bool → Bool → Route → Request → Method → Response
edit_at view owner puts_left (routes.Page rest) request method = edit_page view owner puts_left rest request method
edit_at view owner puts_left (routes.Backlinks rest) request method = only_reply (not_allowed resources.Read)
edit_at view owner puts_left routes.Contents request method = only_reply (not_allowed resources.Read)
edit_at view owner puts_left routes.Search request method = only_reply (not_allowed resources.Read)
edit_at view owner puts_left routes.Broken request method = only_reply (not_allowed resources.Read)

-- whether the method only reads
abbrev pub reads : Method → Bool
reads Get = true
reads Head = true
reads _ = false

abbrev pub at_route : Renders → View → Beside → Bool → Bool → Route → Request → Method → Response
at_route render view media owner puts_left route request method =
    if reads method then only_reply (reply_at render view media route request) else edit_at view owner puts_left route request method

-- the route, then the method
abbrev pub on_route : Renders → View → Beside → Bool → Bool → Option Route → Request → Response
on_route render view media owner puts_left None request = refused 404
on_route render view media owner puts_left (Some route) request =
    at_route render view media owner puts_left route request (method_of request.method)

-- the reader first: no entry gets nothing, whatever is asked
abbrev pub response_to : Renders → View → Beside → Option Reader → Bool → Request → Response
response_to render view media None puts_left request = refused 401
response_to render view media (Some reader) puts_left request =
    on_route render view media reader.owner puts_left (route_of request.target) request

-- A response as it is sent: its bytes, with what its head has beside, whether the connection closes after them, and the edit that is made.
abbrev pub plain_answer : Dress → Response → Bool → Request → Answer
plain_answer dress response close request = record {
  bytes = dressed_bytes dress response.reply (is_bare request.method) close;
  closes = close;
  edit = response.edit;
}

-- the bytes for what is no request; the connection closes after them
abbrev pub fault_bytes : ℕ → Bool → List ℕ
fault_bytes code bare = reply_bytes (status_reply code) bare true
