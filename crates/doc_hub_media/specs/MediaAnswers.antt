-- What requests are answered by the media that stand beside the pages, where these have a part in it. It is a function of the settings for
-- people, of what a renderer makes of each text, of the view of who asks, of the media that they see, of who asks, and of the request, and
-- never of the whole site. Media are read alone, by whoever sees them. Where there are none, none of this is. All of this is this project's
-- choice.
use Rattle.std.specs.Prelude.{ℕ, List, Bool, true, false, is_some, codes, Option, Some, None}
use Rattle.std.specs.Prelude.{option_map, Result, Ok, Err, if◌then◌else◌}
use Rattle.doc_http.specs.Requests.{is_bare}
use Rattle.doc_http.specs.declared.request.Request.{Request}
use Rattle.doc_http_media.specs.MediumReplies.{MediumReply, medium_bytes}
use Rattle.doc_http_replies.specs.Heads.{Dress}
use Rattle.doc_http_replies.specs.declared.reply.Allow.TheVariants as resources
use Rattle.doc_http_targets.specs.Queries.{optional_parameter}
use Rattle.doc_http_targets.specs.WrittenPaths.{path_written}
use Rattle.doc_media.specs.Kinds.{content_type, kind_of, manner_of}
use Rattle.doc_media.specs.Media.{Beside, medium_in}
use Rattle.doc_media.specs.declared.kind.MediaKind.{MediaKind}
use Rattle.doc_media.specs.declared.manner.Manner.{Manner}
use Rattle.doc_media.specs.declared.manner.Manner.TheVariants as manners
use Rattle.doc_page_parts.specs.Paths.{path_of}
use Rattle.doc_page_parts.specs.declared.path.PathError.{PathError}
use Rattle.doc_people.specs.Folders.{page_href}
use Rattle.doc_people.specs.KeptPaths.{is_kept}
use Rattle.doc_people.specs.declared.settings.Browse.{Browse}
use Rattle.doc_store_readers.specs.Pages.{Page}
use Rattle.doc_store_readers.specs.Sites.{View}
use Rattle.doc_store_readers.specs.declared.reader.Reader.{Reader}
use Rattle.doc_hub_editing.specs.Replies as plain
use Rattle.doc_hub_editing.specs.Replies.{Renders, not_allowed}
use Rattle.doc_hub_editing.specs.Answer.{Answer}
use Rattle.doc_hub_asking.specs.Asking.{Asking, owns}
use Rattle.doc_hub_asking.specs.Asking as asked
use Rattle.doc_hub_editing.specs.PeopleAnswers as people
use Rattle.doc_hub_editing.specs.PeopleAnswers.{offers_for}
use Rattle.doc_hub_editing_refusals.specs.Asked.{EditRequest}
use Rattle.doc_hub_editing_refusals.specs.Asked as requests
use Rattle.doc_hub_editing.specs.EditAnswers.{not_found, page_of}
use Rattle.doc_hub_editing.specs.EditResponses.{EditingReply, EditingResponse, Plain, Shown, editing_answer, only_reply, refused}
use Rattle.doc_hub_editing.specs.EditResponses.{refused_for, unless, unmet_by}
use Rattle.doc_hub_media.specs.MediaRequests.{MediaRequest, Read, Edit, edit_asked, media_request_of}

-- a medium of a kind, or a reply as requests that edit get them
pub data MediaResponse : Type 0 where
  Medium : MediaKind → List ℕ → MediaResponse
  Other : EditingResponse → MediaResponse

-- ---- paths that are kept for media

-- whether the path that the target writes is kept for media, if it writes one
abbrev pub kept_at : View → Beside → Option (List ℕ) → Bool
kept_at view beside None = false
kept_at view beside (Some path) = is_kept view beside path

-- whether a medium stands there
abbrev pub stands_at : Beside → Option (List ℕ) → Bool
stands_at beside None = false
stands_at beside (Some path) = is_some (medium_in beside path)

-- ---- what is read

-- what stands under a path is a medium by its name
abbrev pub medium_response : Option Page → Option MediaKind → Option MediaResponse
medium_response None kind = None
medium_response (Some medium) None = None
medium_response (Some medium) (Some kind) = Some (Medium kind medium.text)

abbrev pub read_at : Beside → Option (List ℕ) → Option MediaResponse
read_at beside None = None
read_at beside (Some path) = medium_response (medium_in beside path) (kind_of path)

-- ---- what an owner asks

abbrev pub where_kept : Bool → EditingResponse → Option MediaResponse
where_kept kept response = if kept then Some (Other response) else None

-- what stands there is only read
abbrev pub read_alone : EditingResponse
read_alone = only_reply (Plain (not_allowed resources.Read))

-- a medium's form is itself; the addresses in a preview, which are taken from the form's, so lead to media
abbrev pub at_itself : Browse → Bool → List ℕ → EditingReply
at_itself browse for_people path =
    if for_people then Shown (people.moved_reply browse (page_href path)) else Plain (plain.moved_reply (codes "/page/") path)

-- the form of a path that is kept: where a medium stands, or none
abbrev pub form_kept : Renders → Browse → Bool → View → Bool → List ℕ → Bool → EditingResponse
form_kept render browse guest view for_people path true = only_reply (at_itself browse for_people path)
form_kept render browse guest view for_people path false = not_found render browse (offers_for browse guest true) view for_people

abbrev pub form_at : Option Browse → Renders → View → Beside → Bool → Bool → Option (List ℕ) → Option MediaResponse
form_at None render view beside guest for_people path = None
form_at (Some browse) render view beside guest for_people None = None
form_at (Some browse) render view beside guest for_people (Some path) =
    where_kept (is_kept view beside path)
    (form_kept render browse guest view for_people path (is_some (medium_in beside path)))

-- a page that stands goes to no path that is kept; its conditions are judged first
abbrev pub move_kept : Option (List ℕ × Page) → Request → Bool → Option MediaResponse
move_kept None request kept = None
move_kept (Some found) request kept =
    where_kept kept (unless (unmet_by false request (Some found.1)) (refused_for 409 (codes "to is kept for media")))

abbrev pub move_to : View → Beside → Option (List ℕ × Page) → Option (Result (List ℕ) PathError) → Request → Option MediaResponse
move_to view beside found None request = None
move_to view beside found (Some (Err e)) request = None
move_to view beside found (Some (Ok to)) request = move_kept found request (is_kept view beside to)

abbrev pub edit_at : Option Browse → Renders → View → Beside → Bool → Bool → Request → EditRequest → Option MediaResponse
edit_at browse render view beside guest for_people request (requests.PutSource rest) =
    where_kept (kept_at view beside (path_written rest)) read_alone
edit_at browse render view beside guest for_people request (requests.PutPage rest) =
    where_kept (kept_at view beside (path_written rest)) read_alone
edit_at browse render view beside guest for_people request (requests.Remove rest) =
    where_kept (stands_at beside (path_written rest)) read_alone
edit_at browse render view beside guest for_people request (requests.Move rest) =
    move_to view beside (page_of view (path_written rest))
    (option_map path_of (optional_parameter request.target (codes "to"))) request
edit_at browse render view beside guest for_people request (requests.Open rest) =
    form_at browse render view beside guest for_people (path_written rest)
edit_at browse render view beside guest for_people request (requests.Preview rest) =
    where_kept (kept_at view beside (path_written rest)) (refused 404)
edit_at browse render view beside guest for_people request what = None

-- ---- whom

-- whoever has an entry reads what they see; what others than owners edit is refused as without media, whatever stands there
abbrev pub by_entry : Option Browse → Renders → View → Beside → Bool → Reader → Bool → Request → Option MediaRequest
    → Option MediaResponse
by_entry browse render view beside guest reader for_people request None = None
by_entry browse render view beside guest reader for_people request (Some (Read rest)) = read_at beside (path_written rest)
by_entry browse render view beside guest reader for_people request (Some (Edit what)) =
    if reader.owner then edit_at browse render view beside guest for_people request what else None

abbrev pub response_by : Option Browse → Renders → View → Beside → Asking → Bool → Request → Option MediaResponse
response_by browse render view beside asked.Nobody for_people request = None
response_by browse render view beside (asked.Guest row) for_people request =
    by_entry browse render view beside true row for_people request (media_request_of browse request)
response_by browse render view beside (asked.Known row) for_people request =
    by_entry browse render view beside false row for_people request (media_request_of browse request)

-- the response where media have a part in it; `for_people`: the request is one for people
unfoldable pub media_response : Option Browse → Renders → View → Beside → Asking → Bool → Request → Option MediaResponse
media_response browse render view None asking for_people request = None
media_response browse render view (Some held) asking for_people request =
    response_by browse render view (Some held) asking for_people request

-- ---- as it is sent

abbrev pub is_boxed : Manner → Bool
is_boxed manners.Shown = false
is_boxed manners.Boxed = true
is_boxed manners.Saved = false

abbrev pub is_saved : Manner → Bool
is_saved manners.Shown = false
is_saved manners.Boxed = false
is_saved manners.Saved = true

-- a medium; to guests no shared cache keeps it
abbrev pub medium_reply : Bool → MediaKind → List ℕ → MediumReply
medium_reply private kind bytes = record {
  kind = content_type kind;
  boxed = is_boxed (manner_of kind);
  saved = is_saved (manner_of kind);
  private = private;
  body = bytes;
}

abbrev pub media_answer : Dress → MediaResponse → Bool → Request → Answer
media_answer dress (Medium kind bytes) close request = record {
  bytes = medium_bytes (medium_reply dress.private kind bytes) (is_bare request.method) close;
  closes = close;
  edit = None;
}
media_answer dress (Other response) close request = editing_answer dress response close request

-- ---- what is rendered

-- whether a preview is asked for at a path that is kept, of which nothing is rendered
abbrev pub keeps_preview : View → Beside → Option EditRequest → Bool
keeps_preview view beside (Some (requests.Preview rest)) = kept_at view beside (path_written rest)
keeps_preview view beside what = false

abbrev pub is_preview_kept : Option Browse → View → Beside → Request → Bool
is_preview_kept browse view beside request = keeps_preview view beside (edit_asked browse request)
