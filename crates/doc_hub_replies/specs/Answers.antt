-- The answer to a request: to one in which media have a part, to one for the style sheet of the pages for people, to one that edits, to
-- one for people, or to any other. It is a function of the settings, of what a renderer makes of each text, of the view of who asks, of
-- the media that they see, of who asks, of whether a put is left, and of the request, and never of the whole site: that is what makes
-- noninterference true. All of this is this project's choice.
use Rattle.std.specs.Prelude.{ℕ, List, Bool, true, false, not, ◌||◌, ◌&&◌, ◌==◌, Option, Some, None, if◌then◌else◌}
use Rattle.doc_http.specs.Requests.{is_bare}
use Rattle.doc_http.specs.declared.request.Request.{Request}
use Rattle.doc_http_replies.specs.Heads.{Dress, undressed}
use Rattle.doc_http_replies.specs.PeopleReplies.{PeopleReply, people_bytes, style_sheet_bytes}
use Rattle.doc_http_targets.specs.PeopleTargets.{is_style_sheet}
use Rattle.doc_media.specs.Media.{Beside}
use Rattle.doc_people.specs.declared.settings.Browse.{Browse}
use Rattle.doc_people.specs.declared.settings.Settings.{Settings}
use Rattle.doc_people.specs.declared.style_sheet.TheConstants.{STYLE_SHEET}
use Rattle.doc_store_readers.specs.Sites.{View}
use Rattle.doc_hub_media.specs.Replies.{Renders, Response, method_of, plain_answer, reads, refused, response_to}
use Rattle.doc_hub_media.specs.Answer.{Answer}
use Rattle.doc_hub_asking.specs.Asking.{Asking, is_guest, row_of}
use Rattle.doc_hub_media.specs.PeopleAnswers.{people_reply, realm_of}
use Rattle.doc_hub_media.specs.EditAnswers.{edit_response, is_preview}
use Rattle.doc_hub_media.specs.EditResponses.{EditingResponse, editing_answer}
use Rattle.doc_hub_media.specs.MediaAnswers.{MediaResponse, is_preview_kept, media_answer, media_response}

-- an answer that makes no edit
abbrev pub sent : List ℕ → Bool → Answer
sent bytes close = record { bytes = bytes; closes = close; edit = None }

-- ---- which requests are for people

-- GET and HEAD of the style sheet, whoever asks
abbrev pub asks_for_style : Request → Bool
asks_for_style request = reads (method_of request.method) && is_style_sheet request.target

-- GET and HEAD that name HTML among what they accept
abbrev pub is_for_people : Request → Bool
is_for_people request = reads (method_of request.method) && request.html

-- ---- what all others are answered

-- a guest isn't forbidden anything: they haven't signed in
abbrev pub kept_from_guests : Bool → Response → Response
kept_from_guests guest response = if guest && response.reply.code == 403 then refused 401 else response

-- what the heads of their replies have beside: HTML its policy, what goes to guests no cache, and 401 the ways to sign in
abbrev pub dress_for : Browse → Asking → Dress
dress_for browse asking = record { guarded = true; private = is_guest asking; realm = realm_of browse }

-- ---- answers

-- to a request for people
abbrev pub people_answer : PeopleReply → Bool → Request → Answer
people_answer reply close request = sent (people_bytes reply (is_bare request.method) close) close

-- the style sheet
abbrev pub style_answer : Bool → Request → Answer
style_answer close request = sent (style_sheet_bytes STYLE_SHEET.now (is_bare request.method) close) close

-- to a request that doesn't edit by these settings: to one for people, or as without them
abbrev pub unedited : Browse → Renders → View → Beside → Asking → Bool → Bool → Request → Answer
unedited browse render view beside asking puts_left close request =
    if is_for_people request then people_answer (people_reply render browse view beside asking request) close request
    else plain_answer (dress_for browse asking)
    (kept_from_guests (is_guest asking) (response_to render view beside (row_of asking) puts_left request)) close request

-- by the response to a request that edits, where it is one
abbrev pub edited_or : Option EditingResponse → Dress → Bool → Request → Answer → Answer
edited_or None dress close request other = other
edited_or (Some response) dress close request other = editing_answer dress response close request

-- with settings for people
abbrev pub browsed : Browse → Renders → View → Beside → Asking → Bool → Bool → Request → Answer
browsed browse render view beside asking puts_left close request =
    if asks_for_style request then style_answer close request
    else edited_or (edit_response render browse view beside asking puts_left (is_for_people request) request) (dress_for browse asking)
    close request (unedited browse render view beside asking puts_left close request)

-- by the settings for people, where there are some
abbrev pub answer_by : Option Browse → Renders → View → Beside → Asking → Bool → Bool → Request → Answer
answer_by None render view beside asking puts_left close request =
    plain_answer undressed (response_to render view beside (row_of asking) puts_left request) close request
answer_by (Some browse) render view beside asking puts_left close request =
    browsed browse render view beside asking puts_left close request

-- what the heads have beside, by the settings for people, where there are some
abbrev pub dress_by : Option Browse → Asking → Dress
dress_by None asking = undressed
dress_by (Some browse) asking = dress_for browse asking

-- by the response in which media have a part, where there is one
abbrev pub media_or : Option MediaResponse → Dress → Bool → Request → Answer → Answer
media_or None dress close request other = other
media_or (Some response) dress close request other = media_answer dress response close request

abbrev pub answer_beside : Option Browse → Renders → View → Beside → Asking → Bool → Bool → Request → Answer
answer_beside browse render view beside asking puts_left close request =
    media_or (media_response browse render view beside asking (is_for_people request) request) (dress_by browse asking) close request
    (answer_by browse render view beside asking puts_left close request)

-- The bytes that are sent, whether the connection closes after them, and the edit that is made.
unfoldable pub answer_of : Settings → Renders → View → Beside → Asking → Bool → Request → Answer
answer_of settings render view beside asking puts_left request =
    answer_beside settings.browse render view beside asking puts_left (request.close || not settings.keep_alive) request

-- ---- what is rendered

-- whether a request asks for a preview, for which a text is rendered
abbrev pub asks_preview : Option Browse → Asking → Request → Bool
asks_preview None asking request = false
asks_preview (Some browse) asking request = is_preview browse asking request

-- whether the reply shows one: at a path that is kept for media it doesn't
abbrev pub shows_preview : Option Browse → View → Beside → Asking → Request → Bool
shows_preview browse view beside asking request =
    asks_preview browse asking request && not (is_preview_kept browse view beside request)
