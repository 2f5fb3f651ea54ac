-- What is said of requests as they are answered.
use Rattle.std.specs.Prelude.{Bool, true, false, not, ◌||◌, Option, Some, None, option_map}
use Rattle.doc_http.specs.declared.request.Request.{Request}
use Rattle.doc_http_targets.specs.Targets.{Route}
use Rattle.doc_http_targets.specs.Targets as routes
use Rattle.doc_media.specs.Media.{Media, beside_of}
use Rattle.doc_people.specs.declared.settings.Settings.{Settings}
use Rattle.doc_store_readers.specs.Readers.{ReaderTable}
use Rattle.doc_store_readers.specs.Sites.{Site, view_of}
use Rattle.doc_hub_media.specs.Replies.{Renders}
use Rattle.doc_hub_media.specs.Answer.{Answer}
use Rattle.doc_hub_media.specs.Method.{Method}
use Rattle.doc_hub_media.specs.Method.TheVariants.{Put, Delete}
use Rattle.doc_hub_asking.specs.Asking.{reader_asking, row_of}
use Rattle.doc_hub_media.specs.MediaAnswers.{MediaResponse, media_answer, media_response}
use Rattle.doc_hub_replies.specs.Answers.{dress_by, is_for_people}

-- whether the connection closes after the reply
abbrev pub closes_after : Settings → Request → Bool
closes_after settings request = request.close || not settings.keep_alive

-- the methods that edit a page
abbrev pub edits : Method → Bool
edits Put = true
edits Delete = true
edits _ = false

-- whether a method edits what a route leads to
abbrev pub edits_at : Method → Route → Bool
edits_at method (routes.Page rest) = edits method
edits_at method (routes.Backlinks rest) = false
edits_at method routes.Contents = false
edits_at method routes.Search = false
edits_at method routes.Broken = false

-- the same where there may be no route
abbrev pub edits_page : Method → Option Route → Bool
edits_page method None = false
edits_page method (Some route) = edits_at method route

-- the response where media have a part in it, of a site and its media
abbrev pub response_beside : Settings → ReaderTable → Renders → Site → Media → Request → Option MediaResponse
response_beside settings readers render site media request =
    media_response settings.browse render (view_of site (row_of (reader_asking settings.browse readers request)))
    (beside_of media (row_of (reader_asking settings.browse readers request))) (reader_asking settings.browse readers request)
    (is_for_people request) request

-- as it is sent to who asks
abbrev pub answered_beside : Settings → ReaderTable → Request → Option MediaResponse → Option Answer
answered_beside settings readers request response =
    option_map (λ response. media_answer (dress_by settings.browse (reader_asking settings.browse readers request)) response
    (closes_after settings request) request) response
