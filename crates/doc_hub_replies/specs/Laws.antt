-- Laws of answers.
use Rattle.std.specs.Prelude.{◌≡◌, Bool, true, false, Some, None, if◌then◌else◌}
use Rattle.doc_http.specs.declared.request.Request.{Request}
use Rattle.doc_http_replies.specs.Heads.{undressed}
use Rattle.doc_media.specs.Media.{Beside, Media, beside_of}
use Rattle.doc_people.specs.declared.settings.Browse.{Browse}
use Rattle.doc_people.specs.declared.settings.Settings.{Settings}
use Rattle.doc_store_readers.specs.Readers.{ReaderTable}
use Rattle.doc_store_readers.specs.Sites.{Site, View, view_of}
use Rattle.doc_hub_media.specs.AnswerSteps.{entry_of}
use Rattle.doc_hub_media.specs.Replies.{Renders, plain_answer, response_to}
use Rattle.doc_hub_media.specs.Answer.{Answer}
use Rattle.doc_hub_asking.specs.Asking.{Asking, is_guest, reader_asking, row_of}
use Rattle.doc_hub_asking.specs.Asking as asked
use Rattle.doc_hub_media.specs.EditRequests.{edit_request_of}
use Rattle.doc_hub_media.specs.MediaAnswers.{media_response}
use Rattle.doc_hub_replies.specs.Answers.{answer_by, answer_of, asks_for_style, dress_for, is_for_people, kept_from_guests}
use Rattle.doc_hub_replies.specs.Answers.{style_answer, unedited}
use Rattle.doc_hub_replies.specs.ServingSteps.{closes_after}
use Rattle.doc_hub_replies.specs.TakingEdits.{answer_given}

-- the answer to whoever asks, of a site and its media
abbrev pub answer_in : Settings → Renders → Site → Media → ReaderTable → Bool → Request → Answer
answer_in settings render site media readers puts_left request =
    answer_of settings render (view_of site (row_of (reader_asking settings.browse readers request)))
    (beside_of media (row_of (reader_asking settings.browse readers request)))
    (reader_asking settings.browse readers request) puts_left request

-- media have no part in what a request is answered
abbrev pub WithoutMedia : Settings → Renders → View → Beside → Asking → Request → Type 0
WithoutMedia settings render view beside asking request =
    media_response settings.browse render view beside asking (is_for_people request) request ≡ None

-- without media each answer is what it is by the pages alone
abbrev pub NothingChangesWithoutMedia : Type 0
NothingChangesWithoutMedia =
    (settings : Settings) (render : Renders) (view : View) (asking : Asking) (puts_left : Bool) (request : Request)
    → answer_of settings render view None asking puts_left request
    ≡ answer_by settings.browse render view None asking puts_left (closes_after settings request) request

-- without settings for people each answer in which media have no part is the response's to the entry of the bearer's token, and nothing is
-- added to its head
abbrev pub NothingChangesWithoutSettings : Type 0
NothingChangesWithoutSettings =
    (settings : Settings) (render : Renders) (site : Site) (media : Media) (readers : ReaderTable) (puts_left : Bool) (request : Request)
    → settings.browse ≡ None
    → WithoutMedia settings render (view_of site (row_of (reader_asking settings.browse readers request)))
    (beside_of media (row_of (reader_asking settings.browse readers request))) (reader_asking settings.browse readers request) request
    → answer_in settings render site media readers puts_left request
    ≡ plain_answer undressed (response_to render (view_of site (entry_of readers request)) (beside_of media (entry_of readers request))
    (entry_of readers request) puts_left request) (closes_after settings request) request

-- with settings, who asks neither for people nor for their style sheet, nor for what media have a part in, and doesn't edit by these
-- settings, is answered by the same response, but that guests are told to sign in where readers are forbidden
abbrev pub OnlyPeopleAreShownPages : Type 0
OnlyPeopleAreShownPages =
    (settings : Settings) (browse : Browse) (render : Renders) (view : View) (beside : Beside) (asking : Asking) (puts_left : Bool)
    (request : Request)
    → settings.browse ≡ Some browse → WithoutMedia settings render view beside asking request → edit_request_of browse request ≡ None
    → asks_for_style request ≡ false → is_for_people request ≡ false
    → answer_of settings render view beside asking puts_left request
    ≡ plain_answer (dress_for browse asking) (kept_from_guests (is_guest asking)
    (response_to render view beside (row_of asking) puts_left request))
    (closes_after settings request) request

-- where pages aren't edited by these settings, each answer in which media have no part is that to a request that doesn't edit so
abbrev pub NothingChangesWithoutEditing : Type 0
NothingChangesWithoutEditing =
    (settings : Settings) (browse : Browse) (render : Renders) (view : View) (beside : Beside) (asking : Asking) (puts_left : Bool)
    (request : Request)
    → settings.browse ≡ Some browse → WithoutMedia settings render view beside asking request → browse.editing ≡ false
    → answer_of settings render view beside asking puts_left request
    ≡ (if asks_for_style request then style_answer (closes_after settings request) request
    else unedited browse render view beside asking puts_left (closes_after settings request) request)

-- the answer to a request for people has no edit
abbrev pub PeopleEditNothing : Type 0
PeopleEditNothing =
    (settings : Settings) (browse : Browse) (render : Renders) (view : View) (beside : Beside) (asking : Asking) (puts_left : Bool)
    (request : Request)
    → settings.browse ≡ Some browse → is_for_people request ≡ true
    → (answer_of settings render view beside asking puts_left request).edit ≡ None

-- the answer to a guest has no edit
abbrev pub GuestsEditNothing : Type 0
GuestsEditNothing =
    (settings : Settings) (render : Renders) (site : Site) (media : Media) (readers : ReaderTable) (puts_left : Bool) (request : Request)
    → is_guest (reader_asking settings.browse readers request) ≡ true
    → (answer_in settings render site media readers puts_left request).edit ≡ None

-- the answer to nobody is the same whatever there is to be seen, whatever is made of it, and whether or not a put is left
abbrev pub UnauthorizedIsAlike : Type 0
UnauthorizedIsAlike =
    (settings : Settings) (render other : Renders) (view another : View) (beside aside : Beside) (puts_left still_left : Bool)
    (request : Request)
    → answer_of settings render view beside asked.Nobody puts_left request
    ≡ answer_of settings other another aside asked.Nobody still_left request

-- where edits are taken, each answer is as ever
abbrev pub EditsChangeNothingElse : Type 0
EditsChangeNothingElse =
    (settings : Settings) (render : Renders) (view : View) (beside : Beside) (asking : Asking) (puts_left : Bool) (request : Request)
    → settings.takes_edits ≡ true
    → answer_given settings render view beside asking puts_left request ≡ answer_of settings render view beside asking puts_left request

-- where no edits are taken, no answer has one
abbrev pub NoEditIsMade : Type 0
NoEditIsMade =
    (settings : Settings) (render : Renders) (view : View) (beside : Beside) (asking : Asking) (puts_left : Bool) (request : Request)
    → settings.takes_edits ≡ false → (answer_given settings render view beside asking puts_left request).edit ≡ None
