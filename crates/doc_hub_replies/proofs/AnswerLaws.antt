-- Laws of answers.
use Rattle.std.proofs.Common.{◌≡◌, Bool, true, false, refl, ap, sym, ◌∙◌, subst}
use Rattle.std.specs.Prelude.{Option, Some, None, if◌then◌else◌}
use Rattle.std.proofs.lemmas.Bool.{and_parts}
use Rattle.doc_http.specs.declared.request.Request.{Request}
use Rattle.doc_http_replies.specs.Heads.{undressed}
use Rattle.doc_http_targets.specs.EditTargets.{edit_route_of}
use Rattle.doc_http_targets.specs.Targets.{route_of}
use Rattle.doc_media.specs.Media.{Beside, Media, beside_of}
use Rattle.doc_people.specs.declared.settings.Browse.{Browse}
use Rattle.doc_store_readers.specs.Readers.{ReaderTable}
use Rattle.doc_store_readers.specs.Sites.{Site, View, view_of}
use Rattle.doc_store_readers.specs.declared.reader.Reader.{Reader}
use Rattle.doc_hub_media.specs.AnswerSteps.{entry_of}
use Rattle.doc_hub_media.specs.Replies.{Renders, method_of, plain_answer, reads, response_to}
use Rattle.doc_hub_media.specs.Answer.{Answer}
use Rattle.doc_hub_media.specs.Edit.{Edit}
use Rattle.doc_hub_media.proofs.AskingLaws.{bearers_alone_are_known, guests_own_nothing}
use Rattle.doc_hub_asking.specs.Asking.{Asking, is_guest, known_by, reader_asking, row_of}
use Rattle.doc_hub_asking.specs.Asking as asked
use Rattle.doc_hub_media.specs.PeopleAnswers.{people_reply}
use Rattle.doc_hub_media.specs.EditAnswers.{edit_response}
use Rattle.doc_hub_media.specs.EditRequests.{asked_by, edit_request_of}
use Rattle.doc_hub_media.specs.EditResponses.{EditingResponse, editing_answer}
use Rattle.doc_hub_media.proofs.MediaLaws.{media_edit_nothing}
use Rattle.doc_hub_media.specs.MediaAnswers.{MediaResponse, media_response}
use Rattle.doc_hub_replies.proofs.EditLaws.{EditsNothing, guests_edit_nothing_so, nobody_edits, nothing_is_asked, who_reads_edits_nothing}
use Rattle.doc_hub_replies.proofs.GuestSteps.{guest_edits_nothing}
use Rattle.doc_hub_replies.specs.Answers.{answer_beside, answer_by, answer_of, asks_for_style, browsed, dress_by, dress_for, edited_or}
use Rattle.doc_hub_replies.specs.Answers.{is_for_people, kept_from_guests, media_or, people_answer, style_answer, unedited}
use Rattle.doc_hub_replies.specs.Laws.{GuestsEditNothing, NothingChangesWithoutEditing, NothingChangesWithoutMedia}
use Rattle.doc_hub_replies.specs.Laws.{NothingChangesWithoutSettings}
use Rattle.doc_hub_replies.specs.Laws.{OnlyPeopleAreShownPages, PeopleEditNothing, UnauthorizedIsAlike}
use Rattle.doc_hub_replies.specs.ServingSteps.{closes_after}

-- ---- media

pub nothing_changes_without_media : NothingChangesWithoutMedia
unfolding answer_of media_response
nothing_changes_without_media settings render view asking left request = refl

module _ (browse : Option Browse) (render : Renders) (view : View) (beside : Beside) (asking : Asking) (left close : Bool)
    (request : Request) where
  -- the response where media have a part in it
  abbrev pub by_media : Option MediaResponse
  by_media = media_response browse render view beside asking (is_for_people request) request

  abbrev other : Answer
  other = answer_by browse render view beside asking left close request

  -- the answer by that response
  abbrev pub with_response : Option MediaResponse → Answer
  with_response response = media_or response (dress_by browse asking) close request other

  pub by_pages_alone : by_media ≡ None → answer_beside browse render view beside asking left close request ≡ other
  by_pages_alone none = ap with_response none

  edit_by : (P : Option Edit → Type 0) (response : Option MediaResponse) → by_media ≡ response → P None → P other.edit
      → P (with_response response).edit
  edit_by P None is none alone = alone
  edit_by P (Some response) is none alone =
      subst P
      (sym (media_edit_nothing browse render view beside asking (is_for_people request) close request (dress_by browse asking) response is))
      none

  -- with media beside the pages an answer makes the edit that it makes without them, or none
  pub edit_beside : (P : Option Edit → Type 0) → P None → P other.edit
      → P (answer_beside browse render view beside asking left close request).edit
  edit_beside P none alone = edit_by P by_media refl none alone

  pub edits_nothing_beside : other.edit ≡ None → (answer_beside browse render view beside asking left close request).edit ≡ None
  edits_nothing_beside none = edit_beside (λ edit. edit ≡ None) refl none

-- ---- without settings

row_is_known : (row : Option Reader) → row_of (known_by row) ≡ row
row_is_known None = refl
row_is_known (Some row) = refl

-- the entry of who asks is that of the bearer's token
pub entry_alone : (readers : ReaderTable) (request : Request) → row_of (reader_asking None readers request) ≡ entry_of readers request
entry_alone readers request = ap row_of (bearers_alone_are_known readers request) ∙ row_is_known (entry_of readers request)

module _ (render : Renders) (site : Site) (media : Media) (readers : ReaderTable) (left close : Bool) (request : Request) where
  -- the answer by the settings for people, where there are some
  abbrev pub answer_with : Option Browse → Answer
  answer_with browse =
      answer_by browse render (view_of site (row_of (reader_asking browse readers request)))
      (beside_of media (row_of (reader_asking browse readers request))) (reader_asking browse readers request) left close request

  pub answer_without : answer_with None
      ≡ plain_answer undressed (response_to render (view_of site (entry_of readers request)) (beside_of media (entry_of readers request))
      (entry_of readers request) left request) close request
  answer_without =
      ap (λ entry. plain_answer undressed (response_to render (view_of site entry) (beside_of media entry) entry left request) close request)
      (entry_alone readers request)

pub nothing_changes_without_settings : NothingChangesWithoutSettings
unfolding answer_of
nothing_changes_without_settings settings render site media readers left request none without =
    let asking = reader_asking settings.browse readers request in
    by_pages_alone settings.browse render (view_of site (row_of asking)) (beside_of media (row_of asking)) asking left
    (closes_after settings request) request without
    ∙ ap (answer_with render site media readers left (closes_after settings request) request) none
    ∙ answer_without render site media readers left (closes_after settings request) request

-- ---- with settings

module _ (browse : Browse) (render : Renders) (view : View) (beside : Beside) (asking : Asking) (left close : Bool) (request : Request) where
  abbrev plainly : Answer
  plainly =
      plain_answer (dress_for browse asking) (kept_from_guests (is_guest asking)
      (response_to render view beside (row_of asking) left request)) close
      request

  abbrev shown : Answer
  shown = people_answer (people_reply render browse view beside asking request) close request

  -- of a request that doesn't edit, by whether it is one for people
  abbrev without_edit : Bool → Answer
  without_edit people = if people then shown else plainly

  -- by what is asked for
  abbrev chosen : Bool → Option EditingResponse → Bool → Answer
  chosen style response people =
      if style then style_answer close request else edited_or response (dress_for browse asking) close request (without_edit people)

  -- the response to a request that edits, where it is one
  abbrev edited : Option EditingResponse
  edited = edit_response render browse view beside asking left (is_for_people request) request

  pub is_shown : is_for_people request ≡ true → shown ≡ unedited browse render view beside asking left close request
  is_shown for_people = ap without_edit (sym for_people)

  pub is_plain : is_for_people request ≡ false → plainly ≡ unedited browse render view beside asking left close request
  is_plain for_people = ap without_edit (sym for_people)

  pub is_style : asks_for_style request ≡ true → style_answer close request ≡ browsed browse render view beside asking left close request
  is_style is = ap (λ style. chosen style edited (is_for_people request)) (sym is)

  pub is_unedited : asks_for_style request ≡ false → edited ≡ None
      → unedited browse render view beside asking left close request ≡ browsed browse render view beside asking left close request
  is_unedited is none = λ i. chosen (sym is i) (sym none i) (is_for_people request)

  pub is_edited : (response : EditingResponse) → asks_for_style request ≡ false → edited ≡ Some response
      → editing_answer (dress_for browse asking) response close request ≡ browsed browse render view beside asking left close request
  is_edited response is some = λ i. chosen (sym is i) (sym some i) (is_for_people request)

  edit_of : (response : Option EditingResponse) (other : Answer) → EditsNothing response → other.edit ≡ None
      → (edited_or response (dress_for browse asking) close request other).edit ≡ None
  edit_of None other none is = is
  edit_of (Some response) other none is = none

  people_edit : (style people : Bool) (response : Option EditingResponse) → people ≡ true → EditsNothing response
      → (chosen style response people).edit ≡ None
  people_edit true people response is none = refl
  people_edit false true response is none = edit_of response shown none refl
  people_edit false false response is none = cc

  guests_edit : (style people : Bool) (response : Option EditingResponse) → plainly.edit ≡ None → EditsNothing response
      → (chosen style response people).edit ≡ None
  guests_edit true people response is none = refl
  guests_edit false true response is none = edit_of response shown none refl
  guests_edit false false response is none = edit_of response plainly none is

pub only_people_are_shown_pages : OnlyPeopleAreShownPages
unfolding answer_of
only_people_are_shown_pages settings browse render view beside asking left request set without edits style people =
    by_pages_alone settings.browse render view beside asking left (closes_after settings request) request without
    ∙ ap (λ b. answer_by b render view beside asking left (closes_after settings request) request) set
    ∙ sym (is_plain browse render view beside asking left (closes_after settings request) request people
    ∙ is_unedited browse render view beside asking left (closes_after settings request) request style
    (nothing_is_asked render browse view beside left (is_for_people request) request asking edits))

-- where pages aren't edited, no request is one that edits
not_asked : (browse : Browse) (request : Request) → browse.editing ≡ false → edit_request_of browse request ≡ None
not_asked browse request is =
    ap (λ editing. if editing then asked_by (edit_route_of request.target) (route_of request.target) (method_of request.method) else None)
    is

pub nothing_changes_without_editing : NothingChangesWithoutEditing
unfolding answer_of
nothing_changes_without_editing settings browse render view beside asking left request set without off =
    by_pages_alone settings.browse render view beside asking left (closes_after settings request) request without
    ∙ ap (λ b. answer_by b render view beside asking left (closes_after settings request) request) set
    ∙ ap (λ response. chosen browse render view beside asking left (closes_after settings request) request (asks_for_style request) response
    (is_for_people request))
    (nothing_is_asked render browse view beside left (is_for_people request) request asking (not_asked browse request off))

pub people_edit_nothing : PeopleEditNothing
unfolding answer_of
people_edit_nothing settings browse render view beside asking left request set people =
    edits_nothing_beside settings.browse render view beside asking left (closes_after settings request) request
    (ap (λ b. (answer_by b render view beside asking left (closes_after settings request) request).edit) set
    ∙ people_edit browse render view beside asking left (closes_after settings request) request (asks_for_style request) (is_for_people request)
    (edit_response render browse view beside asking left (is_for_people request) request) people
    (who_reads_edits_nothing render browse view beside left (is_for_people request) request asking
    (and_parts (reads (method_of request.method)) request.html people).0))

known_is_no_guest : (row : Option Reader) → is_guest (known_by row) ≡ false
known_is_no_guest None = refl
known_is_no_guest (Some row) = refl

guest_edit_by : (browse : Option Browse) (render : Renders) (site : Site) (media : Media) (readers : ReaderTable) (left close : Bool)
    (request : Request)
    → is_guest (reader_asking browse readers request) ≡ true → (answer_with render site media readers left close request browse).edit ≡ None
guest_edit_by None render site media readers left close request is =
    absurd (no (sym is ∙ ap is_guest (bearers_alone_are_known readers request) ∙ known_is_no_guest (entry_of readers request)))
  where
    no : true ≡ false → ⊥
    no h = cc
guest_edit_by (Some browse) render site media readers left close request is =
    let asking = reader_asking (Some browse) readers request in
    let view = view_of site (row_of asking) in
    let beside = beside_of media (row_of asking) in
    guests_edit browse render view beside asking left close request (asks_for_style request) (is_for_people request)
    (edit_response render browse view beside asking left (is_for_people request) request)
    (guest_edits_nothing render view beside left request asking (guests_own_nothing (Some browse) readers request) is)
    (guests_edit_nothing_so render browse view beside left (is_for_people request) request asking
    (guests_own_nothing (Some browse) readers request) is)

pub guests_edit_nothing : GuestsEditNothing
unfolding answer_of
guests_edit_nothing settings render site media readers left request is =
    let asking = reader_asking settings.browse readers request in
    edits_nothing_beside settings.browse render (view_of site (row_of asking)) (beside_of media (row_of asking)) asking left
    (closes_after settings request) request
    (guest_edit_by settings.browse render site media readers left (closes_after settings request) request is)

-- ---- nobody

-- to nobody no request edits
nobody_is_unedited : (browse : Browse) (render : Renders) (view : View) (beside : Beside) (left close : Bool) (request : Request)
    → browsed browse render view beside asked.Nobody left close request
    ≡ (if asks_for_style request then style_answer close request else unedited browse render view beside asked.Nobody left close request)
nobody_is_unedited browse render view beside left close request =
    ap (λ response. chosen browse render view beside asked.Nobody left close request (asks_for_style request) response
    (is_for_people request))
    (nobody_edits render browse view beside left (is_for_people request) request)

unedited_alike : (browse : Browse) (render other : Renders) (view another : View) (beside aside : Beside) (left still close : Bool)
    (request : Request)
    → unedited browse render view beside asked.Nobody left close request ≡ unedited browse other another aside asked.Nobody still close request
unfolding people_reply
unedited_alike browse render other view another beside aside left still close request = refl

alike_by : (browse : Option Browse) (render other : Renders) (view another : View) (beside aside : Beside) (left still : Bool)
    (close : Bool) (request : Request)
    → answer_by browse render view beside asked.Nobody left close request ≡ answer_by browse other another aside asked.Nobody still close request
alike_by None render other view another beside aside left still close request = refl
alike_by (Some browse) render other view another beside aside left still close request =
    nobody_is_unedited browse render view beside left close request
    ∙ ap (λ other. if asks_for_style request then style_answer close request else other)
    (unedited_alike browse render other view another beside aside left still close request)
    ∙ sym (nobody_is_unedited browse other another aside still close request)

-- and media have no part in what nobody is answered
nobody_sees_media : (browse : Option Browse) (render : Renders) (view : View) (beside : Beside) (for_people : Bool) (request : Request)
    → media_response browse render view beside asked.Nobody for_people request ≡ None
unfolding media_response
nobody_sees_media browse render view None for_people request = refl
nobody_sees_media browse render view (Some held) for_people request = refl

pub unauthorized_is_alike : UnauthorizedIsAlike
unfolding answer_of
unauthorized_is_alike settings render other view another beside aside left still request =
    let close = closes_after settings request in
    by_pages_alone settings.browse render view beside asked.Nobody left close request
    (nobody_sees_media settings.browse render view beside (is_for_people request) request)
    ∙ alike_by settings.browse render other view another beside aside left still close request
    ∙ sym (by_pages_alone settings.browse other another aside asked.Nobody still close request
    (nobody_sees_media settings.browse other another aside (is_for_people request) request))
