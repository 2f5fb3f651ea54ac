-- The edit that goes with an answer: what holds of no edit, of that of the response, and of that of the response to a request that edits,
-- holds of it.
use Rattle.std.proofs.Common.{◌≡◌, List, ℕ, Bool, true, false, refl, sym, subst}
use Rattle.std.specs.Prelude.{not, ◌&&◌, ◌||◌, ◌==◌, Option, Some, None, ⊤, if◌then◌else◌}
use Rattle.doc_http.specs.declared.request.Request.{Request}
use Rattle.doc_http_replies.specs.Heads.{Dress}
use Rattle.doc_media.specs.Media.{Beside, Media, beside_of}
use Rattle.doc_hub_replies.proofs.MediaLaws.{media_edit_nothing}
use Rattle.doc_hub_replies.specs.MediaAnswers.{MediaResponse, media_answer, media_response}
use Rattle.doc_hub_replies.proofs.AnswerEdits.{response_can}
use Rattle.doc_hub_replies.specs.Edits.{CanBeMade, puts_taken}
use Rattle.doc_hub_replies.specs.Replies.{Renders, Response, plain_answer, refused, response_to}
use Rattle.doc_hub_replies.specs.Answer.{Answer}
use Rattle.doc_hub_replies.specs.Edit.{Edit}
use Rattle.doc_hub_replies.proofs.EditsCan.{EditingCan, edit_response_can}
use Rattle.doc_hub_replies.specs.EditAnswers.{edit_response}
use Rattle.doc_hub_replies.specs.EditResponses.{EditingResponse}
use Rattle.doc_hub_asking.specs.Asking.{Asking, is_guest, row_of}
use Rattle.doc_hub_replies.proofs.TakingLaws.{given_by_edit}
use Rattle.doc_hub_replies.specs.PeopleAnswers.{people_reply}
use Rattle.doc_hub_replies.specs.Answers.{answer_by, answer_of, asks_for_style, dress_by, dress_for, edited_or, is_for_people}
use Rattle.doc_hub_replies.specs.Answers.{kept_from_guests}
use Rattle.doc_hub_replies.specs.Answers.{media_or, people_answer, style_answer, unedited}
use Rattle.doc_hub_replies.specs.TakingEdits.{answer_given}
use Rattle.doc_people.specs.declared.settings.Browse.{Browse}
use Rattle.doc_people.specs.declared.settings.Settings.{Settings}
use Rattle.doc_store.specs.Store.{StoreState}
use Rattle.doc_store_readers.specs.Sites.{View, view_of}

-- what holds of the edit of a response to a request that edits, where it is one
abbrev pub HoldsFor : (Option Edit → Type 0) → Option EditingResponse → Type 0
HoldsFor P None = ⊤
HoldsFor P (Some response) = P response.edit

module _ (P : Option Edit → Type 0) (nothing : P None) where
  abbrev Holds : Answer → Type 0
  Holds answer = P answer.edit

  abbrev HoldsBefore : Response → Type 0
  HoldsBefore response = P response.edit

  either : (test : Bool) (one other : Answer) → Holds one → Holds other → Holds (if test then one else other)
  either true one other holds also = holds
  either false one other holds also = also

  kept_if : (forbidden : Bool) (response : Response) → HoldsBefore response → HoldsBefore (if forbidden then refused 401 else response)
  kept_if true response holds = nothing
  kept_if false response holds = holds

  edited : (found : Option EditingResponse) (dress : Dress) (close : Bool) (request : Request) (other : Answer) → HoldsFor P found
      → Holds other → Holds (edited_or found dress close request other)
  edited None dress close request other holds also = also
  edited (Some response) dress close request other holds also = holds

  -- what media have a part in makes no edit
  beside : (found : Option MediaResponse) (dress : Dress) (close : Bool) (request : Request) (other : Answer)
      → ((response : MediaResponse) → found ≡ Some response → (media_answer dress response close request).edit ≡ None)
      → Holds other → Holds (media_or found dress close request other)
  beside None dress close request other none holds = holds
  beside (Some response) dress close request other none holds = subst P (sym (none response refl)) nothing

  module _ (render : Renders) (view : View) (media : Beside) (asking : Asking) (left : Bool) (request : Request)
      (holds : HoldsBefore (response_to render view media (row_of asking) left request)) where
    pub not_editing : (browse : Browse) (close : Bool) → Holds (unedited browse render view media asking left close request)
    not_editing browse close =
        let response : Response = response_to render view media (row_of asking) left request in
        let plain : Answer = plain_answer (dress_for browse asking) (kept_from_guests (is_guest asking) response) close request in
        let page : Answer = people_answer (people_reply render browse view media asking request) close request in
        either (is_for_people request) page plain nothing (kept_if (is_guest asking && response.reply.code == 403) response holds)

    by_browse : ((browse : Browse) → HoldsFor P (edit_response render browse view media asking left (is_for_people request) request))
        → (browse : Option Browse) (close : Bool) → Holds (answer_by browse render view media asking left close request)
    by_browse edits None close = holds
    by_browse edits (Some browse) close =
        let found : Option EditingResponse = edit_response render browse view media asking left (is_for_people request) request in
        let other : Answer = unedited browse render view media asking left close request in
        either (asks_for_style request) (style_answer close request) (edited_or found (dress_for browse asking) close request other) nothing
        (edited found (dress_for browse asking) close request other (edits browse) (not_editing browse close))

    taken_holds : ((browse : Browse) → HoldsFor P (edit_response render browse view media asking left (is_for_people request) request))
        → (settings : Settings) → P (answer_of settings render view media asking left request).edit
    unfolding answer_of
    taken_holds edits settings =
        let close : Bool = request.close || not settings.keep_alive in
        let found : Option MediaResponse = media_response settings.browse render view media asking (is_for_people request) request in
        beside found (dress_by settings.browse asking) close request (answer_by settings.browse render view media asking left close request)
        (media_edit_nothing settings.browse render view media asking (is_for_people request) close request
        (dress_by settings.browse asking))
        (by_browse edits settings.browse close)

    -- whether or not edits are taken
    pub answer_holds : ((browse : Browse) → HoldsFor P (edit_response render browse view media asking left (is_for_people request) request))
        → (settings : Settings) → P (answer_given settings render view media asking left request).edit
    answer_holds edits settings = given_by_edit P settings render view media asking left request nothing (taken_holds edits settings)

can_holds : (store : StoreState) (text : List ℕ) (found : Option EditingResponse) → EditingCan store text found
    → HoldsFor (CanBeMade store text) found
can_holds store text None can = tt
can_holds store text (Some response) can = can

-- the edit can be made
pub answer_can_be_made : (takes : Bool) (render : Renders) (settings : Settings) (media : Media) (store : StoreState) (asking : Asking)
    (request : Request)
    → CanBeMade store request.body
    (answer_given settings render (view_of store.site (row_of asking)) (beside_of media (row_of asking)) asking (puts_taken takes store.puts)
    request).edit
answer_can_be_made takes render settings media store asking request =
    answer_holds (CanBeMade store request.body) tt render (view_of store.site (row_of asking)) (beside_of media (row_of asking)) asking
    (puts_taken takes store.puts) request
    (response_can takes render (beside_of media (row_of asking)) store (row_of asking) request)
    (λ browse. can_holds store request.body
    (edit_response render browse (view_of store.site (row_of asking)) (beside_of media (row_of asking)) asking (puts_taken takes store.puts)
    (is_for_people request) request)
    (edit_response_can (beside_of media (row_of asking)) takes render browse store asking (is_for_people request) request)) settings
