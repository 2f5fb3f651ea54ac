-- Answers as they are put together.
use Rattle.std.proofs.Common.{◌≡◌, Bool, true, false, List, ℕ, arith, refl, ap, sym, ◌∙◌, subst}
use Rattle.std.specs.Prelude.{IfOk, Option, Some, None, Result, Ok, Err}
use Rattle.doc_http.specs.Requests.{is_bare}
use Rattle.doc_http.specs.declared.request.Request.{Request}
use Rattle.doc_http_replies.specs.Heads.{Dress, undressed}
use Rattle.doc_http_replies.specs.Manners.{dress_of}
use Rattle.doc_http_replies.specs.PeopleReplies.{PeopleReply, people_bytes}
use Rattle.doc_http_replies.specs.declared.manner.Manner.{Manner}
use Rattle.doc_http_targets.specs.PeopleTargets.{people_route_of}
use Rattle.doc_media.specs.Media.{Beside, Media, beside_of}
use Rattle.doc_page_parts.specs.declared.failure.Memory.{Memory}
use Rattle.doc_people.specs.declared.settings.Browse.{Browse}
use Rattle.doc_people.specs.declared.settings.Settings.{Settings}
use Rattle.doc_store.specs.Store.{StoreState}
use Rattle.doc_store_readers.specs.Readers.{ReaderTable}
use Rattle.doc_store_readers.specs.Sites.{Site, View, view_of}
use Rattle.doc_store_readers.specs.declared.reader.Reader.{Reader}
use Rattle.doc_hub_media.specs.AnswerSteps.{AnsweredSo, entry_of}
use Rattle.doc_hub_media.specs.Counts.{RendersPuts, moves_of, previews_of}
use Rattle.doc_hub_media.specs.Edits.{store_after}
use Rattle.doc_hub_media.specs.Replies.{Renders, plain_answer, response_to}
use Rattle.doc_hub_media.specs.Answer.{Answer}
use Rattle.doc_hub_media.specs.Exchange.{Exchange}
use Rattle.doc_hub_asking.specs.Asking.{Asking, is_guest, owns, reader_asking, row_of}
use Rattle.doc_hub_asking.specs.Asking as asked
use Rattle.doc_hub_media.specs.PeopleAnswers.{offers_for, on_route, people_reply, unauthorized_reply}
use Rattle.doc_hub_media.specs.VisitSteps.{people_sent}
use Rattle.doc_hub_editing_refusals.specs.Asked.{EditRequest}
use Rattle.doc_hub_media.specs.EditAnswers.{by_entry, edit_response}
use Rattle.doc_hub_media.specs.EditRequests.{edit_request_of}
use Rattle.doc_hub_media.specs.EditResponses.{EditingResponse, editing_answer, reply_sent}
use Rattle.doc_hub_media.specs.EditSteps.{editing_sent}
use Rattle.doc_hub_replies.proofs.AnswerLaws.{answer_with, answer_without, is_edited, is_plain, is_shown, is_style, is_unedited}
use Rattle.doc_hub_replies.proofs.EditLaws.{with_entry}
use Rattle.doc_hub_replies.specs.Answers.{asks_for_style, browsed, dress_for, is_for_people, kept_from_guests}
use Rattle.doc_hub_replies.specs.Answers.{people_answer, style_answer, unedited}
use Rattle.doc_hub_replies.specs.ServingSteps.{closes_after}

-- an answer without an edit, of a store that is as it was
pub told_alone : (store : StoreState) (text : List ℕ) (answer : Answer) (result : Result Answer Memory)
    → IfOk result (λ a. a ≡ answer) → answer.edit ≡ None → AnsweredSo text store answer store result
told_alone store text answer (Ok told) is none = (is, sym (ap (store_after store text) (ap (λ (a : Answer). a.edit) is ∙ none)))
told_alone store text answer (Err e) is none = refl

-- ---- people, in an exchange that a request began

module _ (exchange : Exchange) (request : Request) (manner : Manner) (close : Bool) (kept : exchange.manner ≡ manner)
    (bare : manner.head_only ≡ is_bare request.method) (closes : manner.close ≡ close) where
  people_sent_is : (told reply : PeopleReply) → told ≡ reply → people_sent exchange told ≡ people_answer reply close request
  people_sent_is told reply is = λ i. record {
    bytes = people_bytes (is i) ((ap (λ (m : Manner). m.head_only) kept ∙ bare) i) ((ap (λ (m : Manner). m.close) kept ∙ closes) i);
    closes = (ap (λ (m : Manner). m.close) kept ∙ closes) i;
    edit = None;
  }

  pub sent_to_people : (told reply : PeopleReply) (result : Result Answer Memory) → told ≡ reply
      → IfOk result (λ a. a ≡ people_sent exchange told) → IfOk result (λ a. a ≡ people_answer reply close request)
  sent_to_people told reply result is by =
      subst (λ wanted. IfOk result (λ a. a ≡ wanted)) (people_sent_is told reply is) by

-- ---- the same by the entry of who asks

module _ (render : Renders) (browse : Browse) (request : Request) where
  pub nobody_is_told : (view : View) (beside : Beside) (asking : Asking) → None ≡ row_of asking
      → unauthorized_reply browse ≡ people_reply render browse view beside asking request
  unfolding people_reply
  nobody_is_told view beside asked.Nobody none = refl
  nobody_is_told view beside (asked.Guest row) none = cc
  nobody_is_told view beside (asked.Known row) none = cc

  pub somebody_is_shown : (site : Site) (media : Media) (row : Reader) (guest owner : Bool) (target : List ℕ) (asking : Asking)
      → Some row ≡ row_of asking → guest ≡ is_guest asking → owner ≡ owns asking → target ≡ request.target
      → on_route render browse (offers_for browse guest owner) (view_of site (Some row)) (beside_of media (Some row)) guest target
      (people_route_of target)
      ≡ people_reply render browse (view_of site (row_of asking)) (beside_of media (row_of asking)) asking request
  unfolding people_reply
  somebody_is_shown site media row guest owner target asked.Nobody some is own by = cc
  somebody_is_shown site media row guest owner target (asked.Guest other) some is own by =
      λ i. on_route render browse (offers_for browse (is i) (own i)) (view_of site (some i)) (beside_of media (some i)) (is i) (by i)
      (people_route_of (by i))
  somebody_is_shown site media row guest owner target (asked.Known other) some is own by =
      λ i. on_route render browse (offers_for browse (is i) (own i)) (view_of site (some i)) (beside_of media (some i)) (is i) (by i)
      (people_route_of (by i))

-- ---- with settings

module _ (browse : Browse) (render : Renders) (store : StoreState) (media : Media) (left close : Bool) (request : Request) (told : Asking)
    (new : StoreState) (result : Result Answer Memory) where
  abbrev view_for : Asking → View
  view_for who = view_of store.site (row_of who)

  abbrev beside_for : Asking → Beside
  beside_for who = beside_of media (row_of who)

  abbrev So : Answer → Type 0
  So answer = AnsweredSo request.body store answer new result

  pub people_so : new ≡ store → is_for_people request ≡ true
      → IfOk result (λ a. a ≡ people_answer (people_reply render browse (view_for told) (beside_for told) told request) close request)
      → So (unedited browse render (view_for told) (beside_for told) told left close request)
  people_so stays people is =
      subst So (is_shown browse render (view_for told) (beside_for told) told left close request people)
      (subst (λ after. AnsweredSo request.body store (people_answer (people_reply render browse (view_for told) (beside_for told) told request) close request)
      after result) (sym stays)
      (told_alone store request.body (people_answer (people_reply render browse (view_for told) (beside_for told) told request) close request) result is
      refl))

  pub plain_so : is_for_people request ≡ false
      → So (plain_answer (dress_for browse told) (kept_from_guests (is_guest told)
      (response_to render (view_for told) (beside_for told) (row_of told) left request)) close request)
      → So (unedited browse render (view_for told) (beside_for told) told left close request)
  plain_so people answered = subst So (is_plain browse render (view_for told) (beside_for told) told left close request people) answered

  module _ (asking : Asking) (same : told ≡ asking) (style : asks_for_style request ≡ false) where
    by_asking : So (browsed browse render (view_for told) (beside_for told) told left close request)
        → So (browsed browse render (view_for asking) (beside_for asking) asking left close request)
    by_asking answered = subst (λ who. So (browsed browse render (view_for who) (beside_for who) who left close request)) same answered

    pub unedited_so : edit_response render browse (view_for told) (beside_for told) told left (is_for_people request) request ≡ None
        → So (unedited browse render (view_for told) (beside_for told) told left close request)
        → So (browsed browse render (view_for asking) (beside_for asking) asking left close request)
    unedited_so none answered =
        by_asking (subst So (is_unedited browse render (view_for told) (beside_for told) told left close request style none) answered)

    pub edited_so : (row : Reader) (what : EditRequest) → Some row ≡ row_of told → edit_request_of browse request ≡ Some what
        → So (editing_answer (dress_for browse told) (by_entry render browse (view_of store.site (Some row)) (beside_of media (Some row)) (is_guest told) row left
        (is_for_people request) request what) close request)
        → So (browsed browse render (view_for asking) (beside_for asking) asking left close request)
    edited_so row what some is answered =
        by_asking (subst So
        (is_edited browse render (view_for told) (beside_for told) told left close request
        (by_entry render browse (view_for told) (beside_for told) (is_guest told) row left (is_for_people request) request what) style
        (with_entry render browse (view_for told) (beside_for told) left (is_for_people request) request told row what some is))
        (subst (λ entry. So (editing_answer (dress_for browse told)
        (by_entry render browse (view_of store.site entry) (beside_of media entry) (is_guest told) row left (is_for_people request) request what) close request))
        some answered))

pub style_so : (browse : Browse) (render : Renders) (view : View) (beside : Beside) (asking : Asking) (store : StoreState) (left close : Bool)
    (request : Request) (result : Result Answer Memory) → asks_for_style request ≡ true
    → IfOk result (λ a. a ≡ style_answer close request)
    → AnsweredSo request.body store (browsed browse render view beside asking left close request) store result
style_so browse render view beside asking store left close request result style is =
    subst (λ answer. AnsweredSo request.body store answer store result) (is_style browse render view beside asking left close request style)
    (told_alone store request.body (style_answer close request) result is refl)

-- a response to a request that edits, in an exchange that a request began
module _ (exchange : Exchange) (request : Request) (manner : Manner) (dress : Dress) (close : Bool) (same : exchange.request.now ≡ request)
    (kept : exchange.manner ≡ manner) (dressed : dress_of manner ≡ dress) (bare : manner.head_only ≡ is_bare request.method)
    (closes : manner.close ≡ close) where
  editing_sent_is : (response given : EditingResponse) → response ≡ given
      → editing_sent exchange response ≡ editing_answer dress given close request
  editing_sent_is response given is = λ i. record {
    bytes = reply_sent ((ap dress_of kept ∙ dressed) i) (is i).reply ((ap (λ (m : Manner). m.head_only) kept ∙ bare) i)
        ((ap (λ (m : Manner). m.close) kept ∙ closes) i);
    closes = (ap (λ (m : Manner). m.close) kept ∙ closes) i;
    edit = (is i).edit;
  }

  -- by whether a guest asks, whether the request is one for people, and the request
  pub editing_so : (by : Bool → Bool → Request → EditingResponse) (guest guests people for_people : Bool) (old new : StoreState)
      (result : Result Answer Memory) → guest ≡ guests → people ≡ for_people
      → AnsweredSo exchange.request.now.body old (editing_sent exchange (by guest people exchange.request.now)) new result
      → AnsweredSo request.body old (editing_answer dress (by guests for_people request) close request) new result
  editing_so by guest guests people for_people old new result is shows answered =
      subst (λ answer. AnsweredSo request.body old answer new result)
      (editing_sent_is (by guest people request) (by guests for_people request) (λ i. by (is i) (shows i) request))
      (subst (λ (r : Request). AnsweredSo r.body old (editing_sent exchange (by guest people r)) new result) same answered)

-- ---- how often texts are rendered

-- of an answer without an edit, where nothing changes
pub counted_alone : (rendered accepted rendered' accepted' : ℕ) (shows : Bool) (answer : Answer) (result : Result Answer Memory)
    → IfOk result (λ a. a ≡ answer) → answer.edit ≡ None → rendered' ≡ rendered → accepted' ≡ accepted → shows ≡ false
    → IfOk result (λ a. RendersPuts rendered accepted rendered' accepted' (moves_of a.edit) (previews_of shows))
counted_alone rendered accepted rendered' accepted' shows answer (Ok told) is none same stays unseen =
    let moves = ap (λ (a : Answer). moves_of a.edit) is ∙ ap moves_of none in
    let previews = ap previews_of unseen in
    omega arith
counted_alone rendered accepted rendered' accepted' shows answer (Err e) is none same stays unseen = tt

-- of an answer that shows a preview, or none
pub counted_as : (rendered accepted rendered' accepted' : ℕ) (shows shown : Bool) (result : Result Answer Memory) → shows ≡ shown
    → IfOk result (λ a. RendersPuts rendered accepted rendered' accepted' (moves_of a.edit) (previews_of shows))
    → IfOk result (λ a. RendersPuts rendered accepted rendered' accepted' (moves_of a.edit) (previews_of shown))
counted_as rendered accepted rendered' accepted' shows shown result same counted =
    subst (λ s. IfOk result (λ a. RendersPuts rendered accepted rendered' accepted' (moves_of a.edit) (previews_of s))) same counted

-- ---- by the settings

module _ (settings : Settings) (render : Renders) (media : Media) (readers : ReaderTable) (left : Bool) (request : Request)
    (old new : StoreState)
    (result : Result Answer Memory) where
  abbrev wants : Option Browse → Type 0
  wants browse =
      AnsweredSo request.body old (answer_with render old.site media readers left (closes_after settings request) request browse) new result

  pub answered_without : None ≡ settings.browse
      → AnsweredSo request.body old (plain_answer undressed (response_to render (view_of old.site (entry_of readers request))
      (beside_of media (entry_of readers request)) (entry_of readers request) left request) (closes_after settings request) request) new result → wants settings.browse
  answered_without none answered =
      subst wants none
      (subst (λ answer. AnsweredSo request.body old answer new result)
      (sym (answer_without render old.site media readers left (closes_after settings request) request)) answered)

  pub answered_with : (browse : Browse) → Some browse ≡ settings.browse → wants (Some browse) → wants settings.browse
  answered_with browse some answered = subst wants some answered
