-- Answers in which media have a part, as they are put together.
use Rattle.std.proofs.Common.{◌≡◌, Bool, true, false, List, ℕ, arith, refl, ap, sym, ◌∙◌, subst}
use Rattle.std.specs.Prelude.{◌&&◌, not, IfOk, Option, Some, None, option_map, Result, Ok, Err, if◌then◌else◌}
use Rattle.doc_http.specs.Requests.{is_bare}
use Rattle.doc_http.specs.declared.request.Request.{Request}
use Rattle.doc_http_media.specs.MediumReplies.{medium_bytes}
use Rattle.doc_http_replies.specs.Heads.{Dress}
use Rattle.doc_http_replies.specs.Manners.{dress_of}
use Rattle.doc_http_replies.specs.declared.manner.Manner.{Manner}
use Rattle.doc_http_targets.specs.Targets.{Route, route_of}
use Rattle.doc_http_targets.specs.WrittenPaths.{path_written}
use Rattle.doc_media.specs.Media.{Beside, Media, beside_of}
use Rattle.doc_page_parts.specs.declared.failure.Memory.{Memory}
use Rattle.doc_people.specs.declared.settings.Browse.{Browse}
use Rattle.doc_people.specs.declared.settings.Settings.{Settings}
use Rattle.doc_store.specs.Store.{StoreState}
use Rattle.doc_store_readers.specs.Maps.{TextMap}
use Rattle.doc_store_readers.specs.Pages.{Page}
use Rattle.doc_store_readers.specs.Readers.{ReaderTable}
use Rattle.doc_store_readers.specs.Sites.{Site, View, view_of}
use Rattle.doc_store_readers.specs.declared.reader.Reader.{Reader}
use Rattle.doc_hub_media.specs.AnswerSteps.{AnsweredSo}
use Rattle.doc_hub_media.specs.Counts.{RendersPuts, moves_of, previews_of}
use Rattle.doc_hub_media.specs.Replies.{Renders, method_of}
use Rattle.doc_hub_media.specs.Answer.{Answer}
use Rattle.doc_hub_media.specs.Exchange.{Exchange}
use Rattle.doc_hub_media.specs.Method.{Method}
use Rattle.doc_hub_asking.specs.Asking.{Asking, is_guest, owns, reader_asking, row_of}
use Rattle.doc_hub_asking.specs.Asking as asked
use Rattle.doc_hub_editing_refusals.specs.Asked.{EditRequest}
use Rattle.doc_hub_editing_refusals.specs.Asked as requests
use Rattle.doc_hub_media.specs.EditAnswers as editing
use Rattle.doc_hub_media.specs.EditResponses.{EditingResponse, refused, reply_sent}
use Rattle.doc_hub_media.proofs.MediaLaws.{media_edit_nothing}
use Rattle.doc_hub_media.specs.MediaAnswers.{MediaResponse, Medium, Other, by_entry, is_preview_kept, keeps_preview, kept_at}
use Rattle.doc_hub_media.specs.MediaAnswers.{media_answer, media_response, medium_reply, response_by, where_kept}
use Rattle.doc_hub_media.specs.MediaRequests.{MediaRequest, asked_by, edit_asked, media_request_of}
use Rattle.doc_hub_media.specs.MediaSteps.{media_sent, sent_if}
use Rattle.doc_hub_replies.proofs.AnswerLaws.{by_media, by_pages_alone, with_response}
use Rattle.doc_hub_replies.proofs.ServingSteps.{counted_alone, counted_as, told_alone}
use Rattle.doc_hub_replies.specs.Answers.{answer_beside, answer_by, answer_of, asks_preview, dress_by, is_for_people, shows_preview}
use Rattle.doc_hub_replies.specs.ServingSteps.{answered_beside, closes_after, response_beside}

some_is_not_none : {X P : Type 0} (x : X) → Some x ≡ None → P
some_is_not_none x is = absurd (no x is)
  where
    no : {X : Type 0} (x : X) → Some x ≡ None → ⊥
    no x h = cc

same_under_some : {X : Type 0} (x y : X) → Some x ≡ Some y → x ≡ y
same_under_some x y is = cc

-- ---- previews of paths that are kept

-- by whether an owner asks, whether the path is kept, and whether a text would be shown
hides_by : (owner kept shows : Bool) (given : EditingResponse) (response : MediaResponse)
    → (if owner then where_kept kept given else None) ≡ Some response → ((owner && shows) && not kept) ≡ false
hides_by true true true given response is = refl
hides_by true true false given response is = refl
hides_by true false shows given response is = some_is_not_none response (sym is)
hides_by false kept shows given response is = refl

shows_by : (owner kept shows : Bool) (given : EditingResponse) → (if owner then where_kept kept given else None) ≡ None
    → ((owner && shows) && not kept) ≡ (owner && shows)
shows_by true true shows given is = some_is_not_none (Other given) is
shows_by true false true given is = refl
shows_by true false false given is = refl
shows_by false kept shows given is = refl

module _ (browse : Option Browse) (render : Renders) (view : View) (beside : Beside) (people : Bool) (request : Request) where
  abbrev shown_beside : Bool → Option EditRequest → Bool
  shown_beside owner what = editing.shows_preview owner request what && not (keeps_preview view beside what)

  hidden_at : (guest : Bool) (reader : Reader) (what : Option EditRequest) (route : Option Route) (method : Method)
      (response : MediaResponse)
      → by_entry browse render view beside guest reader people request (asked_by what route method) ≡ Some response
      → shown_beside reader.owner what ≡ false
  hidden_at guest reader None route method response is = refl
  hidden_at guest reader (Some (requests.Preview rest)) route method response is =
      hides_by reader.owner (kept_at view beside (path_written rest)) (editing.shows_preview_at (path_written rest) request) (refused 404)
      response is
  hidden_at guest reader (Some (requests.ReadSource rest)) route method response is = refl
  hidden_at guest reader (Some (requests.PutSource rest)) route method response is = refl
  hidden_at guest reader (Some (requests.PutPage rest)) route method response is = refl
  hidden_at guest reader (Some (requests.Remove rest)) route method response is = refl
  hidden_at guest reader (Some (requests.Regroup rest)) route method response is = refl
  hidden_at guest reader (Some (requests.Move rest)) route method response is = refl
  hidden_at guest reader (Some (requests.Open rest)) route method response is = refl
  hidden_at guest reader (Some (requests.NotAllowed resource)) route method response is = refl

  shown_at : (guest : Bool) (reader : Reader) (what : Option EditRequest) (route : Option Route) (method : Method)
      → by_entry browse render view beside guest reader people request (asked_by what route method) ≡ None
      → shown_beside reader.owner what ≡ editing.shows_preview reader.owner request what
  shown_at guest reader None route method is = refl
  shown_at guest reader (Some (requests.Preview rest)) route method is =
      shows_by reader.owner (kept_at view beside (path_written rest)) (editing.shows_preview_at (path_written rest) request)
      (refused 404) is
  shown_at guest reader (Some (requests.ReadSource rest)) route method is = refl
  shown_at guest reader (Some (requests.PutSource rest)) route method is = refl
  shown_at guest reader (Some (requests.PutPage rest)) route method is = refl
  shown_at guest reader (Some (requests.Remove rest)) route method is = refl
  shown_at guest reader (Some (requests.Regroup rest)) route method is = refl
  shown_at guest reader (Some (requests.Move rest)) route method is = refl
  shown_at guest reader (Some (requests.Open rest)) route method is = refl
  shown_at guest reader (Some (requests.NotAllowed resource)) route method is = refl

  nobody_at : (what : Option EditRequest) → shown_beside false what ≡ editing.shows_preview false request what
  nobody_at None = refl
  nobody_at (Some (requests.Preview rest)) = refl
  nobody_at (Some (requests.ReadSource rest)) = refl
  nobody_at (Some (requests.PutSource rest)) = refl
  nobody_at (Some (requests.PutPage rest)) = refl
  nobody_at (Some (requests.Remove rest)) = refl
  nobody_at (Some (requests.Regroup rest)) = refl
  nobody_at (Some (requests.Move rest)) = refl
  nobody_at (Some (requests.Open rest)) = refl
  nobody_at (Some (requests.NotAllowed resource)) = refl

  hidden_by : (asking : Asking) (response : MediaResponse)
      → response_by browse render view beside asking people request ≡ Some response
      → shown_beside (owns asking) (edit_asked browse request) ≡ false
  hidden_by asked.Nobody response is = some_is_not_none response (sym is)
  hidden_by (asked.Guest row) response is =
      hidden_at true row (edit_asked browse request) (route_of request.target) (method_of request.method) response is
  hidden_by (asked.Known row) response is =
      hidden_at false row (edit_asked browse request) (route_of request.target) (method_of request.method) response is

  shown_by : (asking : Asking) → response_by browse render view beside asking people request ≡ None
      → shown_beside (owns asking) (edit_asked browse request) ≡ editing.shows_preview (owns asking) request (edit_asked browse request)
  shown_by asked.Nobody is = nobody_at (edit_asked browse request)
  shown_by (asked.Guest row) is =
      shown_at true row (edit_asked browse request) (route_of request.target) (method_of request.method) is
  shown_by (asked.Known row) is =
      shown_at false row (edit_asked browse request) (route_of request.target) (method_of request.method) is

asks_is : (browse : Option Browse) (asking : Asking) (request : Request)
    → asks_preview browse asking request ≡ editing.shows_preview (owns asking) request (edit_asked browse request)
asks_is None asking request = refl
asks_is (Some browse) asking request = refl

kept_beside_none : (view : View) (path : Option (List ℕ)) → kept_at view None path ≡ false
kept_beside_none view None = refl
kept_beside_none view (Some path) = refl

keeps_none : (view : View) (what : Option EditRequest) → keeps_preview view None what ≡ false
keeps_none view None = refl
keeps_none view (Some (requests.Preview rest)) = kept_beside_none view (path_written rest)
keeps_none view (Some (requests.ReadSource rest)) = refl
keeps_none view (Some (requests.PutSource rest)) = refl
keeps_none view (Some (requests.PutPage rest)) = refl
keeps_none view (Some (requests.Remove rest)) = refl
keeps_none view (Some (requests.Regroup rest)) = refl
keeps_none view (Some (requests.Move rest)) = refl
keeps_none view (Some (requests.Open rest)) = refl
keeps_none view (Some (requests.NotAllowed resource)) = refl

with_true : (b : Bool) → (b && true) ≡ b
with_true true = refl
with_true false = refl

-- where media have a part in the answer nothing is rendered for it
hidden : (browse : Option Browse) (render : Renders) (view : View) (beside : Beside) (asking : Asking) (people : Bool) (request : Request)
    (response : MediaResponse) → media_response browse render view beside asking people request ≡ Some response
    → shows_preview browse view beside asking request ≡ false
unfolding media_response
hidden browse render view None asking people request response is = some_is_not_none response (sym is)
hidden browse render view (Some held) asking people request response is =
    ap (λ asks. asks && not (is_preview_kept browse view (Some held) request)) (asks_is browse asking request)
    ∙ hidden_by browse render view (Some held) people request asking response is

-- and where they have none, what is rendered without them
shown : (browse : Option Browse) (render : Renders) (view : View) (beside : Beside) (asking : Asking) (people : Bool) (request : Request)
    → media_response browse render view beside asking people request ≡ None
    → asks_preview browse asking request ≡ shows_preview browse view beside asking request
unfolding media_response
shown browse render view None asking people request is =
    sym (ap (λ kept. asks_preview browse asking request && not kept) (keeps_none view (edit_asked browse request))
    ∙ with_true (asks_preview browse asking request))
shown browse render view (Some held) asking people request is =
    asks_is browse asking request ∙ sym (shown_by browse render view (Some held) people request asking is)
    ∙ ap (λ asks. asks && not (is_preview_kept browse view (Some held) request)) (sym (asks_is browse asking request))

-- ---- answers

module _ (settings : Settings) (render : Renders) (readers : ReaderTable) (media : Media) (left : Bool) (request : Request)
    (old : StoreState) where
  abbrev asking : Asking
  asking = reader_asking settings.browse readers request

  abbrev view : View
  view = view_of old.site (row_of asking)

  abbrev beside : Beside
  beside = beside_of media (row_of asking)

  abbrev response : Option MediaResponse
  response = response_beside settings readers render old.site media request

  abbrev wanted : Answer
  wanted = answer_of settings render view beside asking left request

  answer_is : (given : MediaResponse) → response ≡ Some given
      → wanted ≡ media_answer (dress_by settings.browse asking) given (closes_after settings request) request
  unfolding answer_of
  answer_is given is = ap (with_response settings.browse render view beside asking left (closes_after settings request) request) is

  told_by : (given : Option MediaResponse) (answer : Answer) → response ≡ given
      → Some answer ≡ answered_beside settings readers request given
      → AnsweredSo request.body old wanted old (Ok answer)
  told_by None answer is some = some_is_not_none answer some
  told_by (Some given) answer is some =
      let told = media_answer (dress_by settings.browse asking) given (closes_after settings request) request in
      subst (λ a. AnsweredSo request.body old a old (Ok answer)) (sym (answer_is given is))
      (told_alone old request.body told (Ok answer) (same_under_some answer told some)
      (media_edit_nothing settings.browse render view beside asking (is_for_people request) (closes_after settings request) request
      (dress_by settings.browse asking) given is))

  pub media_so : (answer : Answer) → Some answer ≡ answered_beside settings readers request response
      → AnsweredSo request.body old wanted old (Ok answer)
  media_so answer some = told_by response answer refl some

  none_by : (given : Option MediaResponse) → None ≡ answered_beside settings readers request given → given ≡ None
  none_by None none = refl
  none_by (Some given) none = some_is_not_none _ (sym none)

  pub pages_so : (new : StoreState) (result : Result Answer Memory) → None ≡ answered_beside settings readers request response
      → AnsweredSo request.body old (answer_by settings.browse render view beside asking left (closes_after settings request) request) new result
      → AnsweredSo request.body old wanted new result
  unfolding answer_of
  pages_so new result none answered =
      subst (λ a. AnsweredSo request.body old a new result)
      (sym (by_pages_alone settings.browse render view beside asking left (closes_after settings request) request
      (none_by response none))) answered

  shows_none : (given : Option MediaResponse) (answer : Answer) → response ≡ given
      → Some answer ≡ answered_beside settings readers request given → shows_preview settings.browse view beside asking request ≡ false
  shows_none None answer is some = some_is_not_none answer some
  shows_none (Some given) answer is some = hidden settings.browse render view beside asking (is_for_people request) request given is

  edit_none : (given : Option MediaResponse) (answer : Answer) → response ≡ given
      → Some answer ≡ answered_beside settings readers request given → answer.edit ≡ None
  edit_none None answer is some = some_is_not_none answer some
  edit_none (Some given) answer is some =
      ap (λ (a : Answer). a.edit)
      (same_under_some answer (media_answer (dress_by settings.browse asking) given (closes_after settings request) request) some)
      ∙ media_edit_nothing settings.browse render view beside asking (is_for_people request) (closes_after settings request) request
      (dress_by settings.browse asking) given is

  -- where media have a part in the answer, nothing is rendered for it
  pub media_counted : (rendered accepted : ℕ) (answer : Answer) → Some answer ≡ answered_beside settings readers request response
      → RendersPuts rendered accepted rendered accepted (moves_of answer.edit)
      (previews_of (shows_preview settings.browse view beside asking request))
  media_counted rendered accepted answer some =
      counted_alone rendered accepted rendered accepted (shows_preview settings.browse view beside asking request) answer (Ok answer) refl
      (edit_none response answer refl some) refl refl (shows_none response answer refl some)

  pub pages_counted : (rendered accepted rendered' accepted' : ℕ) (result : Result Answer Memory)
      → None ≡ answered_beside settings readers request response
      → IfOk result (λ a. RendersPuts rendered accepted rendered' accepted' (moves_of a.edit)
      (previews_of (asks_preview settings.browse asking request)))
      → IfOk result (λ a. RendersPuts rendered accepted rendered' accepted' (moves_of a.edit)
      (previews_of (shows_preview settings.browse view beside asking request)))
  pages_counted rendered accepted rendered' accepted' result none counted =
      counted_as rendered accepted rendered' accepted' (asks_preview settings.browse asking request)
      (shows_preview settings.browse view beside asking request) result
      (shown settings.browse render view beside asking (is_for_people request) request (none_by response none)) counted

-- ---- in an exchange that a request began

module _ (exchange : Exchange) (request : Request) (manner : Manner) (dress : Dress) (close : Bool) (kept : exchange.manner ≡ manner)
    (dressed : dress_of manner ≡ dress) (bare : manner.head_only ≡ is_bare request.method) (closes : manner.close ≡ close) where
  is_dressed : dress_of exchange.manner ≡ dress
  is_dressed = ap dress_of kept ∙ dressed

  is_bare_so : exchange.manner.head_only ≡ is_bare request.method
  is_bare_so = ap (λ (m : Manner). m.head_only) kept ∙ bare

  closes_so : exchange.manner.close ≡ close
  closes_so = ap (λ (m : Manner). m.close) kept ∙ closes

  sent_is : (response : MediaResponse) → media_sent exchange response ≡ media_answer dress response close request
  sent_is (Medium kind bytes) = λ i. record {
    bytes = medium_bytes (medium_reply (ap (λ (d : Dress). d.private) is_dressed i) kind bytes) (is_bare_so i) (closes_so i);
    closes = closes_so i;
    edit = None;
  }
  sent_is (Other response) = λ i. record {
    bytes = reply_sent (is_dressed i) response.reply (is_bare_so i) (closes_so i);
    closes = closes_so i;
    edit = response.edit;
  }

  pub sent_if_is : (response : Option MediaResponse)
      → sent_if exchange response ≡ option_map (λ given. media_answer dress given close request) response
  sent_if_is None = refl
  sent_if_is (Some response) = ap Some (sent_is response)

-- ---- by the entry of who asks

pub with_row : (browse : Option Browse) (render : Renders) (view : View) (media : Media) (people : Bool) (request : Request)
    (asking : Asking) (row : Reader) → Some row ≡ row_of asking
    → by_entry browse render view (beside_of media (Some row)) (is_guest asking) row people request (media_request_of browse request)
    ≡ response_by browse render view (beside_of media (row_of asking)) asking people request
with_row browse render view media people request asked.Nobody row some = some_is_not_none row some
with_row browse render view media people request (asked.Guest other) row some =
    ap (λ (r : Reader). by_entry browse render view (beside_of media (Some r)) true r people request (media_request_of browse request))
    (same_under_some row other some)
with_row browse render view media people request (asked.Known other) row some =
    ap (λ (r : Reader). by_entry browse render view (beside_of media (Some r)) false r people request (media_request_of browse request))
    (same_under_some row other some)

-- ---- where media may have a part

-- who has no entry
none_by_row : (browse : Option Browse) (render : Renders) (view : View) (beside : Beside) (asking : Asking) (people : Bool)
    (request : Request) → None ≡ row_of asking → media_response browse render view beside asking people request ≡ None
unfolding media_response
none_by_row browse render view None asking people request none = refl
none_by_row browse render view (Some held) asked.Nobody people request none = refl
none_by_row browse render view (Some held) (asked.Guest row) people request none = some_is_not_none row (sym none)
none_by_row browse render view (Some held) (asked.Known row) people request none = some_is_not_none row (sym none)

-- what asks nothing of media
none_by_what : (browse : Option Browse) (render : Renders) (view : View) (beside : Beside) (asking : Asking) (people : Bool)
    (request : Request) → media_request_of browse request ≡ None
    → media_response browse render view beside asking people request ≡ None
unfolding media_response
none_by_what browse render view None asking people request none = refl
none_by_what browse render view (Some held) asked.Nobody people request none = refl
none_by_what browse render view (Some held) (asked.Guest row) people request none =
    ap (by_entry browse render view (Some held) true row people request) none
none_by_what browse render view (Some held) (asked.Known row) people request none =
    ap (by_entry browse render view (Some held) false row people request) none

media_is : (browse : Option Browse) (render : Renders) (view : View) (media : TextMap Page) (asking : Asking) (people : Bool)
    (request : Request)
    → response_by browse render view (beside_of (Some media) (row_of asking)) asking people request
    ≡ media_response browse render view (beside_of (Some media) (row_of asking)) asking people request
unfolding media_response
media_is browse render view media asking people request = refl

module _ (settings : Settings) (readers : ReaderTable) (render : Renders) (site : Site) (request : Request) where
  abbrev answered : Media → Option Answer
  answered media = answered_beside settings readers request (response_beside settings readers render site media request)

  without_media : answered None ≡ None
  unfolding media_response
  without_media = refl

  pub no_media : (media : Media) → media ≡ None → None ≡ answered media
  no_media media none = sym (ap answered none ∙ without_media)

  pub nothing_asked : (media : Media) → media_request_of settings.browse request ≡ None → None ≡ answered media
  nothing_asked media none =
      let asking = reader_asking settings.browse readers request in
      sym (ap (answered_beside settings readers request)
      (none_by_what settings.browse render (view_of site (row_of asking)) (beside_of media (row_of asking)) asking
      (is_for_people request) request none))

  pub nobody_asks : (media : Media) (told : Asking) → told ≡ reader_asking settings.browse readers request → None ≡ row_of told
      → None ≡ answered media
  nobody_asks media told same none =
      let asking = reader_asking settings.browse readers request in
      sym (ap (answered_beside settings readers request)
      (none_by_row settings.browse render (view_of site (row_of asking)) (beside_of media (row_of asking)) asking
      (is_for_people request) request (none ∙ ap row_of same)))

  module _ (media : TextMap Page) (exchange : Exchange) (manner : Manner) (told : Asking) (row : Reader) (what : MediaRequest)
      (browse : Option Browse) (guest people : Bool) (same : told ≡ reader_asking settings.browse readers request)
      (some : Some row ≡ row_of told) (what_is : media_request_of settings.browse request ≡ Some what) where
    response_is : exchange.request.now ≡ request → browse ≡ settings.browse → guest ≡ is_guest told → people ≡ is_for_people request
        → by_entry browse render (view_of site (Some row)) (beside_of (Some media) (Some row)) guest row people exchange.request.now
        (Some what) ≡ response_beside settings readers render site (Some media) request
    response_is is by guests shows =
        (λ i. by_entry (by i) render (view_of site (some i)) (beside_of (Some media) (Some row)) (guests i) row (shows i) (is i)
        (sym what_is i))
        ∙ with_row settings.browse render (view_of site (row_of told)) (Some media) (is_for_people request) request told row some
        ∙ media_is settings.browse render (view_of site (row_of told)) media told (is_for_people request) request
        ∙ ap (λ (who : Asking). media_response settings.browse render (view_of site (row_of who)) (beside_of (Some media) (row_of who)) who
        (is_for_people request) request) same

    pub medium_so : (result : Result (Option Answer) Memory) → exchange.request.now ≡ request → exchange.manner ≡ manner
        → dress_of manner ≡ dress_by settings.browse told → manner.head_only ≡ is_bare request.method
        → manner.close ≡ closes_after settings request → browse ≡ settings.browse → guest ≡ is_guest told
        → people ≡ is_for_people request
        → IfOk result (λ a. a ≡ sent_if exchange (by_entry browse render (view_of site (Some row)) (beside_of (Some media) (Some row))
        guest row people exchange.request.now (Some what)))
        → IfOk result (λ a. a ≡ answered (Some media))
    medium_so result is kept dressed bare closes by guests shows sent =
        subst (λ wanted. IfOk result (λ a. a ≡ wanted))
        (ap (sent_if exchange) (response_is is by guests shows)
        ∙ sent_if_is exchange request manner (dress_by settings.browse (reader_asking settings.browse readers request))
        (closes_after settings request) kept (dressed ∙ ap (dress_by settings.browse) same) bare closes
        (response_beside settings readers render site (Some media) request)) sent
