-- No answer makes an edit that brings a page to the path of a medium: of owners, who see all media, such an edit is refused before.
use Rattle.std.proofs.Common.{◌≡◌, ℕ, List, Bool, true, false, is_some, refl, ap, sym, subst, ◌∙◌}
use Rattle.std.specs.Prelude.{⊤, ◌||◌, codes, not, Option, Some, None, IfSome, Result, Ok, Err, option_map, if◌then◌else◌}
use Rattle.std.specs.Str.{is_utf8}
use Rattle.doc_page_parts.proofs.Bools.{or_first}
use Rattle.doc_page_parts.specs.Paths.{path_of}
use Rattle.doc_page_parts.specs.declared.path.PathError.{PathError}
use Rattle.doc_store_readers.specs.Groups.{groups_of}
use Rattle.doc_store_readers.specs.Pages.{Page}
use Rattle.doc_store_readers.specs.Sites.{View, goal_in, page_at, view_of}
use Rattle.doc_store_readers.specs.declared.groups.GroupsError.{GroupsError}
use Rattle.doc_store_readers.specs.declared.reader.Reader.{Reader}
use Rattle.doc_media.specs.Media.{Beside, Media, beside_of, site_of_media}
use Rattle.doc_http.specs.declared.request.Request.{Request}
use Rattle.doc_http_targets.specs.Queries.{optional_parameter, parameter}
use Rattle.doc_http_targets.specs.Targets.{Route, route_of}
use Rattle.doc_http_targets.specs.Targets as routes
use Rattle.doc_http_targets.specs.WrittenPaths.{path_written}
use Rattle.doc_people.specs.KeptPaths.{is_kept}
use Rattle.doc_people.specs.declared.settings.Browse.{Browse}
use Rattle.doc_people.specs.declared.settings.Offers.{Offers}
use Rattle.doc_hub_replies.specs.Replies.{Renders, Response, status_reply}
use Rattle.doc_hub_replies.specs.Replies as plain
use Rattle.doc_hub_replies.specs.Replies.{method_of, reads, response_to}
use Rattle.doc_hub_replies.specs.Edit.{Edit}
use Rattle.doc_hub_replies.specs.Edit.TheVariants as edits
use Rattle.doc_hub_replies.specs.Method.{Method}
use Rattle.doc_hub_replies.specs.Method.TheVariants.{Get, Head, Put, Delete, Post, Other}
use Rattle.doc_hub_replies.proofs.OwnerSteps.{owner_page}
use Rattle.doc_hub_asking.specs.Asking.{Asking, row_of}
use Rattle.doc_hub_asking.specs.Asking as asked
use Rattle.doc_hub_replies.specs.PeopleAnswers.{offers_for}
use Rattle.doc_hub_editing_refusals.specs.Asked.{EditRequest}
use Rattle.doc_hub_editing_refusals.specs.Asked as requests
use Rattle.doc_hub_replies.specs.EditRequests.{edit_request_of}
use Rattle.doc_hub_replies.specs.EditResponses.{EditingReply, EditingResponse, Plain, full_by, refused_for, unless, unmet_by}
use Rattle.doc_hub_replies.specs.EditAnswers.{begins_path, by_entry, by_other, by_owner, edit_response, folder_begun, form_at, groups_put}
use Rattle.doc_hub_replies.specs.EditAnswers.{move_done, move_named, move_page, new_form, no_alias_room, no_room, not_found, open_form}
use Rattle.doc_hub_replies.specs.EditAnswers.{page_of, preview_at, put_at, put_done, put_page, put_text, read_source, regroup_done}
use Rattle.doc_hub_replies.specs.EditAnswers.{regroup_named, regroup_page, remove_page, response_if, source_or_goal}
use Rattle.doc_hub_replies.specs.Edits.{puts_taken}
use Rattle.doc_hub_replies.specs.Answers.{answer_beside, answer_by, answer_of, asks_for_style, dress_by, dress_for, edited_or}
use Rattle.doc_hub_replies.specs.Answers.{is_for_people}
use Rattle.doc_hub_replies.specs.Answers.{media_or, style_answer, unedited}
use Rattle.doc_hub_replies.specs.MediaAnswers.{MediaResponse, media_answer, media_response, kept_at, move_to, read_alone, where_kept}
use Rattle.doc_hub_replies.specs.MediaAnswers as media_answers
use Rattle.doc_hub_replies.specs.MediaRequests.{MediaRequest}
use Rattle.doc_hub_replies.specs.MediaRequests as media_requests
use Rattle.doc_hub.proofs.AnswerEdits.{not_editing}
use Rattle.doc_hub.proofs.Apart.{StaysFree}
use Rattle.doc_hub_replies.proofs.MediaLaws.{media_edit_nothing}
use Rattle.doc_hub_replies.proofs.TakingLaws.{given_by_edit}
use Rattle.doc_hub.specs.Worlds.{World, answer_in, asking_of, has_medium, reader_of}

some_none : {X Y : Type 0} (x : X) → Some x ≡ None → Y
some_none {X = X} x is = absurd (unlike x is)
  where
    unlike : (x : X) → Some x ≡ None → ⊥
    unlike x e = cc

not_kept : (kept : Bool) (response : EditingResponse) → where_kept kept response ≡ None → kept ≡ false
not_kept true response none = some_none _ none
not_kept false response none = refl

module _ (media : Media) where
  -- no medium stands at the path, where there is one
  abbrev Open : Option (List ℕ) → Type 0
  Open path = IfSome path (λ p. has_medium media p ≡ false)

  -- ---- requests that edit

  abbrev Fits : EditingResponse → Type 0
  Fits response = StaysFree media response.edit

  -- of two responses, and where something may stand against one
  either : (test : Bool) (one other : EditingResponse) → Fits one → Fits other → Fits (if test then one else other)
  either true one other fits also = fits
  either false one other fits also = also

  unless_fits : (against : Option EditingReply) (done : EditingResponse) → Fits done → Fits (unless against done)
  unless_fits None done fits = fits
  unless_fits (Some reply) done fits = tt

  module _ (view : View) (left : Bool) (request : Request) where
    module _ (at_source : Bool) where
      text_fits : (path : List ℕ) (stands : Option Page) (groups : List (List ℕ)) → has_medium media path ≡ false
          → Fits (put_text view left at_source path stands groups request)
      text_fits path stands groups free =
          let done : EditingResponse = put_done at_source path (is_some stands) (record { groups = groups; text = request.body }) in
          let against : Option EditingReply = full_by (no_room view left stands request.body) in
          either (is_utf8 request.body) (unless against done) (refused_for 400 (codes "the text is not UTF-8"))
          (unless_fits against done free) tt

      page_fits : (path : List ℕ) (stands : Option Page) (groups : Result (List (List ℕ)) GroupsError) → has_medium media path ≡ false
          → Fits (put_page view left at_source path stands groups request)
      page_fits path stands (Err e) free = tt
      page_fits path stands (Ok groups) free = unless_fits (unmet_by false request stands)
          (put_text view left at_source path stands groups request) (text_fits path stands groups free)

      put_fits : (path : Option (List ℕ)) → Open path → Fits (put_at view left at_source path request)
      put_fits None free = tt
      put_fits (Some path) free =
          page_fits path (page_at view.pages path) (groups_put at_source (page_at view.pages path) request.target) free

    removal_fits : (found : Option (List ℕ × Page)) → Fits (remove_page found request)
    removal_fits None = tt
    removal_fits (Some found) = unless_fits (unmet_by false request (Some found.1)) _ tt

    groups_fit : (found : Option (List ℕ × Page)) (groups : List (List ℕ)) → Fits (regroup_page view left found groups request)
    groups_fit None groups = tt
    groups_fit (Some found) groups =
        let done : EditingResponse = regroup_done found.0 found.1 groups in
        let against : Option EditingReply = full_by (no_room view left (Some found.1) found.1.text) in
        unless_fits (unmet_by false request (Some found.1)) (unless against done) (unless_fits against done tt)

    regroup_fits : (found : Option (List ℕ × Page)) (groups : Option (Result (List (List ℕ)) GroupsError))
        → Fits (regroup_named view left found groups request)
    regroup_fits found None = tt
    regroup_fits found (Some (Err e)) = tt
    regroup_fits found (Some (Ok groups)) = groups_fit found groups

    -- a page that stands goes to the path of no medium
    abbrev MovesFree : Option (List ℕ × Page) → Option (Result (List ℕ) PathError) → Type 0
    MovesFree None to = ⊤
    MovesFree (Some found) None = ⊤
    MovesFree (Some found) (Some (Err e)) = ⊤
    MovesFree (Some found) (Some (Ok to)) = has_medium media to ≡ false

    goal_fits : (found : List ℕ × Page) (to : List ℕ) → has_medium media to ≡ false → Fits (move_page view left (Some found) to request)
    goal_fits found to free =
        let done : EditingResponse = record { reply = Plain (status_reply 204); edit = Some (edits.Move found.0 to) } in
        let against : Option EditingReply = full_by (no_alias_room view left to) in
        unless_fits (unmet_by false request (Some found.1)) (move_done view left found.0 to)
        (either (is_some (page_at view.pages to)) (refused_for 409 (codes "a page stands at to")) (unless against done) tt
        (unless_fits against done free))

    move_fits : (found : Option (List ℕ × Page)) (to : Option (Result (List ℕ) PathError)) → MovesFree found to
        → Fits (move_named view left found to request)
    move_fits found None free = tt
    move_fits found (Some (Err e)) free = tt
    move_fits None (Some (Ok to)) free = tt
    move_fits (Some found) (Some (Ok to)) free = goal_fits found to free

    source_fits : (page : Option Page) (goal : Option (List ℕ)) → Fits (source_or_goal page goal request)
    source_fits None goal = tt
    source_fits (Some page) goal = unless_fits (unmet_by true request (Some page)) _ tt

    read_fits : (path : Option (List ℕ)) → Fits (read_source view path request)
    read_fits None = tt
    read_fits (Some path) = source_fits (page_at view.pages path) (goal_in view path)

    -- what is asked brings no page to the path of a medium
    abbrev IsFree : EditRequest → Type 0
    IsFree (requests.PutSource rest) = Open (path_written rest)
    IsFree (requests.PutPage rest) = Open (path_written rest)
    IsFree (requests.Move rest) =
        MovesFree (page_of view (path_written rest)) (option_map path_of (optional_parameter request.target (codes "to")))
    IsFree what = ⊤

    module _ (beside : Beside) (render : Renders) (browse : Browse) (offers : Offers) (for_people : Bool) where
      none_fits : Fits (not_found render browse offers view for_people)
      none_fits = either for_people _ _ tt tt

      new_fits : (folder : Option (List ℕ)) → Fits (new_form render browse offers view for_people folder)
      new_fits None = none_fits
      new_fits (Some folder) = tt

      form_fits : (path : Option (List ℕ)) → Fits (form_at render browse offers view for_people path)
      form_fits None = none_fits
      form_fits (Some path) = tt

      open_fits : (rest : List ℕ) → Fits (open_form render browse offers view for_people rest)
      open_fits rest = either (begins_path rest) (new_form render browse offers view for_people (folder_begun rest))
          (form_at render browse offers view for_people (path_written rest)) (new_fits (folder_begun rest)) (form_fits (path_written rest))

      preview_fits : (path : Option (List ℕ)) → Fits (preview_at render browse view beside path request)
      preview_fits None = tt
      preview_fits (Some path) = either (not request.markdown) _ _ tt (either (is_utf8 request.body) _ _ tt tt)

      other_fits : (guest : Bool) (what : EditRequest) → Fits (by_other render browse offers view guest for_people what)
      other_fits guest (requests.NotAllowed resource) = tt
      other_fits true what = either for_people _ _ tt tt
      other_fits false (requests.Open rest) = either for_people _ _ tt tt
      other_fits false what = tt

      owner_fits : (what : EditRequest) → IsFree what → Fits (by_owner render browse offers view beside left for_people request what)
      owner_fits (requests.ReadSource rest) free = read_fits (path_written rest)
      owner_fits (requests.PutSource rest) free = put_fits true (path_written rest) free
      owner_fits (requests.PutPage rest) free = put_fits false (path_written rest) free
      owner_fits (requests.Remove rest) free = removal_fits (page_of view (path_written rest))
      owner_fits (requests.Regroup rest) free =
          regroup_fits (page_of view (path_written rest)) (option_map groups_of (optional_parameter request.target (codes "groups")))
      owner_fits (requests.Move rest) free =
          move_fits (page_of view (path_written rest)) (option_map path_of (optional_parameter request.target (codes "to"))) free
      owner_fits (requests.Open rest) free = open_fits rest
      owner_fits (requests.Preview rest) free = preview_fits (path_written rest)
      owner_fits (requests.NotAllowed resource) free = tt

    entry_fits : (beside : Beside) (render : Renders) (browse : Browse) (for_people guest : Bool) (reader : Reader) (what : EditRequest)
        → (reader.owner ≡ true → IsFree what) → Fits (by_entry render browse view beside guest reader left for_people request what)
    entry_fits beside render browse for_people guest reader what free = by reader.owner free
      where
        offers : Offers
        offers = offers_for browse guest reader.owner

        by : (owner : Bool) → (owner ≡ true → IsFree what)
            → Fits (if owner then by_owner render browse offers view beside left for_people request what
            else by_other render browse offers view guest for_people what)
        by true free = owner_fits beside render browse offers for_people what (free refl)
        by false free = other_fits beside render browse offers for_people guest what

    -- ---- where media have no part in it, it is free

    module _ (browse : Option Browse) (render : Renders) (guest for_people : Bool) (reader : Reader) where
      abbrev beside : Beside
      beside = beside_of media (Some reader)

      open_path : (path : List ℕ) → reader.owner ≡ true → is_kept view beside path ≡ false → has_medium media path ≡ false
      open_path path owns free = by media free
        where
          by : (m : Media) → is_kept view (beside_of m (Some reader)) path ≡ false → has_medium m path ≡ false
          by None free = refl
          by (Some held) free =
              ap is_some (sym (owner_page (site_of_media held) reader path owns))
              ∙ or_first (is_some (page_at (view_of (site_of_media held) (Some reader)).pages path)) _ free

      open_at : (path : Option (List ℕ)) → reader.owner ≡ true → kept_at view beside path ≡ false → Open path
      open_at None owns free = tt
      open_at (Some path) owns free = open_path path owns free

      moves_free : (found : Option (List ℕ × Page)) (to : Option (Result (List ℕ) PathError)) → reader.owner ≡ true
          → move_to view beside found to request ≡ None → MovesFree found to
      moves_free None to owns none = tt
      moves_free (Some found) None owns none = tt
      moves_free (Some found) (Some (Err e)) owns none = tt
      moves_free (Some found) (Some (Ok to)) owns none = open_path to owns (not_kept (is_kept view beside to) _ none)

      edit_free : (what : EditRequest) → reader.owner ≡ true
          → media_answers.edit_at browse render view beside guest for_people request what ≡ None → IsFree what
      edit_free (requests.ReadSource rest) owns none = tt
      edit_free (requests.PutSource rest) owns none =
          open_at (path_written rest) owns (not_kept (kept_at view beside (path_written rest)) read_alone none)
      edit_free (requests.PutPage rest) owns none =
          open_at (path_written rest) owns (not_kept (kept_at view beside (path_written rest)) read_alone none)
      edit_free (requests.Remove rest) owns none = tt
      edit_free (requests.Regroup rest) owns none = tt
      edit_free (requests.Move rest) owns none =
          moves_free (page_of view (path_written rest)) (option_map path_of (optional_parameter request.target (codes "to"))) owns none
      edit_free (requests.Open rest) owns none = tt
      edit_free (requests.Preview rest) owns none = tt
      edit_free (requests.NotAllowed resource) owns none = tt

      asked_free : (what : EditRequest)
          → media_answers.by_entry browse render view beside guest reader for_people request (Some (media_requests.Edit what)) ≡ None
          → reader.owner ≡ true → IsFree what
      asked_free what none owns =
          edit_free what owns
          (ap (λ owner. if owner then media_answers.edit_at browse render view beside guest for_people request what else None) (sym owns)
          ∙ none)

    -- ---- requests that don't edit by the settings

    abbrev FitsPlain : Response → Type 0
    FitsPlain response = StaysFree media response.edit

    either_plain : (test : Bool) (one other : Response) → FitsPlain one → FitsPlain other → FitsPlain (if test then one else other)
    either_plain true one other fits also = fits
    either_plain false one other fits also = also

    put_plain : (path : Option (List ℕ)) (groups : Result (List (List ℕ)) GroupsError) (text : List ℕ) → Open path
        → FitsPlain (plain.put_at view left path groups text)
    put_plain None groups text free = tt
    put_plain (Some path) (Err e) text free = tt
    put_plain (Some path) (Ok groups) text free = either_plain _ (plain.put_page view left path groups text) (plain.refused 400)
        (either_plain (plain.has_room view left path text) (plain.edited _ (edits.Put path groups)) (plain.refused 507) free tt) tt

    removal_plain : (path : Option (List ℕ)) → FitsPlain (plain.delete_at view path)
    removal_plain None = tt
    removal_plain (Some path) = either_plain _ (plain.edited 204 (edits.Remove path)) (plain.refused 404) tt tt

    owned : (owner : Bool) (rest : List ℕ) → (owner ≡ true → Open (path_written rest))
        → FitsPlain (if owner then plain.put_by view left rest request else plain.refused 403)
    owned true rest free =
        put_plain (path_written rest) (groups_of (parameter request.target (codes "groups"))) request.body (free refl)
    owned false rest free = tt

    module _ (browse : Option Browse) (render : Renders) (guest for_people : Bool) (reader : Reader) where
      -- media have no part in what is asked at this route by this method
      abbrev NoPart : Option Route → Method → Type 0
      NoPart route method =
          media_answers.by_entry browse render view (beside_of media (Some reader)) guest reader for_people request
          (media_requests.at_route route method) ≡ None

      page_plain : (rest : List ℕ) (method : Method) → NoPart (Some (routes.Page rest)) method
          → FitsPlain (plain.edit_page view reader.owner left rest request method)
      page_plain rest Get none = tt
      page_plain rest Head none = tt
      page_plain rest Put none =
          owned reader.owner rest (λ owns. asked_free browse render guest for_people reader (requests.PutPage rest) none owns)
      page_plain rest Delete none = either_plain reader.owner (plain.delete_at view (path_written rest)) (plain.refused 403)
          (removal_plain (path_written rest)) tt
      page_plain rest Post none = tt
      page_plain rest Other none = tt

      route_plain : (route : Route) (method : Method) → NoPart (Some route) method
          → FitsPlain (plain.edit_at view reader.owner left route request method)
      route_plain (routes.Page rest) method none = page_plain rest method none
      route_plain (routes.Backlinks rest) method none = tt
      route_plain routes.Contents method none = tt
      route_plain routes.Search method none = tt
      route_plain routes.Broken method none = tt

      found_plain : (route : Option Route) → NoPart route (method_of request.method)
          → FitsPlain (plain.on_route render view (beside_of media (Some reader)) reader.owner left route request)
      found_plain None none = tt
      found_plain (Some route) none =
          let method : Method = method_of request.method in
          either_plain (reads method) (plain.only_reply (plain.reply_at render view (beside_of media (Some reader)) route request))
          (plain.edit_at view reader.owner left route request method) tt (route_plain route method none)

      pub row_plain : NoPart (route_of request.target) (method_of request.method)
          → FitsPlain (response_to render view (beside_of media (Some reader)) (Some reader) left request)
      row_plain none = found_plain (route_of request.target) none

-- ---- answers

module _ (media : Media) (render : Renders) (view : View) (left : Bool) (request : Request) (for_people : Bool) where
  -- what media have a part in of a request, by who asks
  abbrev PartOf : Option Browse → Asking → Option MediaRequest → Option MediaResponse
  PartOf browse asked.Nobody what = None
  PartOf browse (asked.Guest row) what =
      media_answers.by_entry browse render view (beside_of media (Some row)) true row for_people request what
  PartOf browse (asked.Known row) what =
      media_answers.by_entry browse render view (beside_of media (Some row)) false row for_people request what

  part_is : (browse : Option Browse) (asking : Asking)
      → media_answers.response_by browse render view (beside_of media (row_of asking)) asking for_people request
      ≡ PartOf browse asking (media_requests.media_request_of browse request)
  part_is browse asked.Nobody = refl
  part_is browse (asked.Guest row) = refl
  part_is browse (asked.Known row) = refl

  abbrev route : Option Route
  route = route_of request.target

  abbrev method : Method
  method = method_of request.method

  plain_free : (browse : Option Browse) (asking : Asking) → PartOf browse asking (media_requests.at_route route method) ≡ None
      → StaysFree media (response_to render view (beside_of media (row_of asking)) (row_of asking) left request).edit
  plain_free browse asked.Nobody none = tt
  plain_free browse (asked.Guest row) none = row_plain media view left request browse render true for_people row none
  plain_free browse (asked.Known row) none = row_plain media view left request browse render false for_people row none

  unedited_free : (browse : Browse) (asking : Asking) (close : Bool)
      → StaysFree media (response_to render view (beside_of media (row_of asking)) (row_of asking) left request).edit
      → StaysFree media (unedited browse render view (beside_of media (row_of asking)) asking left close request).edit
  unedited_free browse asking close free =
      not_editing (StaysFree media) tt render view (beside_of media (row_of asking)) asking left request free browse close

  asked_so : (browse : Browse) (asking : Asking) (close : Bool) (what : Option EditRequest)
      → PartOf (Some browse) asking (media_requests.asked_by what route method) ≡ None
      → StaysFree media (edited_or (response_if render browse view (beside_of media (row_of asking)) asking left for_people request what)
      (dress_for browse asking) close request
      (unedited browse render view (beside_of media (row_of asking)) asking left close request)).edit
  asked_so browse asking close None none = unedited_free browse asking close (plain_free (Some browse) asking none)
  asked_so browse asked.Nobody close (Some what) none = unedited_free browse asked.Nobody close tt
  asked_so browse (asked.Guest row) close (Some what) none =
      entry_fits media view left request (beside_of media (Some row)) render browse for_people true row what
      (asked_free media view left request (Some browse) render true for_people row what none)
  asked_so browse (asked.Known row) close (Some what) none =
      entry_fits media view left request (beside_of media (Some row)) render browse for_people false row what
      (asked_free media view left request (Some browse) render false for_people row what none)

  styled : (browse : Browse) (asking : Asking) (close style : Bool)
      → PartOf (Some browse) asking (media_requests.media_request_of (Some browse) request) ≡ None
      → StaysFree media (if style then style_answer close request
      else edited_or (response_if render browse view (beside_of media (row_of asking)) asking left for_people request
      (edit_request_of browse request))
      (dress_for browse asking) close request
      (unedited browse render view (beside_of media (row_of asking)) asking left close request)).edit
  styled browse asking close true none = tt
  styled browse asking close false none = asked_so browse asking close (edit_request_of browse request) none

module _ (media : Media) (render : Renders) (view : View) (left : Bool) (request : Request) where
  by_free : (browse : Option Browse) (asking : Asking) (close : Bool)
      → PartOf media render view left request (is_for_people request) browse asking (media_requests.media_request_of browse request) ≡ None
      → StaysFree media (answer_by browse render view (beside_of media (row_of asking)) asking left close request).edit
  unfolding edit_response
  by_free None asking close none = plain_free media render view left request (is_for_people request) None asking none
  by_free (Some browse) asking close none =
      styled media render view left request (is_for_people request) browse asking close (asks_for_style request) none

none_free : (edit : Option Edit) → StaysFree None edit
none_free None = tt
none_free (Some (edits.Put path groups)) = refl
none_free (Some (edits.Regroup path groups)) = tt
none_free (Some (edits.Move from to)) = refl
none_free (Some (edits.Remove path)) = tt

module _ (render : Renders) (view : View) (left : Bool) (request : Request) (browse : Option Browse) (asking : Asking) (close : Bool) where
  or_free : (media : Media) (found : Option MediaResponse)
      → ((response : MediaResponse) → found ≡ Some response
      → (media_answer (dress_by browse asking) response close request).edit ≡ None)
      → (found ≡ None → StaysFree media (answer_by browse render view (beside_of media (row_of asking)) asking left close request).edit)
      → StaysFree media (media_or found (dress_by browse asking) close request
      (answer_by browse render view (beside_of media (row_of asking)) asking left close request)).edit
  or_free media None none other = other refl
  or_free media (Some response) none other = subst (StaysFree media) (sym (none response refl)) tt

  beside_free : (media : Media)
      → StaysFree media (answer_beside browse render view (beside_of media (row_of asking)) asking left close request).edit
  unfolding media_response
  beside_free None = none_free _
  beside_free (Some held) =
      let beside : Beside = beside_of (Some held) (row_of asking) in
      or_free (Some held) (media_response browse render view beside asking (is_for_people request) request)
      (media_edit_nothing browse render view beside asking (is_for_people request) close request (dress_by browse asking))
      (λ none. by_free (Some held) render view left request browse asking close
      (sym (part_is (Some held) render view left request (is_for_people request) browse asking) ∙ none))

-- the edit of an answer brings no page to the path of a medium
pub answer_stays_free : (render : Renders) (w : World) (request : Request) → StaysFree w.media (answer_in render w request).edit
unfolding answer_of
answer_stays_free render w request =
    given_by_edit (StaysFree w.media) w.settings render (view_of w.site (reader_of w request)) (beside_of w.media (reader_of w request))
    (asking_of w request) (puts_taken w.takes_puts w.puts) request tt
    (beside_free render (view_of w.site (reader_of w request)) (puts_taken w.takes_puts w.puts) request w.settings.browse
    (asking_of w request)
    (request.close || not w.settings.keep_alive) w.media)
