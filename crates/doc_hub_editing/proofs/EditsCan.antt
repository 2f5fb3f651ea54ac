-- The edit that goes with a response to a request that edits can be made: a put of a text that is UTF-8 and fits, other groups of a page
-- that may be put anew, a move that is possible, or a removal of a page that stands.
use Rattle.std.proofs.Common.{◌≡◌, ℕ, List, length, Bool, true, false, arith, refl, ap, sym, ◌∙◌, subst}
use Rattle.std.proofs.Common.{Option, Some, None, Result, Ok, Err}
use Rattle.std.specs.Prelude.{codes, is_some, not, ◌&&◌, ◌||◌, nat_lt, nat_le, ⊤, option_map, if◌then◌else◌}
use Rattle.std.specs.FinMap as map
use Rattle.std.specs.Str.{is_utf8}
use Rattle.std.proofs.lemmas.Bool.{and_parts}
use Rattle.std.proofs.lemmas.Bool.Decides.{nat_tests}
use Rattle.doc_http.specs.declared.request.Request.{Request}
use Rattle.doc_http_targets.specs.Queries.{optional_parameter}
use Rattle.doc_http_targets.specs.WrittenPaths.{path_written}
use Rattle.doc_page_parts.specs.Paths.{path_of}
use Rattle.doc_page_parts.specs.declared.path.PathError.{PathError}
use Rattle.doc_people.specs.declared.settings.Browse.{Browse}
use Rattle.doc_people.specs.declared.settings.Offers.{Offers}
use Rattle.doc_store.specs.Store.{StoreState, alias_limit, fits_in, page_limit, put_limit, text_limit}
use Rattle.doc_store.specs.declared.store.EditError.{EditError}
use Rattle.doc_store.specs.declared.store.EditError.TheVariants.{TooLong, StoreFull}
use Rattle.doc_store_readers.specs.Groups.{groups_of}
use Rattle.doc_store_readers.specs.Pages.{Page}
use Rattle.doc_store_readers.specs.Sites.{View, goal_in, page_at, view_of}
use Rattle.doc_store_readers.specs.declared.groups.GroupsError.{GroupsError}
use Rattle.doc_store_readers.specs.declared.reader.Reader.{Reader}
use Rattle.doc_hub_people.specs.Edits.{CanBeMade, CanMove, CanRegroup, puts_left, puts_taken}
use Rattle.doc_hub_people.specs.Replies.{Renders, status_reply}
use Rattle.doc_hub_people.specs.Edit.TheVariants as edits
use Rattle.doc_hub_people.proofs.OwnerSteps.{owner_aliases, owner_page, owner_pages, owner_stands}
use Rattle.doc_hub_asking.specs.Asking.{Asking, row_of}
use Rattle.doc_hub_asking.specs.Asking as asked
use Rattle.doc_hub_people.specs.PeopleAnswers.{offers_for}
use Rattle.doc_hub_editing_refusals.specs.Asked.{EditRequest}
use Rattle.doc_hub_editing_refusals.specs.Asked as requests
use Rattle.doc_media.specs.Media.{Beside}
use Rattle.doc_hub_editing.specs.EditAnswers.{aliases_after_move, begins_path, by_entry, by_other, by_owner, edit_response, folder_begun}
use Rattle.doc_hub_editing.specs.EditAnswers.{forbidden, form_at, groups_put, move_named, move_page, new_form, no_alias_room, no_room}
use Rattle.doc_hub_editing.specs.EditAnswers.{not_found, page_of, preview_at, preview_of, put_at, put_done, put_page, read_source}
use Rattle.doc_hub_editing.specs.EditAnswers.{regroup_named, regroup_page, remove_page, response_if, source_or_goal}
use Rattle.doc_hub_editing.specs.EditAnswers.{unauthorized}
use Rattle.doc_hub_editing.specs.EditRequests.{edit_request_of}
use Rattle.doc_hub_editing.specs.EditResponses.{EditingReply, EditingResponse, Plain, Shown, full_by, only_reply, refused, refused_for}
use Rattle.doc_hub_editing.specs.EditResponses.{unless, unmet_by}

abbrev pub EditingCan : StoreState → List ℕ → Option EditingResponse → Type 0
EditingCan store text None = ⊤
EditingCan store text (Some response) = CanBeMade store text response.edit

-- ---- what has room

-- a put is left where the last one was not accepted
left_by : (puts : ℕ) (out : Bool) → nat_le put_limit puts ≡ out → puts_left puts ≡ not out
left_by puts true is = grind (arith, nat_tests)
left_by puts false is = grind (arith, nat_tests)

some_is_not_none : {X P : Type 0} (x : X) → Some x ≡ None → P
some_is_not_none x is = absurd (no x is)
  where
    no : {X : Type 0} (x : X) → Some x ≡ None → ⊥
    no x h = cc

-- by the five tests
room_by : (takes long stands full out : Bool) (a b c : List ℕ)
    → (if long then Some a else (if not (takes && not out) then Some b else (if not stands && full then Some c else None))) ≡ None
    → ◌≡◌ {A = Result (Unit {0}) EditError}
    (if long then Err TooLong else (if (not stands && full) || out then Err StoreFull else Ok tt)) (Ok tt)
room_by takes true stands full out a b c is = some_is_not_none a is
room_by false false stands full out a b c is = some_is_not_none b is
room_by true false stands full true a b c is = some_is_not_none b is
room_by true false true full false a b c is = refl
room_by true false false true false a b c is = some_is_not_none c is
room_by true false false false false a b c is = refl

module _ (takes : Bool) (store : StoreState) (reader : Reader) (owns : reader.owner ≡ true) where
  abbrev view : View
  view = view_of store.site (Some reader)

  abbrev left : Bool
  left = puts_taken takes store.puts

  abbrev Can : List ℕ → EditingResponse → Type 0
  Can body response = CanBeMade store body response.edit

  left_is : left ≡ (takes && not (nat_le put_limit store.puts))
  left_is = ap (λ some. takes && some) (left_by store.puts _ refl)

  -- where nothing stands against a text, it fits
  pub text_fits : (path text : List ℕ) → no_room view left (page_at view.pages path) text ≡ None → fits_in store path text ≡ Ok tt
  text_fits path text none =
      room_by takes (nat_lt text_limit (length text)) (map.contains_key store.site.pages path) (nat_le page_limit
      (map.len store.site.pages))
      (nat_le put_limit store.puts) (codes "the text has more than 1048576 bytes") (codes "no edit is left") (codes "10000 pages stand")
      (sym (λ i.
      if nat_lt text_limit (length text) then Some (codes "the text has more than 1048576 bytes")
      else (if not (left_is i) then Some (codes "no edit is left")
      else (if not (owner_stands store.site reader path owns i) && nat_le page_limit (owner_pages store.site reader owns i)
      then Some (codes "10000 pages stand") else None)))
      ∙ none)

  -- ---- what stands against a request

  unless_can : (body : List ℕ) (against : Option EditingReply) (done : EditingResponse) → Can body done → Can body (unless against done)
  unless_can body None done can = can
  unless_can body (Some reply) done can = tt

  full_can : (body : List ℕ) (why : Option (List ℕ)) (done : EditingResponse) → (why ≡ None → Can body done)
      → Can body (unless (full_by why) done)
  full_can body None done can = can refl
  full_can body (Some why) done can = tt

  -- ---- the text of a page

  source_can : (page : Option Page) (goal : Option (List ℕ)) (request : Request) → Can request.body (source_or_goal page goal request)
  source_can None goal request = tt
  source_can (Some page) goal request = unless_can request.body (unmet_by true request (Some page)) _ tt

  read_can : (path : Option (List ℕ)) (request : Request) → Can request.body (read_source view path request)
  read_can None request = tt
  read_can (Some path) request = source_can (page_at view.pages path) (goal_in view path) request

  -- ---- puts

  text_can : (at_source : Bool) (path : List ℕ) (groups : List (List ℕ)) (request : Request) (utf8 : Bool) → is_utf8 request.body ≡ utf8
      → Can request.body
      (if utf8
      then unless (full_by (no_room view left (page_at view.pages path) request.body))
      (put_done at_source path (is_some (page_at view.pages path)) (record { groups = groups; text = request.body }))
      else refused_for 400 (codes "the text is not UTF-8"))
  text_can at_source path groups request true is =
      full_can request.body (no_room view left (page_at view.pages path) request.body) _
      (λ none. (is, text_fits path request.body none))
  text_can at_source path groups request false is = tt

  page_can : (at_source : Bool) (path : List ℕ) (groups : Result (List (List ℕ)) GroupsError) (request : Request)
      → Can request.body (put_page view left at_source path (page_at view.pages path) groups request)
  page_can at_source path (Err e) request = tt
  page_can at_source path (Ok groups) request =
      unless_can request.body (unmet_by false request (page_at view.pages path)) _ (text_can at_source path groups request _ refl)

  pub put_can : (at_source : Bool) (path : Option (List ℕ)) (request : Request) → Can request.body (put_at view left at_source path request)
  put_can at_source None request = tt
  put_can at_source (Some path) request =
      page_can at_source path (groups_put at_source (page_at view.pages path) request.target) request

  -- ---- edits of a page that stands

  abbrev found : List ℕ → Option Page → Option (List ℕ × Page)
  found path page = option_map (λ p. (path, p)) page

  removal_can : (path : List ℕ) (page : Option Page) (request : Request) → page_at view.pages path ≡ page
      → Can request.body (remove_page (found path page) request)
  removal_can path None request is = tt
  removal_can path (Some page) request is =
      unless_can request.body (unmet_by false request (Some page)) _ (sym (owner_stands store.site reader path owns) ∙ ap is_some is)

  pub remove_can : (path : Option (List ℕ)) (request : Request) → Can request.body (remove_page (page_of view path) request)
  remove_can None request = tt
  remove_can (Some path) request = removal_can path (page_at view.pages path) request refl

  -- its text may be put anew
  may_regroup : (path : List ℕ) (page : Page) → page_at view.pages path ≡ Some page
      → no_room view left (Some page) page.text ≡ None → CanRegroup store path (map.get store.site.pages path)
  may_regroup path page is none =
      subst (CanRegroup store path) (sym is ∙ owner_page store.site reader path owns)
      (text_fits path page.text (ap (λ stands. no_room view left stands page.text) is ∙ none))

  regroup_at_can : (path : List ℕ) (page : Option Page) (groups : List (List ℕ)) (request : Request) → page_at view.pages path ≡ page
      → Can request.body (regroup_page view left (found path page) groups request)
  regroup_at_can path None groups request is = tt
  regroup_at_can path (Some page) groups request is =
      unless_can request.body (unmet_by false request (Some page)) _
      (full_can request.body (no_room view left (Some page) page.text) _ (may_regroup path page is))

  regroup_page_can : (path : Option (List ℕ)) (groups : List (List ℕ)) (request : Request)
      → Can request.body (regroup_page view left (page_of view path) groups request)
  regroup_page_can None groups request = tt
  regroup_page_can (Some path) groups request = regroup_at_can path (page_at view.pages path) groups request refl

  pub regroup_can : (path : Option (List ℕ)) (named : Option (Result (List (List ℕ)) GroupsError)) (request : Request)
      → Can request.body (regroup_named view left (page_of view path) named request)
  regroup_can path None request = tt
  regroup_can path (Some (Err e)) request = tt
  regroup_can path (Some (Ok groups)) request = regroup_page_can path groups request

  -- ---- moves

  -- where nothing stands against a move, a put is left and there is room for one alias more
  left_and_room : (some more : Bool) (a b : List ℕ) → (if not some then Some a else (if more then Some b else None)) ≡ None
      → (some ≡ true) × (more ≡ false)
  left_and_room false more a b is = some_is_not_none a is
  left_and_room true true a b is = some_is_not_none b is
  left_and_room true false a b is = (refl, refl)

  may_move_to : (from to : List ℕ) → map.contains_key store.site.pages from ≡ true → map.contains_key store.site.pages to ≡ false
      → no_alias_room view left to ≡ None → CanMove store from to
  may_move_to from to stands free none =
      let both = left_and_room left (nat_lt alias_limit (aliases_after_move view to)) (codes "no edit is left")
      (codes "10000 aliases stand") none in
      record {
        stands = stands;
        free = free;
        left = (and_parts takes (puts_left store.puts) both.0).1;
        room = λ site. ap (nat_lt alias_limit) (sym (owner_aliases store.site reader from to owns stands site)) ∙ both.1;
      }

  done_can : (body from to : List ℕ) (taken : Bool) → map.contains_key store.site.pages from ≡ true
      → is_some (page_at view.pages to) ≡ taken
      → Can body (if taken then refused_for 409 (codes "a page stands at to") else unless (full_by (no_alias_room view left to))
      (record { reply = Plain (status_reply 204); edit = Some (edits.Move from to) }))
  done_can body from to true stands is = tt
  done_can body from to false stands is =
      full_can body (no_alias_room view left to) _
      (may_move_to from to stands (sym (owner_stands store.site reader to owns) ∙ is))

  move_at_can : (path : List ℕ) (page : Option Page) (to : List ℕ) (request : Request) → page_at view.pages path ≡ page
      → Can request.body (move_page view left (found path page) to request)
  move_at_can path None to request is = tt
  move_at_can path (Some page) to request is =
      unless_can request.body (unmet_by false request (Some page)) _
      (done_can request.body path to _ (sym (owner_stands store.site reader path owns) ∙ ap is_some is) refl)

  move_page_can : (path : Option (List ℕ)) (to : List ℕ) (request : Request)
      → Can request.body (move_page view left (page_of view path) to request)
  move_page_can None to request = tt
  move_page_can (Some path) to request = move_at_can path (page_at view.pages path) to request refl

  pub move_can : (path : Option (List ℕ)) (named : Option (Result (List ℕ) PathError)) (request : Request)
      → Can request.body (move_named view left (page_of view path) named request)
  move_can path None request = tt
  move_can path (Some (Err e)) request = tt
  move_can path (Some (Ok to)) request = move_page_can path to request

  -- ---- what owners ask for

  module _ (media : Beside) (render : Renders) (browse : Browse) (offers : Offers) (for_people : Bool) where
    absent_can : (body : List ℕ) (people : Bool) → Can body (not_found render browse offers view people)
    absent_can body true = tt
    absent_can body false = tt

    at_can : (body : List ℕ) (path : Option (List ℕ)) → Can body (form_at render browse offers view for_people path)
    at_can body None = absent_can body for_people
    at_can body (Some path) = tt

    new_can : (body : List ℕ) (folder : Option (List ℕ)) → Can body (new_form render browse offers view for_people folder)
    new_can body None = absent_can body for_people
    new_can body (Some folder) = tt

    form_can : (body rest : List ℕ) (begins : Bool)
        → Can body (if begins then new_form render browse offers view for_people (folder_begun rest)
        else form_at render browse offers view for_people (path_written rest))
    form_can body rest true = new_can body (folder_begun rest)
    form_can body rest false = at_can body (path_written rest)

    preview_by : (path : List ℕ) (request : Request) (markdown utf8 : Bool)
        → Can request.body (if not markdown then refused 415 else (if utf8 then only_reply (Shown (preview_of browse view media path
        (render request.body))) else refused_for 400 (codes "the text is not UTF-8")))
    preview_by path request false utf8 = tt
    preview_by path request true true = tt
    preview_by path request true false = tt

    preview_can : (path : Option (List ℕ)) (request : Request) → Can request.body (preview_at render browse view media path request)
    preview_can None request = tt
    preview_can (Some path) request = preview_by path request request.markdown (is_utf8 request.body)

    pub by_owner_can : (request : Request) (what : EditRequest)
        → Can request.body (by_owner render browse offers view media left for_people request what)
    by_owner_can request (requests.ReadSource rest) = read_can (path_written rest) request
    by_owner_can request (requests.PutSource rest) = put_can true (path_written rest) request
    by_owner_can request (requests.PutPage rest) = put_can false (path_written rest) request
    by_owner_can request (requests.Remove rest) = remove_can (path_written rest) request
    by_owner_can request (requests.Regroup rest) =
        regroup_can (path_written rest) (option_map groups_of (optional_parameter request.target (codes "groups"))) request
    by_owner_can request (requests.Move rest) =
        move_can (path_written rest) (option_map path_of (optional_parameter request.target (codes "to"))) request
    by_owner_can request (requests.Open rest) = form_can request.body rest (begins_path rest)
    by_owner_can request (requests.Preview rest) = preview_can (path_written rest) request
    by_owner_can request (requests.NotAllowed resource) = tt

-- ---- what anyone asks for

module _ (render : Renders) (browse : Browse) (store : StoreState) (body : List ℕ) where
  unauthorized_can : (for_people : Bool) → CanBeMade store body (unauthorized browse for_people).edit
  unauthorized_can true = tt
  unauthorized_can false = tt

  forbidden_can : (offers : Offers) (seen : View) (for_people : Bool) (what : EditRequest)
      → CanBeMade store body (forbidden render browse offers seen for_people what).edit
  forbidden_can offers seen true (requests.Open rest) = tt
  forbidden_can offers seen false (requests.Open rest) = tt
  forbidden_can offers seen for_people what = tt

  pub by_other_can : (offers : Offers) (seen : View) (guest for_people : Bool) (what : EditRequest)
      → CanBeMade store body (by_other render browse offers seen guest for_people what).edit
  by_other_can offers seen guest for_people (requests.NotAllowed resource) = tt
  by_other_can offers seen true for_people what = unauthorized_can for_people
  by_other_can offers seen false for_people what = forbidden_can offers seen for_people what

module _ (media : Beside) (takes : Bool) (render : Renders) (browse : Browse) (store : StoreState) (for_people : Bool)
    (request : Request) where
  by_owner_or_other : (guest : Bool) (reader : Reader) (what : EditRequest) (owner : Bool) → reader.owner ≡ owner
      → CanBeMade store request.body (if owner
      then by_owner render browse (offers_for browse guest reader.owner) (view_of store.site (Some reader))
      media (puts_taken takes store.puts) for_people request what
      else by_other render browse (offers_for browse guest reader.owner) (view_of store.site (Some reader)) guest for_people what).edit
  by_owner_or_other guest reader what true owns =
      by_owner_can takes store reader owns media render browse (offers_for browse guest reader.owner) for_people request what
  by_owner_or_other guest reader what false owns =
      by_other_can render browse store request.body (offers_for browse guest reader.owner) (view_of store.site (Some reader)) guest
      for_people what

  pub by_entry_can : (guest : Bool) (reader : Reader) (what : EditRequest)
      → CanBeMade store request.body
      (by_entry render browse (view_of store.site (Some reader)) media guest reader
      (puts_taken takes store.puts) for_people request what).edit
  by_entry_can guest reader what = by_owner_or_other guest reader what reader.owner refl

  response_can : (asking : Asking) (what : Option EditRequest)
      → EditingCan store request.body
      (response_if render browse (view_of store.site (row_of asking)) media asking (puts_taken takes store.puts) for_people request what)
  response_can asking None = tt
  response_can asked.Nobody (Some what) = tt
  response_can (asked.Guest row) (Some what) = by_entry_can true row what
  response_can (asked.Known row) (Some what) = by_entry_can false row what

pub edit_response_can : (media : Beside) (takes : Bool) (render : Renders) (browse : Browse) (store : StoreState) (asking : Asking)
    (for_people : Bool)
    (request : Request)
    → EditingCan store request.body
    (edit_response render browse (view_of store.site (row_of asking)) media asking (puts_taken takes store.puts) for_people request)
unfolding edit_response
edit_response_can media takes render browse store asking for_people request =
    response_can media takes render browse store for_people request asking (edit_request_of browse request)
