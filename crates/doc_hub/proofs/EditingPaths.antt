-- The edit that goes with the response to a request that edits is at paths of pages.
use Rattle.std.proofs.Common.{◌≡◌, ℕ, List, Bool, true, false, refl}
use Rattle.std.specs.Prelude.{codes, not, is_some, Option, Some, None, IfSome, IfOk, Result, Ok, Err, option_map, if◌then◌else◌}
use Rattle.std.specs.Str.{is_utf8}
use Rattle.doc_page_parts.specs.Paths.{is_path, path_of}
use Rattle.doc_page_parts.specs.declared.path.PathError.{PathError}
use Rattle.doc_page_parts.specs.declared.path.PathError.TheVariants.{BadPath}
use Rattle.doc_store_readers.specs.Groups.{groups_of}
use Rattle.doc_store_readers.specs.Pages.{Page}
use Rattle.doc_store_readers.specs.Sites.{View, goal_in, page_at}
use Rattle.doc_store_readers.specs.declared.groups.GroupsError.{GroupsError}
use Rattle.doc_store_readers.specs.declared.reader.Reader.{Reader}
use Rattle.doc_http.specs.declared.request.Request.{Request}
use Rattle.doc_http_targets.specs.Queries.{optional_parameter}
use Rattle.doc_http_targets.specs.WrittenPaths.{path_written}
use Rattle.doc_media.specs.Media.{Beside}
use Rattle.doc_people.specs.declared.settings.Browse.{Browse}
use Rattle.doc_people.specs.declared.settings.Offers.{Offers}
use Rattle.doc_hub_replies.specs.Replies.{Renders, status_reply}
use Rattle.doc_hub_replies.specs.Edit.TheVariants as edits
use Rattle.doc_hub_asking.specs.Asking.{Asking}
use Rattle.doc_hub_asking.specs.Asking as asked
use Rattle.doc_hub_replies.specs.PeopleAnswers.{offers_for}
use Rattle.doc_hub_editing_refusals.specs.Asked.{EditRequest}
use Rattle.doc_hub_editing_refusals.specs.Asked as requests
use Rattle.doc_hub_replies.specs.EditRequests.{edit_request_of}
use Rattle.doc_hub_replies.specs.EditResponses.{EditingReply, EditingResponse, Plain, full_by, refused_for, unless, unmet_by}
use Rattle.doc_hub_replies.specs.EditAnswers.{begins_path, by_entry, by_other, by_owner, edit_response, folder_begun, form_at, groups_put}
use Rattle.doc_hub_replies.specs.EditAnswers.{move_done, move_named, move_page, new_form, no_alias_room, no_room, not_found, open_form}
use Rattle.doc_hub_replies.specs.EditAnswers.{page_of, preview_at, put_at, put_done, put_page, put_text, read_source, regroup_done}
use Rattle.doc_hub_replies.specs.EditAnswers.{regroup_named, regroup_page, remove_page, response_by, response_if, source_or_goal}
use Rattle.doc_hub.proofs.AnswerEdits.{HoldsFor}
use Rattle.doc_hub.proofs.ResponsePaths.{AtPaths, IsPath, written_is_path}

abbrev Fits : EditingResponse → Type 0
Fits response = AtPaths response.edit

-- of two responses, and where something may stand against one
either : (test : Bool) (one other : EditingResponse) → Fits one → Fits other → Fits (if test then one else other)
either true one other fits also = fits
either false one other fits also = also

unless_fits : (against : Option EditingReply) (done : EditingResponse) → Fits done → Fits (unless against done)
unless_fits None done fits = fits
unless_fits (Some reply) done fits = tt

-- ---- what a request writes

abbrev IsNamed : Option (Result (List ℕ) PathError) → Type 0
IsNamed to = IfSome to (λ path. IfOk path (λ p. is_path p ≡ true))

path_if : (text : List ℕ) (t : Bool) → is_path text ≡ t
    → IfOk {T = List ℕ} {E = PathError} (if t then Ok text else Err BadPath) (λ p. is_path p ≡ true)
path_if text true is = is
path_if text false is = tt

named : (text : Option (List ℕ)) → IsNamed (option_map path_of text)
named None = tt
named (Some text) = path_if text (is_path text) refl

-- the page that stands is found by its path
abbrev IsFound : Option (List ℕ × Page) → Type 0
IsFound found = IfSome found (λ f. is_path f.0 ≡ true)

found_at : (path : List ℕ) (page : Option Page) → is_path path ≡ true → IsFound (option_map (λ p. (path, p)) page)
found_at path None is = tt
found_at path (Some page) is = is

found : (view : View) (path : Option (List ℕ)) → IsPath path → IsFound (page_of view path)
found view None is = tt
found view (Some path) is = found_at path (page_at view.pages path) is

module _ (view : View) (left : Bool) (request : Request) where
  -- ---- puts

  module _ (at_source : Bool) where
    text_fits : (path : List ℕ) (stands : Option Page) (groups : List (List ℕ)) → is_path path ≡ true
        → Fits (put_text view left at_source path stands groups request)
    text_fits path stands groups is =
        let done : EditingResponse = put_done at_source path (is_some stands) (record { groups = groups; text = request.body }) in
        let against : Option EditingReply = full_by (no_room view left stands request.body) in
        either (is_utf8 request.body) (unless against done) (refused_for 400 (codes "the text is not UTF-8"))
        (unless_fits against done is) tt

    page_fits : (path : List ℕ) (stands : Option Page) (groups : Result (List (List ℕ)) GroupsError) → is_path path ≡ true
        → Fits (put_page view left at_source path stands groups request)
    page_fits path stands (Err e) is = tt
    page_fits path stands (Ok groups) is = unless_fits (unmet_by false request stands)
        (put_text view left at_source path stands groups request) (text_fits path stands groups is)

    put_fits : (path : Option (List ℕ)) → IsPath path → Fits (put_at view left at_source path request)
    put_fits None is = tt
    put_fits (Some path) is =
        page_fits path (page_at view.pages path) (groups_put at_source (page_at view.pages path) request.target) is

  -- ---- edits of a page that stands

  removal_fits : (found : Option (List ℕ × Page)) → IsFound found → Fits (remove_page found request)
  removal_fits None is = tt
  removal_fits (Some found) is = unless_fits (unmet_by false request (Some found.1)) _ is

  groups_fit : (found : Option (List ℕ × Page)) (groups : List (List ℕ)) → IsFound found
      → Fits (regroup_page view left found groups request)
  groups_fit None groups is = tt
  groups_fit (Some found) groups is =
      let done : EditingResponse = regroup_done found.0 found.1 groups in
      let against : Option EditingReply = full_by (no_room view left (Some found.1) found.1.text) in
      unless_fits (unmet_by false request (Some found.1)) (unless against done) (unless_fits against done is)

  regroup_fits : (found : Option (List ℕ × Page)) (groups : Option (Result (List (List ℕ)) GroupsError)) → IsFound found
      → Fits (regroup_named view left found groups request)
  regroup_fits found None is = tt
  regroup_fits found (Some (Err e)) is = tt
  regroup_fits found (Some (Ok groups)) is = groups_fit found groups is

  goal_fits : (found : Option (List ℕ × Page)) (to : List ℕ) → IsFound found → is_path to ≡ true
      → Fits (move_page view left found to request)
  goal_fits None to is one = tt
  goal_fits (Some found) to is one =
      let done : EditingResponse = record { reply = Plain (status_reply 204); edit = Some (edits.Move found.0 to) } in
      let against : Option EditingReply = full_by (no_alias_room view left to) in
      unless_fits (unmet_by false request (Some found.1)) (move_done view left found.0 to)
      (either (is_some (page_at view.pages to)) (refused_for 409 (codes "a page stands at to")) (unless against done) tt
      (unless_fits against done (is, one)))

  move_fits : (found : Option (List ℕ × Page)) (to : Option (Result (List ℕ) PathError)) → IsFound found → IsNamed to
      → Fits (move_named view left found to request)
  move_fits found None is one = tt
  move_fits found (Some (Err e)) is one = tt
  move_fits found (Some (Ok to)) is one = goal_fits found to is one

  -- ---- what is only shown

  source_fits : (page : Option Page) (goal : Option (List ℕ)) → Fits (source_or_goal page goal request)
  source_fits None goal = tt
  source_fits (Some page) goal = unless_fits (unmet_by true request (Some page)) _ tt

  read_fits : (path : Option (List ℕ)) → Fits (read_source view path request)
  read_fits None = tt
  read_fits (Some path) = source_fits (page_at view.pages path) (goal_in view path)

  module _ (media : Beside) (render : Renders) (browse : Browse) (offers : Offers) (for_people : Bool) where
    none_fits : Fits (not_found render browse offers view for_people)
    none_fits = either for_people _ _ tt tt

    new_fits : (folder : Option (List ℕ)) → Fits (new_form render browse offers view for_people folder)
    new_fits None = none_fits
    new_fits (Some folder) = tt

    form_fits : (path : Option (List ℕ)) → Fits (form_at render browse offers view for_people path)
    form_fits None = none_fits
    form_fits (Some path) = tt

    open_fits : (rest : List ℕ) → Fits (open_form render browse offers view for_people rest)
    open_fits rest = either (begins_path rest) (new_form render browse offers view for_people (folder_begun rest))
        (form_at render browse offers view for_people (path_written rest)) (new_fits (folder_begun rest)) (form_fits (path_written rest))

    preview_fits : (path : Option (List ℕ)) → Fits (preview_at render browse view media path request)
    preview_fits None = tt
    preview_fits (Some path) = either (not request.markdown) _ _ tt (either (is_utf8 request.body) _ _ tt tt)

    other_fits : (guest : Bool) (what : EditRequest) → Fits (by_other render browse offers view guest for_people what)
    other_fits guest (requests.NotAllowed resource) = tt
    other_fits true what = either for_people _ _ tt tt
    other_fits false (requests.Open rest) = either for_people _ _ tt tt
    other_fits false what = tt

    -- ---- whom

    owner_fits : (what : EditRequest) → Fits (by_owner render browse offers view media left for_people request what)
    owner_fits (requests.ReadSource rest) = read_fits (path_written rest)
    owner_fits (requests.PutSource rest) = put_fits true (path_written rest) (written_is_path rest)
    owner_fits (requests.PutPage rest) = put_fits false (path_written rest) (written_is_path rest)
    owner_fits (requests.Remove rest) =
        removal_fits (page_of view (path_written rest)) (found view (path_written rest) (written_is_path rest))
    owner_fits (requests.Regroup rest) =
        regroup_fits (page_of view (path_written rest)) (option_map groups_of (optional_parameter request.target (codes "groups")))
        (found view (path_written rest) (written_is_path rest))
    owner_fits (requests.Move rest) =
        move_fits (page_of view (path_written rest)) (option_map path_of (optional_parameter request.target (codes "to")))
        (found view (path_written rest) (written_is_path rest)) (named (optional_parameter request.target (codes "to")))
    owner_fits (requests.Open rest) = open_fits rest
    owner_fits (requests.Preview rest) = preview_fits (path_written rest)
    owner_fits (requests.NotAllowed resource) = tt

  module _ (media : Beside) (render : Renders) (browse : Browse) (for_people : Bool) where
    entry_fits : (guest : Bool) (reader : Reader) (what : EditRequest)
        → Fits (by_entry render browse view media guest reader left for_people request what)
    entry_fits guest reader what =
        let offers : Offers = offers_for browse guest reader.owner in
        either reader.owner (by_owner render browse offers view media left for_people request what)
        (by_other render browse offers view guest for_people what) (owner_fits media render browse offers for_people what)
        (other_fits media render browse offers for_people guest what)

    asked_fits : (asking : Asking) (what : EditRequest)
        → HoldsFor AtPaths (response_by render browse view media asking left for_people request what)
    asked_fits asked.Nobody what = tt
    asked_fits (asked.Guest row) what = entry_fits true row what
    asked_fits (asked.Known row) what = entry_fits false row what

    if_fits : (asking : Asking) (what : Option EditRequest)
        → HoldsFor AtPaths (response_if render browse view media asking left for_people request what)
    if_fits asking None = tt
    if_fits asking (Some what) = asked_fits asking what

    pub edits_at_paths : (asking : Asking) → HoldsFor AtPaths (edit_response render browse view media asking left for_people request)
    unfolding edit_response
    edits_at_paths asking = if_fits asking (edit_request_of browse request)
