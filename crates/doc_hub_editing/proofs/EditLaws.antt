-- The laws of requests that edit.
use Rattle.std.proofs.Common.{◌≡◌, ℕ, List, Bool, true, false, Option, Some, None, Result, Ok, Err, refl, ap, sym, ◌∙◌, subst}
use Rattle.std.specs.Prelude.{codes, is_some, not, ⊤, option_map, if◌then◌else◌}
use Rattle.std.specs.Str.{is_utf8}
use Rattle.std.proofs.lemmas.Bool.{both_ways}
use Rattle.doc_http.specs.declared.request.Request.{Request}
use Rattle.doc_http_conditions.specs.EntityTags.{EntityTag}
use Rattle.doc_http_conditions.specs.FieldValues.{named_by}
use Rattle.doc_http_conditions.specs.Lists.{has_tag}
use Rattle.doc_http_conditions.specs.Verdicts.{field_names, judged, matched, unmatched, verdict_by, verdict_of}
use Rattle.doc_http_conditions.specs.declared.comparison.Comparison.TheVariants.{Strong}
use Rattle.doc_http_conditions.specs.declared.named.Named.{Named}
use Rattle.doc_http_conditions.specs.declared.named.Named.TheVariants.{Any, OneOf}
use Rattle.doc_http_conditions.specs.declared.verdict.Failure.{Failure}
use Rattle.doc_http_conditions.specs.declared.verdict.Failure.TheVariants.{APage, OtherVersion}
use Rattle.doc_http_conditions.specs.declared.verdict.Verdict.{Verdict}
use Rattle.doc_http_conditions.specs.declared.verdict.Verdict.TheVariants as verdicts
use Rattle.doc_http_targets.specs.EditTargets.{edit_route_of}
use Rattle.doc_http_targets.specs.Queries.{optional_parameter}
use Rattle.doc_http_targets.specs.Targets.{route_of}
use Rattle.doc_http_targets.specs.WrittenPaths.{path_written}
use Rattle.doc_page_parts.specs.Paths.{path_of}
use Rattle.doc_page_parts.specs.declared.path.PathError.{PathError}
use Rattle.doc_people.specs.declared.settings.Browse.{Browse}
use Rattle.doc_people.specs.declared.settings.Offers.{Offers}
use Rattle.doc_store_readers.specs.Groups.{groups_of}
use Rattle.doc_store_readers.specs.Pages.{Page}
use Rattle.doc_store_readers.specs.Sites.{View, goal_in, page_at}
use Rattle.doc_store_readers.specs.declared.groups.GroupsError.{GroupsError}
use Rattle.doc_store_readers.specs.declared.reader.Reader.{Reader}
use Rattle.doc_store_tags.specs.Tags.{tag_of}
use Rattle.doc_hub_people.specs.Replies.{Renders, method_of, status_reply}
use Rattle.doc_hub_people.specs.Edit.{Edit}
use Rattle.doc_hub_people.specs.Edit.TheVariants as edits
use Rattle.doc_hub_people.specs.PeopleAnswers.{offers_for}
use Rattle.doc_hub_editing_refusals.specs.Asked.{EditRequest}
use Rattle.doc_hub_editing_refusals.specs.Asked as requests
use Rattle.doc_media.specs.Media.{Beside}
use Rattle.doc_hub_editing.specs.EditAnswers.{begins_path, by_entry, by_other, by_owner, edit_response, folder_begun, forbidden, form_at}
use Rattle.doc_hub_editing.specs.EditAnswers.{form_or_goal, groups_put, move_named, move_page, new_form, no_alias_room, no_room}
use Rattle.doc_hub_editing.specs.EditAnswers.{not_found, page_of, preview_at, preview_of, put_at, put_done, put_page, read_source}
use Rattle.doc_hub_editing.specs.EditAnswers.{regroup_named, regroup_page, remove_page, response_if, source_or_goal, unauthorized}
use Rattle.doc_hub_editing.specs.EditRequests.{asked_by}
use Rattle.doc_hub_editing.specs.EditResponses.{EditingReply, EditingResponse, Plain, Shown, Told, full_by, only_reply, refused}
use Rattle.doc_hub_editing.specs.EditResponses.{refused_for, reply_to_verdict, tag_at, unless, unmet_by}
use Rattle.doc_hub_editing.specs.Laws.{EditsAreOfWhatWasNamed, NothingIsEditedWithoutTheSetting, NothingIsReplacedUnasked, OwnersAlone}
use Rattle.doc_hub_editing.specs.Laws.{TagOf, ToldTagsAreThePages, WhoNamesAnotherIsRefused, path_of_edit, refusal_of}

some_is_not_none : {X P : Type 0} (x : X) → Some x ≡ None → P
some_is_not_none x is = absurd (no x is)
  where
    no : {X : Type 0} (x : X) → Some x ≡ None → ⊥
    no x h = cc

some_same : {X : Type 0} (x y : X) → Some x ≡ Some y → x ≡ y
some_same x y h = cc

-- ---- the setting

pub nothing_without_the_setting : NothingIsEditedWithoutTheSetting
unfolding edit_response
nothing_without_the_setting render browse view media asking left for_people request off =
    ap (λ editing. response_if render browse view media asking left for_people request
    (if editing then asked_by (edit_route_of request.target) (route_of request.target) (method_of request.method) else None)) off

-- ---- what conditions that hold say

judged_has : (has : Bool) (other : Option Failure) (tag : Option (List ℕ))
    → reply_to_verdict (judged false (if has then None else Some OtherVersion) other) tag ≡ None → has ≡ true
judged_has true other tag is = refl
judged_has false other tag is = some_is_not_none _ is

judged_any : {P : Type 0} (first : Option Failure) (tag : Option (List ℕ))
    → reply_to_verdict (judged false first (Some APage)) tag ≡ None → P
judged_any None tag is = some_is_not_none _ is
judged_any (Some failure) tag is = some_is_not_none _ is

-- tags were named by If-Match
one_of_holds : (other : Option (Option Named)) (tags : List EntityTag) (stands : Option Page)
    → reply_to_verdict (verdict_by false (Some (Some (OneOf tags))) other (tag_at stands)) (tag_at stands) ≡ None
    → (page : Page) × (stands ≡ Some page) × (has_tag Strong (tag_of page) tags ≡ true)
one_of_holds None tags stands is = some_is_not_none _ is
one_of_holds (Some other) tags None is = some_is_not_none _ is
one_of_holds (Some other) tags (Some page) is =
    (page, refl, judged_has (has_tag Strong (tag_of page) tags) (matched other (Some (tag_of page))) (Some (tag_of page)) is)

-- any page was named by If-None-Match
any_holds : (first : Option (Option Named)) (stands : Option Page)
    → reply_to_verdict (verdict_by false first (Some (Some Any)) (tag_at stands)) (tag_at stands) ≡ None → stands ≡ None
any_holds None stands is = some_is_not_none _ is
any_holds (Some first) None is = refl
any_holds (Some first) (Some page) is = judged_any (unmatched first (Some (tag_of page))) (Some (tag_of page)) is

field_is : (field : Option (List ℕ)) (value : List ℕ) (named : Named) → field ≡ Some value → named_by value ≡ Some named
    → field_names field ≡ Some (Some named)
field_is field value named sent reads = ap field_names sent ∙ ap (option_map Some) reads

module _ (request : Request) (stands : Option Page) (met : unmet_by false request stands ≡ None) where
  named_stands : (value : List ℕ) (tags : List EntityTag) → request.if_match ≡ Some value → named_by value ≡ Some (OneOf tags)
      → (page : Page) × (stands ≡ Some page) × (has_tag Strong (tag_of page) tags ≡ true)
  unfolding verdict_of
  named_stands value tags sent reads =
      one_of_holds (field_names request.if_none_match) tags stands
      (subst (λ names. reply_to_verdict (verdict_by false names (field_names request.if_none_match) (tag_at stands)) (tag_at stands) ≡ None)
      (field_is request.if_match value (OneOf tags) sent reads) met)

  none_stands : (value : List ℕ) → request.if_none_match ≡ Some value → named_by value ≡ Some Any → stands ≡ None
  unfolding verdict_of
  none_stands value sent reads =
      any_holds (field_names request.if_match) stands
      (subst (λ names. reply_to_verdict (verdict_by false (field_names request.if_match) names (tag_at stands)) (tag_at stands) ≡ None)
      (field_is request.if_none_match value Any sent reads) met)

-- ---- each edit meets the conditions of its request

module _ (view : View) (request : Request) where
  -- they hold of what stands at the path of the page that is put, changed, moved or removed
  abbrev Meets : Option Edit → Type 0
  Meets None = ⊤
  Meets (Some edit) = unmet_by false request (page_at view.pages (path_of_edit edit)) ≡ None

  unless_meets : (against : Option EditingReply) (done : EditingResponse) → (against ≡ None → Meets done.edit)
      → Meets (unless against done).edit
  unless_meets None done meets = meets refl
  unless_meets (Some reply) done meets = tt

  -- where it is another name of the page that stands there
  at_page_met : (path : List ℕ) (stands : Option Page) → page_at view.pages path ≡ stands → unmet_by false request stands ≡ None
      → unmet_by false request (page_at view.pages path) ≡ None
  at_page_met path stands is met = ap (unmet_by false request) is ∙ met

  source_meets : (stands : Option Page) (goal : Option (List ℕ)) → Meets (source_or_goal stands goal request).edit
  source_meets None goal = tt
  source_meets (Some page) goal = unless_meets (unmet_by true request (Some page)) _ (λ none. tt)

  read_meets : (path : Option (List ℕ)) → Meets (read_source view path request).edit
  read_meets None = tt
  read_meets (Some path) = source_meets (page_at view.pages path) (goal_in view path)

  -- puts
  text_meets : (left at_source : Bool) (path : List ℕ) (groups : List (List ℕ)) (utf8 : Bool)
      → unmet_by false request (page_at view.pages path) ≡ None
      → Meets (if utf8
      then unless (full_by (no_room view left (page_at view.pages path) request.body))
      (put_done at_source path (is_some (page_at view.pages path)) (record { groups = groups; text = request.body }))
      else refused_for 400 (codes "the text is not UTF-8")).edit
  text_meets left at_source path groups true met =
      unless_meets (full_by (no_room view left (page_at view.pages path) request.body)) _ (λ none. met)
  text_meets left at_source path groups false met = tt

  page_meets : (left at_source : Bool) (path : List ℕ) (groups : Result (List (List ℕ)) GroupsError)
      → Meets (put_page view left at_source path (page_at view.pages path) groups request).edit
  page_meets left at_source path (Err e) = tt
  page_meets left at_source path (Ok groups) =
      unless_meets (unmet_by false request (page_at view.pages path)) _ (text_meets left at_source path groups (is_utf8 request.body))

  put_meets : (left at_source : Bool) (path : Option (List ℕ)) → Meets (put_at view left at_source path request).edit
  put_meets left at_source None = tt
  put_meets left at_source (Some path) = page_meets left at_source path (groups_put at_source (page_at view.pages path) request.target)

  -- edits of a page that stands
  abbrev found : List ℕ → Option Page → Option (List ℕ × Page)
  found path page = option_map (λ p. (path, p)) page

  removal_meets : (path : List ℕ) (page : Option Page) → page_at view.pages path ≡ page → Meets (remove_page (found path page) request).edit
  removal_meets path None is = tt
  removal_meets path (Some page) is = unless_meets (unmet_by false request (Some page)) _ (at_page_met path (Some page) is)

  remove_meets : (path : Option (List ℕ)) → Meets (remove_page (page_of view path) request).edit
  remove_meets None = tt
  remove_meets (Some path) = removal_meets path (page_at view.pages path) refl

  regroup_at_meets : (left : Bool) (path : List ℕ) (page : Option Page) (groups : List (List ℕ)) → page_at view.pages path ≡ page
      → Meets (regroup_page view left (found path page) groups request).edit
  regroup_at_meets left path None groups is = tt
  regroup_at_meets left path (Some page) groups is =
      unless_meets (unmet_by false request (Some page)) _
      (λ met. unless_meets (full_by (no_room view left (Some page) page.text)) _ (λ none. at_page_met path (Some page) is met))

  regroup_page_meets : (left : Bool) (path : Option (List ℕ)) (groups : List (List ℕ))
      → Meets (regroup_page view left (page_of view path) groups request).edit
  regroup_page_meets left None groups = tt
  regroup_page_meets left (Some path) groups = regroup_at_meets left path (page_at view.pages path) groups refl

  regroup_meets : (left : Bool) (path : Option (List ℕ)) (named : Option (Result (List (List ℕ)) GroupsError))
      → Meets (regroup_named view left (page_of view path) named request).edit
  regroup_meets left path None = tt
  regroup_meets left path (Some (Err e)) = tt
  regroup_meets left path (Some (Ok groups)) = regroup_page_meets left path groups

  -- moves
  done_meets : (left : Bool) (from to : List ℕ) (taken : Bool) → unmet_by false request (page_at view.pages from) ≡ None
      → Meets (if taken then refused_for 409 (codes "a page stands at to") else unless (full_by (no_alias_room view left to))
      (record { reply = Plain (status_reply 204); edit = Some (edits.Move from to) })).edit
  done_meets left from to true met = tt
  done_meets left from to false met = unless_meets (full_by (no_alias_room view left to)) _ (λ none. met)

  move_at_meets : (left : Bool) (path : List ℕ) (page : Option Page) (to : List ℕ) → page_at view.pages path ≡ page
      → Meets (move_page view left (found path page) to request).edit
  move_at_meets left path None to is = tt
  move_at_meets left path (Some page) to is =
      unless_meets (unmet_by false request (Some page)) _
      (λ met. done_meets left path to (is_some (page_at view.pages to)) (at_page_met path (Some page) is met))

  move_page_meets : (left : Bool) (path : Option (List ℕ)) (to : List ℕ)
      → Meets (move_page view left (page_of view path) to request).edit
  move_page_meets left None to = tt
  move_page_meets left (Some path) to = move_at_meets left path (page_at view.pages path) to refl

  move_meets : (left : Bool) (path : Option (List ℕ)) (named : Option (Result (List ℕ) PathError))
      → Meets (move_named view left (page_of view path) named request).edit
  move_meets left path None = tt
  move_meets left path (Some (Err e)) = tt
  move_meets left path (Some (Ok to)) = move_page_meets left path to

  -- ---- tags that are told

  abbrev TellsTags : EditingReply → Option Edit → Type 0
  TellsTags (Told told) edit = (tag : List ℕ) → told.tag ≡ Some tag → TagOf view request.body edit tag
  TellsTags reply edit = ⊤

  abbrev Tells : EditingResponse → Type 0
  Tells response = TellsTags response.reply response.edit

  -- a reply without a tag
  no_tag : (tag : List ℕ) → None ≡ Some tag → TagOf view request.body None tag
  no_tag tag is = some_is_not_none tag (sym is)

  -- the tag of the page that stands
  stands_tag : (path : List ℕ) (stands : Option Page) (tag : List ℕ) → page_at view.pages path ≡ stands → tag_at stands ≡ Some tag
      → TagOf view request.body None tag
  stands_tag path None tag is told = no_tag tag told
  stands_tag path (Some page) tag is told = (path, page, is, sym (some_same (tag_of page) tag told))

  verdict_tells : (verdict : Verdict) (path : List ℕ) (stands : Option Page) (done : EditingResponse) → page_at view.pages path ≡ stands
      → Tells done → Tells (unless (reply_to_verdict verdict (tag_at stands)) done)
  verdict_tells verdicts.Holds path stands done is tells = tells
  verdict_tells (verdicts.Unread field) path stands done is tells = no_tag
  verdict_tells (verdicts.Fails failure) path stands done is tells = λ tag told. stands_tag path stands tag is told
  verdict_tells verdicts.Unchanged path stands done is tells = λ tag told. stands_tag path stands tag is told

  unmet_tells : (reads : Bool) (path : List ℕ) (stands : Option Page) (done : EditingResponse) → page_at view.pages path ≡ stands
      → Tells done → Tells (unless (unmet_by reads request stands) done)
  unmet_tells reads path stands done is tells =
      verdict_tells (verdict_of reads request.if_match request.if_none_match (tag_at stands)) path stands done is tells

  full_tells : (why : Option (List ℕ)) (done : EditingResponse) → Tells done → Tells (unless (full_by why) done)
  full_tells None done tells = tells
  full_tells (Some why) done tells = no_tag

  source_tells : (path : List ℕ) (stands : Option Page) (goal : Option (List ℕ)) → page_at view.pages path ≡ stands
      → Tells (source_or_goal stands goal request)
  source_tells path None None is = tt
  source_tells path None (Some goal) is = tt
  source_tells path (Some page) goal is =
      unmet_tells true path (Some page) _ is (λ tag told. stands_tag path (Some page) tag is told)

  read_tells : (path : Option (List ℕ)) → Tells (read_source view path request)
  read_tells None = tt
  read_tells (Some path) = source_tells path (page_at view.pages path) (goal_in view path) refl

  put_done_tells : (at_source : Bool) (path : List ℕ) (stood : Bool) (groups : List (List ℕ))
      → Tells (put_done at_source path stood (record { groups = groups; text = request.body }))
  put_done_tells true path stood groups = λ tag told. sym (some_same _ tag told)
  put_done_tells false path stood groups = tt

  text_tells : (left at_source : Bool) (path : List ℕ) (groups : List (List ℕ)) (utf8 : Bool)
      → Tells (if utf8
      then unless (full_by (no_room view left (page_at view.pages path) request.body))
      (put_done at_source path (is_some (page_at view.pages path)) (record { groups = groups; text = request.body }))
      else refused_for 400 (codes "the text is not UTF-8"))
  text_tells left at_source path groups true =
      full_tells (no_room view left (page_at view.pages path) request.body) _
      (put_done_tells at_source path (is_some (page_at view.pages path)) groups)
  text_tells left at_source path groups false = no_tag

  page_tells : (left at_source : Bool) (path : List ℕ) (groups : Result (List (List ℕ)) GroupsError)
      → Tells (put_page view left at_source path (page_at view.pages path) groups request)
  page_tells left at_source path (Err e) = no_tag
  page_tells left at_source path (Ok groups) =
      unmet_tells false path (page_at view.pages path) _ refl (text_tells left at_source path groups (is_utf8 request.body))

  put_tells : (left at_source : Bool) (path : Option (List ℕ)) → Tells (put_at view left at_source path request)
  put_tells left at_source None = no_tag
  put_tells left at_source (Some path) = page_tells left at_source path (groups_put at_source (page_at view.pages path) request.target)

  removal_tells : (path : List ℕ) (page : Option Page) → page_at view.pages path ≡ page → Tells (remove_page (found path page) request)
  removal_tells path None is = tt
  removal_tells path (Some page) is = unmet_tells false path (Some page) _ is tt

  remove_tells : (path : Option (List ℕ)) → Tells (remove_page (page_of view path) request)
  remove_tells None = tt
  remove_tells (Some path) = removal_tells path (page_at view.pages path) refl

  regroup_at_tells : (left : Bool) (path : List ℕ) (page : Option Page) (groups : List (List ℕ)) → page_at view.pages path ≡ page
      → Tells (regroup_page view left (found path page) groups request)
  regroup_at_tells left path None groups is = tt
  regroup_at_tells left path (Some page) groups is =
      unmet_tells false path (Some page) _ is
      (full_tells (no_room view left (Some page) page.text) _ (λ tag told. (page, is, sym (some_same _ tag told))))

  regroup_page_tells : (left : Bool) (path : Option (List ℕ)) (groups : List (List ℕ))
      → Tells (regroup_page view left (page_of view path) groups request)
  regroup_page_tells left None groups = tt
  regroup_page_tells left (Some path) groups = regroup_at_tells left path (page_at view.pages path) groups refl

  regroup_tells : (left : Bool) (path : Option (List ℕ)) (named : Option (Result (List (List ℕ)) GroupsError))
      → Tells (regroup_named view left (page_of view path) named request)
  regroup_tells left path None = no_tag
  regroup_tells left path (Some (Err e)) = no_tag
  regroup_tells left path (Some (Ok groups)) = regroup_page_tells left path groups

  done_tells : (left : Bool) (from to : List ℕ) (taken : Bool)
      → Tells (if taken then refused_for 409 (codes "a page stands at to") else unless (full_by (no_alias_room view left to))
      (record { reply = Plain (status_reply 204); edit = Some (edits.Move from to) }))
  done_tells left from to true = no_tag
  done_tells left from to false = full_tells (no_alias_room view left to) _ tt

  move_at_tells : (left : Bool) (path : List ℕ) (page : Option Page) (to : List ℕ) → page_at view.pages path ≡ page
      → Tells (move_page view left (found path page) to request)
  move_at_tells left path None to is = tt
  move_at_tells left path (Some page) to is =
      unmet_tells false path (Some page) _ is (done_tells left path to (is_some (page_at view.pages to)))

  move_page_tells : (left : Bool) (path : Option (List ℕ)) (to : List ℕ) → Tells (move_page view left (page_of view path) to request)
  move_page_tells left None to = tt
  move_page_tells left (Some path) to = move_at_tells left path (page_at view.pages path) to refl

  move_tells : (left : Bool) (path : Option (List ℕ)) (named : Option (Result (List ℕ) PathError))
      → Tells (move_named view left (page_of view path) named request)
  move_tells left path None = no_tag
  move_tells left path (Some (Err e)) = no_tag
  move_tells left path (Some (Ok to)) = move_page_tells left path to

  -- ---- forms and previews: no edit, and no tag

  abbrev Both : EditingResponse → Type 0
  Both response = Meets response.edit × Tells response

  module _ (media : Beside) (render : Renders) (browse : Browse) (offers : Offers) (for_people : Bool) where
    absent_both : (people : Bool) → Both (not_found render browse offers view people)
    absent_both true = (tt, tt)
    absent_both false = (tt, tt)

    elsewhere_both : (people : Bool) (path : List ℕ) (page : Option Page) (goal : Option (List ℕ))
        → Both (only_reply (form_or_goal render browse offers view people path page goal))
    elsewhere_both people path (Some page) goal = (tt, tt)
    elsewhere_both true path None (Some goal) = (tt, tt)
    elsewhere_both false path None (Some goal) = (tt, tt)
    elsewhere_both people path None None = (tt, tt)

    at_both : (path : Option (List ℕ)) → Both (form_at render browse offers view for_people path)
    at_both None = absent_both for_people
    at_both (Some path) = elsewhere_both for_people path (page_at view.pages path) (goal_in view path)

    new_both : (folder : Option (List ℕ)) → Both (new_form render browse offers view for_people folder)
    new_both None = absent_both for_people
    new_both (Some folder) = (tt, tt)

    form_both : (rest : List ℕ) (begins : Bool)
        → Both (if begins then new_form render browse offers view for_people (folder_begun rest)
        else form_at render browse offers view for_people (path_written rest))
    form_both rest true = new_both (folder_begun rest)
    form_both rest false = at_both (path_written rest)

    preview_by : (path : List ℕ) (markdown utf8 : Bool)
        → Both (if not markdown then refused 415 else (if utf8 then only_reply (Shown (preview_of browse view media path
        (render request.body))) else refused_for 400 (codes "the text is not UTF-8")))
    preview_by path false utf8 = (tt, tt)
    preview_by path true true = (tt, tt)
    preview_by path true false = (tt, no_tag)

    preview_both : (path : Option (List ℕ)) → Both (preview_at render browse view media path request)
    preview_both None = (tt, tt)
    preview_both (Some path) = preview_by path request.markdown (is_utf8 request.body)

    owner_both : (left : Bool) (what : EditRequest) → Both (by_owner render browse offers view media left for_people request what)
    owner_both left (requests.ReadSource rest) = (read_meets (path_written rest), read_tells (path_written rest))
    owner_both left (requests.PutSource rest) = (put_meets left true (path_written rest), put_tells left true (path_written rest))
    owner_both left (requests.PutPage rest) = (put_meets left false (path_written rest), put_tells left false (path_written rest))
    owner_both left (requests.Remove rest) = (remove_meets (path_written rest), remove_tells (path_written rest))
    owner_both left (requests.Regroup rest) =
        let named = option_map groups_of (optional_parameter request.target (codes "groups")) in
        (regroup_meets left (path_written rest) named, regroup_tells left (path_written rest) named)
    owner_both left (requests.Move rest) =
        let named = option_map path_of (optional_parameter request.target (codes "to")) in
        (move_meets left (path_written rest) named, move_tells left (path_written rest) named)
    owner_both left (requests.Open rest) = form_both rest (begins_path rest)
    owner_both left (requests.Preview rest) = preview_both (path_written rest)
    owner_both left (requests.NotAllowed resource) = (tt, tt)

    -- ---- one who is no owner

    unauthorized_both : (people : Bool) → Both (unauthorized browse people)
    unauthorized_both true = (tt, tt)
    unauthorized_both false = (tt, tt)

    forbidden_both : (people : Bool) (what : EditRequest) → Both (forbidden render browse offers view people what)
    forbidden_both true (requests.Open rest) = (tt, tt)
    forbidden_both false (requests.Open rest) = (tt, tt)
    forbidden_both people what = (tt, tt)

    other_both : (guest : Bool) (what : EditRequest) → Both (by_other render browse offers view guest for_people what)
    other_both guest (requests.NotAllowed resource) = (tt, tt)
    other_both true what = unauthorized_both for_people
    other_both false what = forbidden_both for_people what

    entry_both_by : (guest left : Bool) (what : EditRequest) (owner : Bool)
        → Both (if owner then by_owner render browse offers view media left for_people request what
        else by_other render browse offers view guest for_people what)
    entry_both_by guest left what true = owner_both left what
    entry_both_by guest left what false = other_both guest what

  entry_both : (media : Beside) (render : Renders) (browse : Browse) (guest : Bool) (reader : Reader) (left for_people : Bool)
      (what : EditRequest)
      → Both (by_entry render browse view media guest reader left for_people request what)
  entry_both media render browse guest reader left for_people what =
      entry_both_by media render browse (offers_for browse guest reader.owner) for_people guest left what reader.owner

-- ---- the laws

-- each edit meets the conditions of its request
pub edits_meet_conditions : (render : Renders) (browse : Browse) (view : View) (media : Beside) (guest : Bool) (reader : Reader)
    (left for_people : Bool)
    (request : Request) (what : EditRequest) (edit : Edit)
    → (by_entry render browse view media guest reader left for_people request what).edit ≡ Some edit
    → unmet_by false request (page_at view.pages (path_of_edit edit)) ≡ None
edits_meet_conditions render browse view media guest reader left for_people request what edit is =
    subst (Meets view request) is (entry_both view request media render browse guest reader left for_people what).0

pub edits_are_of_what_was_named : EditsAreOfWhatWasNamed
edits_are_of_what_was_named render browse view media guest reader left for_people request what edit value tags is =
    named_stands request (page_at view.pages (path_of_edit edit))
    (edits_meet_conditions render browse view media guest reader left for_people request what edit is) value tags

pub nothing_is_replaced_unasked : NothingIsReplacedUnasked
nothing_is_replaced_unasked render browse view media guest reader left for_people request what edit value is =
    none_stands request (page_at view.pages (path_of_edit edit))
    (edits_meet_conditions render browse view media guest reader left for_people request what edit is) value

-- a page that has none of the tags is not one that has
another_is_named : (tags : List EntityTag) (page other : Page) → Some other ≡ Some page → has_tag Strong (tag_of page) tags ≡ false
    → has_tag Strong (tag_of other) tags ≡ true → ⊥
another_is_named tags page other same lacks has =
    both_ways (has_tag Strong (tag_of page) tags) lacks
    (ap (λ p. has_tag Strong (tag_of p) tags) (sym (some_same other page same)) ∙ has)

pub who_names_another_is_refused : WhoNamesAnotherIsRefused
who_names_another_is_refused render browse view media guest reader left for_people request what edit value tags page sent reads stands
    lacks is =
    let it = edits_are_of_what_was_named render browse view media guest reader left for_people request what edit value tags is sent reads in
    another_is_named tags page it.0 (sym it.1 ∙ stands) lacks it.2

pub told_tags_are_the_pages : ToldTagsAreThePages
told_tags_are_the_pages render browse view media guest reader left for_people request what told tag is =
    subst (λ reply. TellsTags view request reply (by_entry render browse view media guest reader left for_people request what).edit) is
    (entry_both view request media render browse guest reader left for_people what).1 tag

-- ---- owners alone

-- to others by what is asked, plainly
other_plainly : (render : Renders) (browse : Browse) (offers : Offers) (view : View) (guest : Bool) (what : EditRequest)
    → by_other render browse offers view guest false what ≡ only_reply (Plain (refusal_of guest what))
other_plainly render browse offers view guest (requests.NotAllowed resource) = refl
other_plainly render browse offers view true (requests.Open rest) = refl
other_plainly render browse offers view false (requests.Open rest) = refl
other_plainly render browse offers view true what = refl
other_plainly render browse offers view false what = refl

other_edits_nothing : (render : Renders) (browse : Browse) (offers : Offers) (view : View) (guest for_people : Bool) (what : EditRequest)
    → (by_other render browse offers view guest for_people what).edit ≡ None
other_edits_nothing render browse offers view guest for_people (requests.NotAllowed resource) = refl
other_edits_nothing render browse offers view true true what = refl
other_edits_nothing render browse offers view true false what = refl
other_edits_nothing render browse offers view false true (requests.Open rest) = refl
other_edits_nothing render browse offers view false false (requests.Open rest) = refl
other_edits_nothing render browse offers view false for_people what = refl

other_guests : (render other : Renders) (browse : Browse) (offers : Offers) (view another : View) (for_people : Bool) (what : EditRequest)
    → by_other render browse offers view true for_people what ≡ by_other other browse offers another true for_people what
other_guests render other browse offers view another for_people (requests.NotAllowed resource) = refl
other_guests render other browse offers view another for_people what = refl

-- who is no owner is answered as others are
as_other : (render : Renders) (browse : Browse) (view : View) (media : Beside) (guest : Bool) (reader : Reader) (left for_people : Bool)
    (request : Request)
    (what : EditRequest) → reader.owner ≡ false
    → by_entry render browse view media guest reader left for_people request what
    ≡ by_other render browse (offers_for browse guest reader.owner) view guest for_people what
as_other render browse view media guest reader left for_people request what is =
    ap (λ owner. if owner then by_owner render browse (offers_for browse guest reader.owner) view media left for_people request what
    else by_other render browse (offers_for browse guest reader.owner) view guest for_people what) is

pub owners_alone : OwnersAlone
owners_alone = record {
  edit_nothing = λ render browse view media guest reader left for_people request what is.
      ap (λ r. r.edit) (as_other render browse view media guest reader left for_people request what is)
      ∙ other_edits_nothing render browse (offers_for browse guest reader.owner) view guest for_people what;
  plainly = λ render browse view media guest reader left request what is.
      as_other render browse view media guest reader left false request what is
      ∙ other_plainly render browse (offers_for browse guest reader.owner) view guest what;
  guests = λ render other browse view another media others reader left still_left for_people request elsewhere what is.
      as_other render browse view media true reader left for_people request what is
      ∙ other_guests render other browse (offers_for browse true reader.owner) view another for_people what
      ∙ sym (as_other other browse another others true reader still_left for_people elsewhere what is);
}
