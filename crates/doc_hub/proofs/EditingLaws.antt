-- In runs no update is lost: where pages are edited so, each edit is that of the response to a request that edits.
use Rattle.std.proofs.Common.{◌≡◌, ℕ, List, Bool, true, false, refl, ap, sym, ◌∙◌}
use Rattle.std.specs.Prelude.{not, ◌||◌, slice_index_or, Option, Some, None, if◌then◌else◌}
use Rattle.std.specs.FinMap as map
use Rattle.doc_http.specs.declared.request.Request.{Request}
use Rattle.doc_http_replies.specs.declared.reply.Reply.{Reply}
use Rattle.doc_http_targets.specs.EditTargets.{EditRoute, edit_route_of}
use Rattle.doc_http_targets.specs.Targets.{Route, route_of}
use Rattle.doc_http_targets.specs.Targets as routes
use Rattle.doc_people.specs.declared.settings.Browse.{Browse}
use Rattle.doc_people.specs.declared.settings.Settings.{Settings}
use Rattle.doc_store_readers.specs.Sites.{View, page_at, view_of}
use Rattle.doc_store_readers.specs.declared.reader.Reader.{Reader}
use Rattle.doc_hub_replies.proofs.OwnerSteps.{owner_page}
use Rattle.doc_hub_replies.specs.Edits.{puts_taken}
use Rattle.doc_hub_replies.specs.Replies as plain
use Rattle.doc_hub_replies.specs.Replies.{Renders, Response, edit_page, method_of, on_route, only_reply, reads, reply_at, response_to}
use Rattle.doc_hub_replies.specs.Edit.{Edit}
use Rattle.doc_hub_replies.specs.Method.{Method}
use Rattle.doc_hub_replies.specs.Method.TheVariants.{Get, Head, Put, Delete, Post, Other}
use Rattle.doc_hub_editing_refusals.specs.Asked.{EditRequest}
use Rattle.doc_hub_replies.proofs.EditingLaws.{edits_are_of_what_was_named, nothing_is_replaced_unasked, owners_alone}
use Rattle.doc_hub_replies.specs.EditAnswers.{by_entry, edit_response, response_if}
use Rattle.doc_hub_replies.specs.EditRequests.{asked_by, at_page, at_route, edit_request_of}
use Rattle.doc_hub_replies.specs.EditLaws.{path_of_edit}
use Rattle.doc_hub_asking.specs.Asking.{Asking, row_of}
use Rattle.doc_hub_asking.specs.Asking as asked
use Rattle.doc_media.specs.Media.{Beside, beside_of}
use Rattle.doc_http_replies.specs.Heads.{Dress}
use Rattle.doc_hub_replies.specs.MediaAnswers.{MediaResponse, media_answer, media_response}
use Rattle.doc_hub_replies.specs.Answer.{Answer}
use Rattle.doc_hub_replies.specs.Answers.{answer_by, answer_of, dress_by, dress_for, edited_or, media_or, is_for_people, style_answer}
use Rattle.doc_hub_replies.specs.Answers.{asks_for_style, unedited}
use Rattle.doc_hub.specs.EditingLaws.{IsEditedBy, NamesWhatStood, NoPageIsReplacedUnasked, NoUpdateIsLost, ReplacesNothing}
use Rattle.doc_hub.specs.Runs.{Happened}
use Rattle.doc_hub.specs.Worlds.{World, asking_of, reader_of}
use Rattle.doc_hub_replies.proofs.TakingLaws.{given_edit_is}
use Rattle.doc_hub_replies.specs.TakingEdits.{answer_given}
use Rattle.doc_hub.proofs.AnswerEdits.{not_editing}
use Rattle.doc_hub_replies.proofs.MediaLaws.{media_edit_nothing}

absent : {X Y : Type 0} (x : X) → None ≡ Some x → Y
absent {X = X} x is = absurd (unlike x is)
  where
    unlike : (x : X) → None ≡ Some x → ⊥
    unlike x e = cc

there : {X Y : Type 0} (x : X) → Some x ≡ None → Y
there x is = absent x (sym is)

-- ---- a request that is none of those that edit makes no edit

page_edits_nothing : (view : View) (owner left : Bool) (rest : List ℕ) (request : Request) (method : Method) → at_page rest method ≡ None
    → (edit_page view owner left rest request method).edit ≡ None
page_edits_nothing view owner left rest request Get is = refl
page_edits_nothing view owner left rest request Head is = refl
page_edits_nothing view owner left rest request Put is = there _ is
page_edits_nothing view owner left rest request Delete is = there _ is
page_edits_nothing view owner left rest request Post is = refl
page_edits_nothing view owner left rest request Other is = refl

route_edits_nothing : (view : View) (owner left : Bool) (route : Route) (request : Request) (method : Method)
    → at_route (Some route) method ≡ None → (plain.edit_at view owner left route request method).edit ≡ None
route_edits_nothing view owner left (routes.Page rest) request method is = page_edits_nothing view owner left rest request method is
route_edits_nothing view owner left (routes.Backlinks rest) request method is = refl
route_edits_nothing view owner left routes.Contents request method is = refl
route_edits_nothing view owner left routes.Search request method is = refl
route_edits_nothing view owner left routes.Broken request method is = refl

if_reads : (reply : Reply) (edit : Response) (reading : Bool) → edit.edit ≡ None → (if reading then only_reply reply else edit).edit ≡ None
if_reads reply edit true none = refl
if_reads reply edit false none = none

module _ (render : Renders) (view : View) (beside : Beside) (left : Bool) (request : Request) where
  at_edits_nothing : (owner : Bool) (route : Option Route) → at_route route (method_of request.method) ≡ None
      → (on_route render view beside owner left route request).edit ≡ None
  at_edits_nothing owner None is = refl
  at_edits_nothing owner (Some route) is =
      if_reads (reply_at render view beside route request) (plain.edit_at view owner left route request (method_of request.method))
      (reads (method_of request.method)) (route_edits_nothing view owner left route request (method_of request.method) is)

  response_edits_nothing : (reader : Option Reader) → at_route (route_of request.target) (method_of request.method) ≡ None
      → (response_to render view beside reader left request).edit ≡ None
  response_edits_nothing None is = refl
  response_edits_nothing (Some reader) is = at_edits_nothing reader.owner (route_of request.target) is

none_asked : (route : Option EditRoute) (other : Option Route) (method : Method) → asked_by route other method ≡ None
    → at_route other method ≡ None
none_asked None other method is = is
none_asked (Some route) other method is = there _ is

no_request : (browse : Browse) (request : Request) → browse.editing ≡ true → edit_request_of browse request ≡ None
    → at_route (route_of request.target) (method_of request.method) ≡ None
no_request browse request editing is =
    none_asked (edit_route_of request.target) (route_of request.target) (method_of request.method)
    (sym
    (ap (λ b. if b then asked_by (edit_route_of request.target) (route_of request.target) (method_of request.method) else None)
    editing) ∙ is)

-- ---- each edit is that of the response to a request that edits

module _ (render : Renders) (browse : Browse) (view : View) (beside : Beside) (left : Bool) (request : Request) (edit : Edit)
    (editing : browse.editing ≡ true)
  where
    -- whoever has this entry asked for it
    record Asked (asking : Asking) : Type 0 where
      guest : Bool
      row : Reader
      what : EditRequest
      is_row : row_of asking ≡ Some row
      is_edit : (by_entry render browse view beside guest row left (is_for_people request) request what).edit ≡ Some edit

    not_unedited : (asking : Asking) (close : Bool) → (response_to render view beside (row_of asking) left request).edit ≡ None
        → (unedited browse render view beside asking left close request).edit ≡ Some edit → Asked asking
    not_unedited asking close none is =
        absent edit (sym (not_editing (λ e. e ≡ None) refl render view beside asking left request none browse close) ∙ is)

    by_request : (asking : Asking) (close : Bool) (what : Option EditRequest) → edit_request_of browse request ≡ what
        → (edited_or (response_if render browse view beside asking left (is_for_people request) request what) (dress_for browse asking)
        close request (unedited browse render view beside asking left close request)).edit ≡ Some edit
        → Asked asking
    by_request asking close None none is =
        not_unedited asking close
        (response_edits_nothing render view beside left request (row_of asking) (no_request browse request editing none)) is
    by_request asked.Nobody close (Some what) some is = not_unedited asked.Nobody close refl is
    by_request (asked.Guest row) close (Some what) some is =
        record { guest = true; row = row; what = what; is_row = refl; is_edit = is }
    by_request (asked.Known row) close (Some what) some is =
        record { guest = false; row = row; what = what; is_row = refl; is_edit = is }

    by_style : (asking : Asking) (close style : Bool)
        → (if style then style_answer close request
        else edited_or (edit_response render browse view beside asking left (is_for_people request) request) (dress_for browse asking)
        close request (unedited browse render view beside asking left close request)).edit ≡ Some edit
        → Asked asking
    unfolding edit_response
    by_style asking close true is = absent edit is
    by_style asking close false is = by_request asking close (edit_request_of browse request) refl is

    -- what media have a part in makes none
    not_beside : (found : Option MediaResponse) (dress : Dress) (close : Bool) (other : Answer)
        → ((response : MediaResponse) → found ≡ Some response → (media_answer dress response close request).edit ≡ None)
        → (media_or found dress close request other).edit ≡ Some edit → other.edit ≡ Some edit
    not_beside None dress close other none is = is
    not_beside (Some response) dress close other none is = absent edit (sym (none response refl) ∙ is)

    taken_asked : (settings : Settings) (asking : Asking) → settings.browse ≡ Some browse
        → (answer_of settings render view beside asking left request).edit ≡ Some edit → Asked asking
    unfolding answer_of
    taken_asked settings asking set is =
        let close : Bool = request.close || not settings.keep_alive in
        let found : Option MediaResponse = media_response settings.browse render view beside asking (is_for_people request) request in
        let other : Answer = answer_by settings.browse render view beside asking left close request in
        by_style asking close (asks_for_style request)
        (sym (ap (λ b. (answer_by b render view beside asking left close request).edit) set)
        ∙ not_beside found (dress_by settings.browse asking) close other
        (media_edit_nothing settings.browse render view beside asking (is_for_people request) close request
        (dress_by settings.browse asking)) is)

    -- whether or not edits are taken
    edit_asked : (settings : Settings) (asking : Asking) → settings.browse ≡ Some browse
        → (answer_given settings render view beside asking left request).edit ≡ Some edit → Asked asking
    edit_asked settings asking set is =
        taken_asked settings asking set (given_edit_is settings render view beside asking left request edit is)

    -- and that is an owner's
    owner_asked : (guest : Bool) (row : Reader) (what : EditRequest)
        → (by_entry render browse view beside guest row left (is_for_people request) request what).edit ≡ Some edit → row.owner ≡ true
    owner_asked guest row what is = by row.owner refl
      where
        by : (owner : Bool) → row.owner ≡ owner → row.owner ≡ true
        by true owns = owns
        by false none =
            absent edit
            (sym (owners_alone.edit_nothing render browse view beside guest row left (is_for_people request) request what none) ∙ is)

-- ---- in a world

module _ (render : Renders) (h : Happened) (request : Request) (edit : Edit) (edited : IsEditedBy render h request edit) where
  abbrev w : World
  w = h.world

  abbrev view : View
  view = view_of w.site (reader_of w request)

  abbrev beside : Beside
  beside = beside_of w.media (reader_of w request)

  found : Asked render edited.browse view beside (puts_taken w.takes_puts w.puts) request edit edited.editing (asking_of w request)
  found =
      edit_asked render edited.browse view beside (puts_taken w.takes_puts w.puts) request edit edited.editing w.settings
      (asking_of w request)
      edited.settings edited.made

  -- what stands for the owner who asked stands in the site
  stands_so : map.get w.site.pages (path_of_edit edit) ≡ page_at view.pages (path_of_edit edit)
  stands_so =
      sym (owner_page w.site found.row (path_of_edit edit)
      (owner_asked render edited.browse view beside (puts_taken w.takes_puts w.puts) request edit edited.editing found.guest found.row
      found.what found.is_edit))
      ∙ ap (λ r. page_at (view_of w.site r).pages (path_of_edit edit)) (sym found.is_row)

names_what_stood : (render : Renders) (h : Happened) → NamesWhatStood render h
names_what_stood render h request edit value tags edited match names =
    let asks = found render h request edit edited in
    let (page, stands, has) = edits_are_of_what_was_named render edited.browse (view render h request edit edited)
    (beside render h request edit edited) asks.guest asks.row
    (puts_taken h.world.takes_puts h.world.puts) (is_for_people request) request asks.what edit value tags asks.is_edit match names in
    (page, stands_so render h request edit edited ∙ stands, has)

replaces_nothing : (render : Renders) (h : Happened) → ReplacesNothing render h
replaces_nothing render h request edit value edited match names =
    let asks = found render h request edit edited in
    stands_so render h request edit edited
    ∙ nothing_is_replaced_unasked render edited.browse (view render h request edit edited)
    (beside render h request edit edited) asks.guest asks.row (puts_taken h.world.takes_puts h.world.puts)
    (is_for_people request) request asks.what edit value asks.is_edit match names

pub no_update_is_lost : NoUpdateIsLost
no_update_is_lost render w v run runs = λ k d lt. names_what_stood render (slice_index_or run k d)

pub no_page_is_replaced_unasked : NoPageIsReplacedUnasked
no_page_is_replaced_unasked render w v run runs = λ k d lt. replaces_nothing render (slice_index_or run k d)
