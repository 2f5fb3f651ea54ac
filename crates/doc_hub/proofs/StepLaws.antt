-- Step noninterference, and what a step of an open connection answers.
use Rattle.std.proofs.Common.{◌≡◌, ℕ, List, Bool, true, false, bytes_eq, codes, refl, ap, sym, ◌∙◌, subst}
use Rattle.std.specs.Prelude.{not, ◌&&◌, ◌||◌, Option, Some, None, option_map, Result, Ok, if◌then◌else◌}
use Rattle.std.specs.FinMap as map
use Rattle.doc_store_readers.specs.declared.reader.Reader.{Reader}
use Rattle.doc_store_readers.specs.Maps.{TextMap}
use Rattle.doc_store_readers.specs.Pages.{Page}
use Rattle.doc_store_readers.specs.Sites.{View, view_of, visible_to}
use Rattle.doc_media.specs.Media.{Beside, Media, beside_of, media_visible_to}
use Rattle.doc_http.specs.Requests.{IsNext}
use Rattle.doc_http.specs.declared.request.Request.{Request}
use Rattle.doc_http.specs.declared.request.Next.{Next}
use Rattle.doc_http.specs.declared.request.Next.TheVariants as nexts
use Rattle.doc_http.proofs.LawLemmas.{read_in_one_way}
use Rattle.doc_http_replies.specs.Heads.{Dress, undressed}
use Rattle.doc_http_targets.specs.Targets.{Route, route_of}
use Rattle.doc_http_targets.specs.Targets as routes
use Rattle.doc_hub_replies.specs.Answer.{Answer}
use Rattle.doc_hub.specs.declared.connection.Connection.{Connection}
use Rattle.doc_hub_events.specs.declared.event.ReaderEdit.TheVariants as reader_edits
use Rattle.doc_hub_events.specs.declared.event.Step.{Step}
use Rattle.doc_hub_replies.specs.Method.{Method}
use Rattle.doc_hub_replies.specs.Method.TheVariants.{Get, Head, Put, Delete, Post, Other}
use Rattle.doc_hub_events.specs.declared.refusal.StepError.{StepError}
use Rattle.doc_hub_replies.specs.Edits.{puts_taken}
use Rattle.doc_hub_replies.specs.Replies.{Renders, Response, at_route, edit_at, edit_page, method_of, on_route, only_reply, plain_answer}
use Rattle.doc_hub_replies.specs.Replies.{put_by, reads, refused, reply_at, response_to}
use Rattle.doc_hub_asking.specs.Asking.{Asking, is_guest, row_of}
use Rattle.doc_hub_replies.specs.EditAnswers.{edit_response}
use Rattle.doc_hub_replies.specs.PeopleAnswers.{people_reply}
use Rattle.doc_hub_replies.specs.MediaAnswers.{MediaResponse, media_response}
use Rattle.doc_hub_replies.specs.ServingSteps.{closes_after}
use Rattle.doc_hub_replies.specs.TakingEdits.{answer_given, left_to, refused_or}
use Rattle.doc_hub_replies.specs.Answers.{answer_by, answer_of, asks_for_style, browsed, dress_by, dress_for, edited_or, is_for_people}
use Rattle.doc_hub_replies.specs.Answers.{kept_from_guests}
use Rattle.doc_hub_replies.specs.Answers.{media_or, people_answer, style_answer, unedited}
use Rattle.doc_people.specs.declared.settings.Browse.{Browse}
use Rattle.doc_people.specs.declared.settings.Settings.{Settings}
use Rattle.doc_hub.specs.StepLaws.{Agree, AgreeOn, AnswersAlike, NewReadersAlike, StepsAlike, connection, is_owners_put, open_with}
use Rattle.doc_hub.specs.Worlds.{World, Steps, StepsAt, asking_of, reader_of, stepped_by, step_said}
use Rattle.doc_hub.proofs.EditingAlike.{edit_response_alike}
use Rattle.doc_hub.proofs.KindSteps.{leaves_all_but_readers}

-- ---- a PUT of an owner alone asks whether a put is taken

by_name : (get head put delete post : Bool)
    → ◌≡◌ {A = Method} (if get then Get else (if head then Head else (if put then Put else (if delete then Delete
    else (if post then Post else Other)))))
    Put
    → put ≡ true
by_name true head put delete post is = absurd (unlike is)
  where
    unlike : Get ≡ Put → ⊥
    unlike e = cc
by_name false true put delete post is = absurd (unlike is)
  where
    unlike : Head ≡ Put → ⊥
    unlike e = cc
by_name false false true delete post is = refl
by_name false false false true post is = absurd (unlike is)
  where
    unlike : Delete ≡ Put → ⊥
    unlike e = cc
by_name false false false false true is = absurd (unlike is)
  where
    unlike : Post ≡ Put → ⊥
    unlike e = cc
by_name false false false false false is = absurd (unlike is)
  where
    unlike : Other ≡ Put → ⊥
    unlike e = cc

put_is_named : (name : List ℕ) → method_of name ≡ Put → bytes_eq name (codes "PUT") ≡ true
put_is_named name is =
    by_name (bytes_eq name (codes "GET")) (bytes_eq name (codes "HEAD")) (bytes_eq name (codes "PUT")) (bytes_eq name (codes "DELETE"))
    (bytes_eq name (codes "POST")) is

module _ (render : Renders) (view : View) (beside : Beside) (left other : Bool) (request : Request) where
  same_put : (owner : Bool) (rest : List ℕ) → (owner ≡ true → left ≡ other)
      → ◌≡◌ {A = Response} (if owner then put_by view left rest request else refused 403)
      (if owner then put_by view other rest request else refused 403)
  same_put true rest same = ap (λ l. put_by view l rest request) (same refl)
  same_put false rest same = refl

  same_page : (owner : Bool) (rest : List ℕ) (method : Method) → (method ≡ Put → owner ≡ true → left ≡ other)
      → edit_page view owner left rest request method ≡ edit_page view owner other rest request method
  same_page owner rest Get same = refl
  same_page owner rest Head same = refl
  same_page owner rest Put same = same_put owner rest (same refl)
  same_page owner rest Delete same = refl
  same_page owner rest Post same = refl
  same_page owner rest Other same = refl

  same_edit : (owner : Bool) (route : Route) (method : Method) → (method ≡ Put → owner ≡ true → left ≡ other)
      → edit_at view owner left route request method ≡ edit_at view owner other route request method
  same_edit owner (routes.Page rest) method same = same_page owner rest method same
  same_edit owner (routes.Backlinks rest) method same = refl
  same_edit owner routes.Contents method same = refl
  same_edit owner routes.Search method same = refl
  same_edit owner routes.Broken method same = refl

  same_at : (owner : Bool) (route : Route) (method : Method) → (method ≡ Put → owner ≡ true → left ≡ other)
      → at_route render view beside owner left route request method ≡ at_route render view beside owner other route request method
  same_at owner route method same =
      ap (λ edit. if reads method then only_reply (reply_at render view beside route request) else edit) (same_edit owner route method same)

  same_route : (owner : Bool) (route : Option Route) → (method_of request.method ≡ Put → owner ≡ true → left ≡ other)
      → on_route render view beside owner left route request ≡ on_route render view beside owner other route request
  same_route owner None same = refl
  same_route owner (Some route) same = same_at owner route (method_of request.method) same

  same_response : (reader : Option Reader) → (is_owners_put reader request ≡ true → left ≡ other)
      → response_to render view beside reader left request ≡ response_to render view beside reader other request
  same_response None same = refl
  same_response (Some reader) same =
      same_route reader.owner (route_of request.target)
      (λ puts owns. same (ap (λ b. b && bytes_eq request.method (codes "PUT")) owns ∙ put_is_named request.method puts))

  -- one that isn't for people, and doesn't edit
  same_plain : (dress : Dress) (asking : Asking) (close guest : Bool) → (is_owners_put (row_of asking) request ≡ true → left ≡ other)
      → plain_answer dress (kept_from_guests guest (response_to render view beside (row_of asking) left request)) close request
      ≡ plain_answer dress (kept_from_guests guest (response_to render view beside (row_of asking) other request)) close request
  same_plain dress asking close guest same =
      ap (λ response. plain_answer dress (kept_from_guests guest response) close request) (same_response (row_of asking) same)

  same_unedited : (browse : Browse) (asking : Asking) (close : Bool) → (is_owners_put (row_of asking) request ≡ true → left ≡ other)
      → unedited browse render view beside asking left close request ≡ unedited browse render view beside asking other close request
  same_unedited browse asking close same =
      ap (λ plain. if is_for_people request then people_answer (people_reply render browse view beside asking request) close request
      else plain)
      (same_plain (dress_for browse asking) asking close (is_guest asking) same)

  -- one that edits
  same_edits : (browse : Browse) (asking : Asking) → (is_owners_put (row_of asking) request ≡ true → left ≡ other)
      → edit_response render browse view beside asking left (is_for_people request) request
      ≡ edit_response render browse view beside asking other (is_for_people request) request
  same_edits browse asking same =
      edit_response_alike render browse view beside left other (is_for_people request) request asking
      (λ row owns asks puts. same (ap (λ o. is_owners_put o request) asks
      ∙ ap (λ b. b && bytes_eq request.method (codes "PUT")) owns ∙ put_is_named request.method puts))

  same_browsed : (browse : Browse) (asking : Asking) (close : Bool) → (is_owners_put (row_of asking) request ≡ true → left ≡ other)
      → browsed browse render view beside asking left close request ≡ browsed browse render view beside asking other close request
  same_browsed browse asking close same =
      λ i. if asks_for_style request then style_answer close request
      else edited_or (same_edits browse asking same i) (dress_for browse asking) close request (same_unedited browse asking close same i)

  same_by : (browse : Option Browse) (asking : Asking) (close : Bool) → (is_owners_put (row_of asking) request ≡ true → left ≡ other)
      → answer_by browse render view beside asking left close request ≡ answer_by browse render view beside asking other close request
  same_by None asking close same =
      ap (λ response. plain_answer undressed response close request) (same_response (row_of asking) same)
  same_by (Some browse) asking close same = same_browsed browse asking close same

  asks_of_puts : (settings : Settings) (asking : Asking) → (is_owners_put (row_of asking) request ≡ true → left ≡ other)
      → answer_of settings render view beside asking left request ≡ answer_of settings render view beside asking other request
  unfolding answer_of
  asks_of_puts settings asking same =
      let close : Bool = request.close || not settings.keep_alive in
      let found : Option MediaResponse = media_response settings.browse render view beside asking (is_for_people request) request in
      ap (media_or found (dress_by settings.browse asking) close request) (same_by settings.browse asking close same)

  given_alike : (settings : Settings) (asking : Asking) → (is_owners_put (row_of asking) request ≡ true → left ≡ other)
      → answer_given settings render view beside asking left request ≡ answer_given settings render view beside asking other request
  unfolding answer_given
  given_alike settings asking same =
      ap (refused_or (left_to settings asking request) (dress_by settings.browse asking) (closes_after settings request) request)
      (asks_of_puts settings asking same)

-- ---- answers and steps

-- the media beside a view are those that are seen
seen_beside : (media : Media) (reader : Option Reader)
    → beside_of media reader ≡ option_map (λ (held : TextMap Page). map.entries held) (media_visible_to media reader)
seen_beside None reader = refl
seen_beside (Some held) reader = refl

-- where the same is seen of them, the same stands beside the views
pub same_beside : (media others : Media) (reader another : Option Reader) → media_visible_to media reader ≡ media_visible_to others another
    → beside_of media reader ≡ beside_of others another
same_beside media others reader another same =
    seen_beside media reader ∙ ap (option_map (λ (held : TextMap Page). map.entries held)) same ∙ sym (seen_beside others another)

pub answers_alike : AnswersAlike
answers_alike render w v request agree =
    let beside = same_beside w.media v.media (reader_of w request) (reader_of v request) agree.beside in
    given_alike render (view_of w.site (reader_of w request)) (beside_of w.media (reader_of w request)) (puts_taken w.takes_puts w.puts)
    (puts_taken v.takes_puts v.puts)
    request w.settings (asking_of w request) agree.puts
    ∙ (λ i. answer_given (agree.settings i) render
    (record { pages = map.entries (agree.sites i).pages; aliases = map.entries (agree.sites i).aliases })
    (beside i) (agree.asking i) (puts_taken v.takes_puts v.puts) request)

-- other readers, of whom who asks is found as before
alike_by_readers : (render : Renders) (w v : World) (request : Request) → v ≡ record w { readers = v.readers }
    → asking_of w request ≡ asking_of v request → Agree w v request
alike_by_readers render w v request same asking = record {
  settings = sym (ap (λ (x : World). x.settings) same);
  asking = asking;
  sites = λ i. visible_to (ap (λ (x : World). x.site) (sym same) i) (row_of (asking i));
  beside = λ i. media_visible_to (ap (λ (x : World). x.media) (sym same) i) (row_of (asking i));
  puts = λ owns. λ i. puts_taken (ap (λ (x : World). x.takes_puts) (sym same) i) (ap (λ (x : World). x.puts) (sym same) i);
}

pub new_readers_alike : NewReadersAlike
new_readers_alike render w v readers request h asking =
    answers_alike render w v request
    (alike_by_readers render w v request (leaves_all_but_readers w v (reader_edits.All readers) (Ok tt) h) asking)

-- what a step answers, by what the unread bytes begin with
pub said_alike : (render : Renders) (w v : World) (c d : ℕ) (one other : Connection) (next : Next) → AgreeOn w v next
    → (stepped_by render w c one next).1 ≡ (stepped_by render v d other next).1
said_alike render w v c d one other nexts.More agree = refl
said_alike render w v c d one other (nexts.Fault code bare) agree = refl
said_alike render w v c d one other (nexts.Request used request) agree =
    ap (λ (a : Answer). Ok (step_said a.closes a.bytes)) (answers_alike render w v request agree)

-- what an open connection's step answered is the definition's, by whatever its bytes begin with
said_by : (render : Renders) (w v : World) (c : ℕ) (unread : List ℕ) (next : Next) (said : Step) → IsNext unread next
    → StepsAt render w c v (Ok said) (Some (open_with unread)) → (stepped_by render w c (open_with unread) next).1 ≡ Ok said
said_by render w v c unread next said is (other, also, gives) =
    ap (λ n. (stepped_by render w c (open_with unread) n).1) (read_in_one_way unread next other is also)
    ∙ ap (λ (p : World × Result Step StepError). p.1) gives

pub said_of : (render : Renders) (w v : World) (c : ℕ) (unread : List ℕ) (next : Next) (said : Step)
    → connection c w ≡ Some (open_with unread) → IsNext unread next → Steps render w c v (Ok said)
    → (stepped_by render w c (open_with unread) next).1 ≡ Ok said
said_of render w v c unread next said stands is steps =
    let P : Option Connection → Type 0 = λ k. StepsAt render w c v (Ok said) k in
    said_by render w v c unread next said is (subst P stands steps)

same_ok : {X E : Type 0} (x y : X) → ◌≡◌ {A = Result X E} (Ok x) (Ok y) → x ≡ y
same_ok x y e = cc

pub steps_alike : StepsAlike
steps_alike render w v w' v' c d next said told one other agree here there =
    same_ok said told (
    sym (said_of render w w' c.0 one.unread next said one.stands one.begins here)
    ∙ said_alike render w v c.0 d.0 (open_with one.unread) (open_with other.unread) next agree
    ∙ said_of render v v' d.0 other.unread next told other.stands other.begins there)
