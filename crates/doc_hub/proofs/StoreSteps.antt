-- Edits of a store are edits of the world that it stands in: stamps change nothing else.
use Rattle.std.proofs.Common.{◌≡◌, ℕ, List, Bool, true, false, refl, ap, sym, ◌∙◌, subst}
use Rattle.std.specs.Prelude.{◌&&◌, ◌||◌, MatchBool, Option, Some, None, Result, Ok, Err, if◌then◌else◌}
use Rattle.std.specs.FinMap as map
use Rattle.doc_page_parts.specs.Refusals.{Gives, IsAnswer}
use Rattle.doc_store_readers.specs.Pages.{Page}
use Rattle.doc_store.specs.Store.{StoreState, aliases_after, fits_in, may_move, move_fits, moved_by, moved_in, put_by, put_into}
use Rattle.doc_store.specs.Store.{without_page}
use Rattle.doc_store.specs.declared.moving.MoveError.{MoveError}
use Rattle.doc_store.specs.declared.moving.MoveError.TheVariants as move_errors
use Rattle.doc_store.specs.declared.store.EditError.{EditError}
use Rattle.doc_store.specs.declared.store.EditError.TheVariants as edit_errors
use Rattle.doc_store.specs.declared.store.Put.{Put}
use Rattle.doc_store.proofs.StoreSteps.{taken_out}
use Rattle.doc_store_readers.specs.Readers.{ReaderTable}
use Rattle.doc_media.specs.Media.{Media}
use Rattle.doc_people.specs.declared.settings.Settings.{Settings}
use Rattle.doc_http.specs.Requests.{IsNext}
use Rattle.doc_http.specs.declared.request.Request.{Request}
use Rattle.doc_http.specs.declared.request.Next.TheVariants as nexts
use Rattle.doc_hub.specs.Connections.{Connections, finished}
use Rattle.doc_hub_replies.specs.Edits.{regrouped, store_after}
use Rattle.doc_hub_replies.specs.Replies.{Renders}
use Rattle.doc_hub.specs.Worlds.{Answers, Stays, Steps, StepsAt, World, answer_in, has_medium, step_said, stepped_by, with_finished}
use Rattle.doc_hub.specs.Worlds.{with_store}
use Rattle.doc_hub.specs.Worlds.{world_after, world_moved, world_put, world_removed}
use Rattle.doc_hub_replies.specs.Answer.{Answer}
use Rattle.doc_hub.specs.declared.connection.Connection.{Connection}
use Rattle.doc_hub_events.specs.declared.event.Step.{Step}
use Rattle.doc_hub_events.specs.declared.event.Step.TheVariants as steps
use Rattle.doc_hub_events.specs.declared.refusal.StepError.{StepError}
use Rattle.doc_hub_replies.specs.Edit.{Edit}
use Rattle.doc_hub_replies.specs.Edit.TheVariants as edits

-- without stamps
abbrev bare : StoreState → StoreState
bare store = record { site = store.site; stamps = map.empty; puts = store.puts }

-- two states with one site and as many puts
abbrev Alike : StoreState → StoreState → Type 0
Alike one other = bare one ≡ bare other

module _ (store : StoreState) where
  put_alike : (path : List ℕ) (page : Page) (stands : Bool) (said : Result (Unit {0}) EditError)
      → bare (put_by (bare store) path page stands said).0 ≡ bare (put_by store path page stands said).0
  put_alike path page stands (Ok fine) = refl
  put_alike path page stands (Err e) = refl

  put_answer : (path : List ℕ) (page : Page) (stands : Bool) (said : Result (Unit {0}) EditError)
      → (put_by (bare store) path page stands said).1 ≡ (put_by store path page stands said).1
  put_answer path page stands (Ok fine) = refl
  put_answer path page stands (Err e) = refl

  move_alike : (from to : List ℕ) (said : Result (Unit {0}) MoveError)
      → bare (moved_by (bare store) from to said).0 ≡ bare (moved_by store from to said).0
  move_alike from to (Ok fine) = refl
  move_alike from to (Err e) = refl

  move_answer : (from to : List ℕ) (said : Result (Unit {0}) MoveError)
      → (moved_by (bare store) from to said).1 ≡ (moved_by store from to said).1
  move_answer from to (Ok fine) = refl
  move_answer from to (Err e) = refl

  removed_alike_by : (path : List ℕ) (stands : Bool)
      → bare (if stands then taken_out (bare store) path else bare store) ≡ bare (if stands then taken_out store path else store)
  removed_alike_by path true = refl
  removed_alike_by path false = refl

  removed_alike : (path : List ℕ) → bare (without_page (bare store) path) ≡ bare (without_page store path)
  removed_alike path = removed_alike_by path (map.contains_key store.site.pages path)

  regrouped_alike : (path : List ℕ) (groups : List (List ℕ)) (found : Option Page)
      → bare (regrouped (bare store) path groups found) ≡ bare (regrouped store path groups found)
  regrouped_alike path groups None = refl
  regrouped_alike path groups (Some page) = refl

  pub after_alike : (text : List ℕ) (edit : Option Edit) → bare (store_after (bare store) text edit) ≡ bare (store_after store text edit)
  after_alike text None = refl
  after_alike text (Some (edits.Put path groups)) = refl
  after_alike text (Some (edits.Regroup path groups)) = regrouped_alike path groups (map.get store.site.pages path)
  after_alike text (Some (edits.Move from to)) = refl
  after_alike text (Some (edits.Remove path)) = removed_alike path

-- what a call gives of a store, it gives of the world
gives_so : {X E : Type 0} (memory : E) (w : World) (given bare_given : StoreState × Result X E) (store new : StoreState) (r : Result X E)
    → Alike bare_given.0 given.0 → bare_given.1 ≡ given.1 → Gives memory given store new r
    → Gives memory (with_store w bare_given.0, bare_given.1) (with_store w store) (with_store w new) r
gives_so {X = X} {E = E} memory w given bare_given store new (Ok x) alike answer gives =
    (λ i. (with_store w (alike i), answer i)) ∙ ap (λ (q : StoreState × Result X E). (with_store w q.0, q.1)) gives
gives_so memory w given bare_given store new (Err e) alike answer gives =
    (subst (λ said. IsAnswer memory said (Err e)) (sym answer) gives.0, ap (with_store w) gives.1)

-- whether a move is refused, by whether a medium stands at the new path
unless_taken : (stands taken medium : Bool) (aliases puts : ℕ) → (stands && medium) ≡ false
    → move_fits stands (taken || medium) aliases puts ≡ move_fits stands taken aliases puts
unless_taken true true true aliases puts e = refl
unless_taken true false true aliases puts e = absurd (unlike e)
  where
    unlike : true ≡ false → ⊥
    unlike h = cc
unless_taken true true false aliases puts e = refl
unless_taken true false false aliases puts e = refl
unless_taken false taken medium aliases puts e = refl

-- the world of a hub with this store and these media
abbrev pub world_of : StoreState → Media → Bool → ReaderTable → Settings → ℕ → Connections → World
world_of store media takes readers settings given connections = record {
  site = store.site;
  media = media;
  puts = store.puts;
  takes_puts = takes;
  readers = readers;
  settings = settings;
  given = given;
  connections = connections;
}

module _ (media : Media) (takes : Bool) (readers : ReaderTable) (settings : Settings) (given : ℕ) (connections : Connections)
    (store new : StoreState)
    (w : World) (view_is : world_of store media takes readers settings given connections ≡ w) where
  abbrev before : World
  before = world_of store media takes readers settings given connections

  abbrev after : World
  after = world_of new media takes readers settings given connections

  -- a put where no medium stands is the store's
  pub put_so : (path : List ℕ) (groups : List (List ℕ)) (text : List ℕ) (r : Result Put EditError) (medium : Bool)
      → medium ≡ has_medium w.media path → medium ≡ false
      → Gives edit_errors.Memory (put_into store path groups text) store new r
      → Gives edit_errors.Memory (world_put w path groups text) w after r
  put_so path groups text r medium is none gives =
      let page : Page = record { groups = groups; text = text } in
      let stands = map.contains_key store.site.pages path in
      let said = fits_in store path text in
      let By : Bool → Type 0 = λ t. Gives edit_errors.Memory
      (let q = put_by (bare store) path page stands (if t then Err edit_errors.Taken else said) in (with_store before q.0, q.1))
      before after r in
      subst (λ v. Gives edit_errors.Memory (world_put v path groups text) v after r) view_is
      (subst By (sym (ap (λ (v : World). has_medium v.media path) view_is ∙ sym is ∙ none))
      (gives_so edit_errors.Memory before (put_into store path groups text) (put_into (bare store) path groups text) store new r
      (put_alike store path page stands said) (put_answer store path page stands said) gives))

  -- a move is the store's, unless a page stands at the old path and a medium at the new one
  pub move_so : (from to : List ℕ) (r : Result (Unit {0}) MoveError) (onto : Bool)
      → onto ≡ (map.contains_key w.site.pages from && has_medium w.media to) → onto ≡ false
      → Gives move_errors.Memory (moved_in store from to) store new r
      → Gives move_errors.Memory (world_moved w from to) w after r
  move_so from to r onto is none gives =
      let said = may_move store from to in
      let By : Result (Unit {0}) MoveError → Type 0 = λ may. Gives move_errors.Memory
      (let q = moved_by (bare store) from to may in (with_store before q.0, q.1)) before after r in
      subst (λ v. Gives move_errors.Memory (world_moved v from to) v after r) view_is
      (subst By (sym (unless_taken (map.contains_key store.site.pages from) (map.contains_key store.site.pages to) (has_medium media to)
      (map.len (aliases_after store.site.aliases from to)) store.puts
      (ap (λ (v : World). map.contains_key v.site.pages from && has_medium v.media to) view_is ∙ sym is ∙ none)))
      (gives_so move_errors.Memory before (moved_in store from to) (moved_in (bare store) from to) store new r
      (move_alike store from to said) (move_answer store from to said) gives))

  pub remove_so : (path : List ℕ) (r : Bool) → r ≡ map.contains_key store.site.pages path → new ≡ without_page store path
      → ◌≡◌ {A = World × Bool} (world_removed w path) (after, r)
  remove_so path r answer is =
      subst (λ v. ◌≡◌ {A = World × Bool} (world_removed v path) (after, r)) view_is
      (λ i. (with_store before ((removed_alike store path ∙ ap bare (sym is)) i), sym answer i))

-- ---- a step that answers a request

module _ (render : Renders) (media : Media) (takes : Bool) (readers : ReaderTable) (settings : Settings) (given : ℕ)
    (connections after : Connections)
    (store new : StoreState)
    (w : World) (view_is : world_of store media takes readers settings given connections ≡ w) (id : ℕ) (c : Connection)
    (found : Some c ≡ map.get connections id) (is_open : c.closed ≡ false) (used : ℕ) (request : Request)
    (begins : IsNext c.unread (nexts.Request used request)) (answer : Answer)
    (answer_is : answer ≡ answer_in render (world_of store media takes readers settings given connections) request)
    (made : new ≡ store_after store request.body answer.edit)
    (set : after ≡ map.insert connections id (finished c used answer.closes)) where
  abbrev left_by : World
  left_by = world_of new media takes readers settings given after

  edited : bare (store_after (bare store) request.body answer.edit) ≡ bare new
  edited = after_alike store request.body answer.edit ∙ ap bare (sym made)

  stepped : ◌≡◌ {A = World × Result Step StepError}
      (stepped_by render (world_of store media takes readers settings given connections) id c (nexts.Request used request))
      (left_by, Ok (step_said answer.closes answer.bytes))
  stepped =
      let old = world_of store media takes readers settings given connections in
      ap (λ (a : Answer). (with_finished (world_after old request a) id c used a.closes, Ok (step_said a.closes a.bytes))) (sym answer_is)
      ∙ (λ i. (world_of (edited i) media takes readers settings given (sym set i), Ok (step_said answer.closes answer.bytes)))

  pub request_answered : (shown : Renders) → render ≡ shown → (said : Step) → said ≡ step_said answer.closes answer.bytes
      → Steps shown w id left_by (Ok said)
  request_answered shown same said said_is =
      let old = world_of store media takes readers settings given connections in
      let Of : Bool → Type 0 = λ closed. MatchBool closed (Stays old (Ok steps.Closed) left_by (Ok said))
      (Answers render old id left_by (Ok said) c) in
      subst (λ (r : Renders). Steps r w id left_by (Ok said)) same (
      subst (λ (v : World). Steps render v id left_by (Ok said)) view_is
      (subst (StepsAt render old id left_by (Ok said)) found
      (subst Of (sym is_open) (nexts.Request used request, begins, stepped ∙ (λ i. (left_by, Ok (sym said_is i)))))))
