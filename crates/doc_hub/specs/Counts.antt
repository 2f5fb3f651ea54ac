-- How often texts are rendered: once for each put that is accepted, a change of groups among them, once for each preview, and for nothing
-- else, where memory suffices.
use Rattle.std.specs.Prelude.{◌≡◌, ℕ, ◌+◌, List, [], ◌∷◌, Bool, true, false, MatchBool, Option, Some, None}
use Rattle.std.specs.FinMap as map
use Rattle.doc_http.specs.Requests.{IsNext}
use Rattle.doc_http.specs.declared.request.Next.{Next}
use Rattle.doc_http.specs.declared.request.Next.TheVariants as nexts
use Rattle.doc_hub_replies.specs.Counts.{RendersPuts, previews_of}
use Rattle.doc_hub_replies.specs.Replies.{Renders}
use Rattle.doc_store_readers.specs.Sites.{view_of}
use Rattle.doc_media.specs.Media.{beside_of}
use Rattle.doc_hub_replies.specs.Answers.{shows_preview}
use Rattle.doc_hub_replies.specs.Shelves.{rendered_for}
use Rattle.doc_store.specs.declared.site_edit.SiteEdit.{SiteEdit}
use Rattle.doc_store.specs.declared.site_edit.SiteEdit.TheVariants as site_edits
use Rattle.doc_hub.specs.EditLaws.{Makes}
use Rattle.doc_hub_events.specs.Events.{Said, SaidOn, step_on, stepping}
use Rattle.doc_hub.specs.Runs.{Happened, RunsAll}
use Rattle.doc_hub.specs.Worlds.{World, asking_of, may_put, reader_of, store_of}
use Rattle.doc_hub.specs.declared.connection.Connection.{Connection}
use Rattle.doc_hub_events.specs.declared.event.ConnId.{ConnId}
use Rattle.doc_hub_events.specs.declared.event.ConnectionEvent.{ConnectionEvent}
use Rattle.doc_hub_events.specs.declared.event.ConnectionEvent.TheVariants as calls
use Rattle.doc_hub_events.specs.declared.event.Event.{Event}
use Rattle.doc_hub_events.specs.declared.event.Event.TheVariants as events
use Rattle.doc_hub_events.specs.declared.outcome.Outcome.{Outcome}
use Rattle.doc_hub_events.specs.declared.outcome.Outcome.TheVariants as outcomes
use Rattle.doc_hub_events.specs.declared.refusal.Refusal.TheVariants as refusals

-- ---- what an event does beside puts: it moves a page, or shows a preview

-- how many moves an edit is
abbrev pub moves_in_edit : Option SiteEdit → ℕ
moves_in_edit (Some (site_edits.Move from to)) = 1
moves_in_edit edit = 0

-- how many previews the reply to what the unread bytes begin with is
abbrev pub previews_by : World → Next → ℕ
previews_by w (nexts.Request used request) =
    previews_of (shows_preview w.settings.browse (view_of w.site (reader_of w request)) (beside_of w.media (reader_of w request))
    (asking_of w request) request)
previews_by w next = 0

-- how many previews a step that answered showed: a closed connection shows none
abbrev pub StepPreviews : World → Option Connection → ℕ → Type 0
StepPreviews w None previews = previews ≡ 0
StepPreviews w (Some c) previews =
    MatchBool c.closed (previews ≡ 0) ((next : Next) × IsNext c.unread next × (previews ≡ previews_by w next))

abbrev pub PreviewsOn : World → ℕ → ConnectionEvent → Outcome → ℕ → Type 0
PreviewsOn w id calls.Step (outcomes.Stepped said) previews = StepPreviews w (map.get w.connections id) previews
PreviewsOn w id call outcome previews = previews ≡ 0

-- how many previews an event showed, where it has this outcome
abbrev pub Previews : World → Event → Outcome → ℕ → Type 0
Previews w (events.On id call) outcome previews = PreviewsOn w id.0 call outcome previews
Previews w event outcome previews = previews ≡ 0

-- the edit that an event makes where it has this outcome is so many moves, and it shows so many previews
pub record Tallies (render : Renders) (w : World) (event : Event) (outcome : Outcome) (moves previews : ℕ) : Type 0 where
  pub edit : Option SiteEdit
  pub made : Makes render w event outcome edit
  pub moved : moves ≡ moves_in_edit edit
  pub shown : Previews w event outcome previews

-- the same of a run
abbrev pub AllTally : Renders → List Happened → ℕ → ℕ → Type 0
AllTally render [] moves previews = (moves ≡ 0) × (previews ≡ 0)
AllTally render (h ∷ run) moves previews =
    (m n k l : ℕ) × Tallies render h.world h.event h.outcome m n × AllTally render run k l × (moves ≡ m + k) × (previews ≡ n + l)

-- ---- how often texts are rendered

-- whether memory ran out
abbrev pub ran_out : Outcome → Bool
ran_out (outcomes.Refused refusals.Memory) = true
ran_out outcome = false

-- between two counts of renderings, in a world and the one that an event leaves, unless memory ran out
abbrev pub Counted : Renders → ℕ → World → ℕ → World → Event → Outcome → Type 0
Counted render rendered w rendered' v event outcome =
    ran_out outcome ≡ false
    → (moves previews : ℕ) × Tallies render w event outcome moves previews × RendersPuts rendered w.puts rendered' v.puts moves previews

-- the same of a run of events, of which memory ran out in none
pub record CountedAll (render : Renders) (events : List Event) (rendered : ℕ) (w : World) (rendered' : ℕ) (v : World)
    (told : List Outcome)
    : Type 0 where
  pub all : RunsAll render events w v told
  pub moves : ℕ
  pub previews : ℕ
  pub tallied : AllTally render all.run moves previews
  pub renders : RendersPuts rendered w.puts rendered' v.puts moves previews

-- what the call of an event says of it: a put that fits is rendered once, also where memory runs out behind that, and of calls only
-- puts and steps render
abbrev pub CountsOn : Renders → ℕ → World → ℕ → World → ConnId → (call : ConnectionEvent) → SaidOn call → Type 0
CountsOn render rendered w rendered' v id calls.Step said = Counted render rendered w rendered' v (step_on id) (stepping said)
CountsOn render rendered w rendered' v id call said = rendered' ≡ rendered

abbrev pub CountsSite : ℕ → World → ℕ → SiteEdit → Type 0
CountsSite rendered w rendered' (site_edits.Put path groups text) =
    rendered' ≡ rendered + rendered_for (may_put w.media (store_of w) path text)
CountsSite rendered w rendered' edit = rendered' ≡ rendered

abbrev pub CountsFor : Renders → ℕ → World → ℕ → World → (event : Event) → Said event → Type 0
CountsFor render rendered w rendered' v (events.On id call) said = CountsOn render rendered w rendered' v id call said
CountsFor render rendered w rendered' v (events.Site edit) said = CountsSite rendered w rendered' edit
CountsFor render rendered w rendered' v event said = rendered' ≡ rendered
