-- Parts of runs: what happens on one connection, or on some of them.
use Rattle.std.specs.Prelude.{◌≡◌, ℕ, List, [], All, Contains, Option, Some, None, flat_map, slice_get}
use Rattle.doc_hub_events.specs.declared.event.ConnectionEvent.TheVariants as calls
use Rattle.doc_hub_events.specs.declared.event.Event.{Event}
use Rattle.doc_hub_events.specs.declared.event.Event.TheVariants as events
use Rattle.doc_hub_events.specs.declared.outcome.Outcome.{Outcome}
use Rattle.doc_hub_events.specs.declared.outcome.Outcome.TheVariants as outcomes
use Rattle.doc_hub.specs.Runs.{Happened, events_on}

-- ---- on one

-- the connection of a push, of a step or of a disconnect
abbrev pub served_by : Event → Option ℕ
served_by (events.On id call) = Some id.0
served_by event = None

-- pushes, steps and disconnects of this connection alone
abbrev pub AreOf : ℕ → List Happened → Type 0
AreOf c run = All (λ h. served_by h.event ≡ Some c) run

-- the bytes of an accepted push
abbrev pub pushed_by : Event → Outcome → List ℕ
pushed_by (events.On id (calls.Push bytes)) outcomes.Pushed = bytes
pushed_by event outcome = []

-- the bytes that a run's accepted pushes take to a connection
abbrev pub pushed_on : ℕ → List Happened → List ℕ
pushed_on c run = flat_map (λ h. pushed_by h.event h.outcome) (events_on c run)

-- an event on the connection came to this
abbrev pub Gave : (Outcome → Type 0) → ℕ → List Happened → Type 0
Gave Is c run = (h : Happened) × Contains (events_on c run) h × Is h.outcome

-- ---- on some

-- no other place of the list has what this one has
abbrev pub IsAlone : List ℕ → ℕ → Type 0
IsAlone ids i = (j c : ℕ) → slice_get ids i ≡ Some c → slice_get ids j ≡ Some c → j ≡ i

-- pushes, steps and disconnects of these connections
abbrev pub AreOfAny : List ℕ → List Happened → Type 0
AreOfAny ids run = All (λ h. (c : ℕ) × (served_by h.event ≡ Some c) × Contains ids c) run
