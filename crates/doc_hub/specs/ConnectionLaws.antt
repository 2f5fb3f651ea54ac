-- Laws of connections: pushes one after another, dropped connections, and their numbers.
use Rattle.std.specs.Prelude.{◌≡◌, ◌≤◌, ◌++◌, ℕ, List, None, Result, Ok, Err}
use Rattle.doc_hub_events.specs.declared.event.ConnId.{ConnId}
use Rattle.doc_hub_events.specs.Events.{push_on}
use Rattle.doc_hub_events.specs.declared.event.Step.{Step}
use Rattle.doc_hub_events.specs.declared.refusal.PushError.{PushError}
use Rattle.doc_hub_events.specs.declared.refusal.PushError.TheVariants as push_errors
use Rattle.doc_hub_events.specs.declared.refusal.StepError.{StepError}
use Rattle.doc_hub_events.specs.declared.refusal.StepError.TheVariants as step_errors
use Rattle.doc_hub_replies.specs.Replies.{Renders}
use Rattle.doc_hub.specs.Runs.{Happens, Happened, Runs}
use Rattle.doc_hub.specs.StepLaws.{connection}
use Rattle.doc_hub.specs.Worlds.{World, Stays, Steps, disconnected, world_pushed}

-- ---- how bytes are cut

-- Two accepted pushes are the push of the joined bytes: they leave the same world.
abbrev pub PushesJoin : Type 0
PushesJoin =
    (render : Renders) (w v u : World) (c : ConnId) (bytes more : List ℕ)
    → Happens render w (push_on c bytes) v (Ok tt) → Happens render v (push_on c more) u (Ok tt)
    → Happens render w (push_on c (bytes ++ more)) u (Ok tt)

-- ---- dropped connections

-- In a world from which the connection was dropped, pushes and steps on its number answer that there is none.
pub record IsGone (w : World) (id : ℕ) : Type 0 where
  pub push : (bytes : List ℕ) → ◌≡◌ {A = World × Result (Unit {0}) PushError} (world_pushed w id bytes) (w, Err push_errors.NoConnection)
  pub step : (render : Renders) (v : World) (said : Result Step StepError) → Steps render w id v said
      → Stays w (Err step_errors.NoConnection) v said

abbrev pub DroppedIsGone : Type 0
DroppedIsGone = (w : World) (id : ℕ) → IsGone (disconnected w id).0 id

-- No number is given again: one that was given and has no connection has none after any run.
abbrev pub NumbersAreGivenOnce : Type 0
NumbersAreGivenOnce =
    (render : Renders) (w v : World) (run : List Happened) (id : ℕ) → id ≤ w.given → connection id w ≡ None → Runs render w run v
    → connection id v ≡ None
