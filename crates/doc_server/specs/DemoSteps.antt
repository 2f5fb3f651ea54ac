-- Words in which the parts of the command `demo` are stated.
use Rattle.std.specs.Prelude.{◌≡◌, ⊤, ℕ, List, Bool, MatchBool, Option, Some, Result, Err}
use Rattle.std.specs.FinMap as map
use Rattle.std.specs.Io.KnownBytes.{Appends, Keeps}
use Rattle.doc_hub.specs.Replies.{Renders}
use Rattle.doc_hub.specs.Worlds.{World}
use Rattle.doc_hub.specs.Runs.{Leaves, Happened, Runs, sent_by, sent_on}
use Rattle.doc_hub_events.specs.Events.{step_on}
use Rattle.doc_hub_events.specs.declared.outcome.Outcome.{Outcome}
use Rattle.doc_hub.specs.declared.connection.Connection.{Connection}
use Rattle.doc_server.specs.Demo.{Sends, Ends, AreReplies, StepsToEnd}
use Rattle.doc_server_streams.specs.Streams.{AppendsPrefix}
use Rattle.doc_server_streams.specs.declared.fault.Fault.{Fault}
use Rattle.doc_server_streams.specs.declared.fault.Fault.TheVariants as faults

-- the connection was made
abbrev pub IsMade : World → ℕ → Type 0
IsMade w id = (k : Connection) × (map.get w.connections id ≡ Some k)

-- a call stops the program because it is refused, or memory ran out
abbrev pub StopsCall : {X E : Type 0} → Result X E → Fault → Type 0
StopsCall r faults.Memory = ⊤
StopsCall (Err e) faults.Refused = ⊤
StopsCall r fault = ⊥

-- A step of this connection was answered, and the output grows by what it sent: a reply, or nothing
-- where there was no more.
abbrev pub SendsNext : Renders → World → ℕ → World → Option (List ℕ) → Option (List ℕ) → Bool → Type 0
SendsNext render w id v old new more =
    (outcome : Outcome) × Leaves render w (step_on (record { 0 = id })) v outcome × MatchBool more (Sends outcome) (Ends outcome)
    × Appends old new (sent_by outcome)

-- Memory ran out before the step, or its reply was cut off.
abbrev pub StopsNext : Renders → World → ℕ → World → Option (List ℕ) → Option (List ℕ) → Fault → Type 0
StopsNext render w id v old new faults.Memory = (v ≡ w) × Keeps old new
StopsNext render w id v old new faults.CannotWrite =
    (outcome : Outcome) × Leaves render w (step_on (record { 0 = id })) v outcome × Sends outcome
    × AppendsPrefix old new (sent_by outcome)
StopsNext render w id v old new fault = ⊥

-- steps of this connection that go so, and what becomes of what they send
abbrev pub StepsSend : Renders → World → ℕ → World → (List Happened → Type 0) → (List ℕ → Type 0) → Type 0
StepsSend render w id v Goes Grows = (run : List Happened) × Runs render w run v × Goes run × Grows (sent_on id run)

-- The output grows by what steps of this connection send that answer to the end.
abbrev pub SendsToEnd : Renders → World → ℕ → World → Option (List ℕ) → Option (List ℕ) → Type 0
SendsToEnd render w id v old new = StepsSend render w id v (StepsToEnd id) (Appends old new)

-- The output grows by replies of this connection: by whole ones where memory ran out, and else cut off
-- anywhere.
abbrev pub StopsReplies : Renders → World → ℕ → Option (List ℕ) → Option (List ℕ) → Fault → Type 0
StopsReplies render w id old new faults.Memory = (v : World) × StepsSend render w id v (AreReplies id) (Appends old new)
StopsReplies render w id old new faults.CannotWrite = (v : World) × StepsSend render w id v (AreReplies id) (AppendsPrefix old new)
StopsReplies render w id old new fault = ⊥
