-- What the command `demo` sends: a run of the hub on the demonstration site. All of this is this project's choice.
use Rattle.std.specs.Prelude.{◌≡◌, ◌<◌, ⊤, ◌⊎◌, ℕ, List, [], ◌∷◌, ◌++◌, length, codes, string_bytes, All, Option, IfSome}
use Rattle.std.specs.Io.KnownBytes.{Appends, Keeps}
use Rattle.doc_hub.specs.Connections.{backlog_limit}
use Rattle.doc_hub.specs.Replies.{Renders}
use Rattle.doc_hub.specs.Worlds.{World}
use Rattle.doc_hub.specs.Runs.{Happened, Runs, sent_on}
use Rattle.doc_hub_events.specs.declared.event.Event.{Event}
use Rattle.doc_hub_events.specs.Events.{push_on, step_on}
use Rattle.doc_hub_events.specs.declared.event.Event.TheVariants as events
use Rattle.doc_hub_events.specs.declared.event.Step.TheVariants as steps
use Rattle.doc_hub_events.specs.declared.outcome.Outcome.{Outcome}
use Rattle.doc_hub_events.specs.declared.outcome.Outcome.TheVariants as outcomes
use Rattle.doc_server.specs.DemoSite.{demo_world}
use Rattle.doc_server_streams.specs.Streams.{AppendsPrefix}
use Rattle.doc_server_streams.specs.declared.fault.Fault.{Fault}
use Rattle.doc_server_streams.specs.declared.fault.Fault.TheVariants as faults

-- a step sent a reply
abbrev pub Sends : Outcome → Type 0
Sends (outcomes.Stepped (steps.Sent bytes)) = ⊤
Sends (outcomes.Stepped (steps.Last bytes)) = ⊤
Sends outcome = ⊥

-- a step found no request, or the connection closed
abbrev pub Ends : Outcome → Type 0
Ends (outcomes.Stepped steps.More) = ⊤
Ends (outcomes.Stepped steps.Closed) = ⊤
Ends outcome = ⊥

-- a step of this connection, of which something is known
abbrev pub IsStep : ℕ → (Outcome → Type 0) → Happened → Type 0
IsStep id Is h = (h.event ≡ step_on (record { 0 = id })) × Is h.outcome

-- this event with this outcome
abbrev pub Was : Event → Outcome → Happened → Type 0
Was event outcome h = (h.event ≡ event) × (h.outcome ≡ outcome)

-- steps of this connection that each send a reply
abbrev pub AreReplies : ℕ → List Happened → Type 0
AreReplies id run = All (IsStep id Sends) run

-- Steps of this connection, as many as there are replies, and one more, which finds no request.
abbrev pub StepsToEnd : ℕ → List Happened → Type 0
StepsToEnd id run =
    (replies : List Happened) × (last : Happened) × (run ≡ replies ++ last ∷ []) × AreReplies id replies × IsStep id Ends last

-- The connection 1 is made and takes all these bytes at once; the rest follows.
abbrev pub Opens : List ℕ → List Happened → List Happened → Type 0
Opens bytes rest run =
    (made taken : Happened) × (run ≡ made ∷ taken ∷ rest)
    × Was events.Connect (outcomes.Conn (record { 0 = 1 })) made × Was (push_on (record { 0 = 1 }) bytes) outcomes.Pushed taken

-- A run from the demonstration world opens the connection with all that the input had left, where that
-- is known. `Goes` says how it goes on, and `Grows` what becomes of what it sends on the connection.
abbrev pub RunSends : Renders → Option (List ℕ) → (List Happened → Type 0) → (List ℕ → Type 0) → Type 0
RunSends render input Goes Grows =
    (bytes : List ℕ) × (run rest : List Happened) × (v : World) × IfSome input (λ left. bytes ≡ left)
    × Runs render demo_world run v × Opens bytes rest run × Goes rest × Grows (sent_on 1 run)

-- The output grows by what such a run sends that answers until no request is left.
abbrev pub Demonstrates : Renders → Option (List ℕ) → Option (List ℕ) → Option (List ℕ) → Type 0
Demonstrates render input old new = RunSends render input (StepsToEnd 1) (Appends old new)

-- What stops the command, and what the output holds then. Standard input can't be read, or holds more
-- bytes than a connection may have unread: nothing is written. The output can't be written: it grows by
-- a prefix of the replies that such a run sends. Memory runs out: it grows by whole replies, or not.
abbrev pub StopsDemo : Renders → Option (List ℕ) → Option (List ℕ) → Option (List ℕ) → Fault → Type 0
StopsDemo render input old new (faults.CannotRead called) = (string_bytes called ≡ codes "-") × Keeps old new
StopsDemo render input old new faults.Refused = IfSome input (λ left. backlog_limit < length left) × Keeps old new
StopsDemo render input old new faults.CannotWrite = RunSends render input (AreReplies 1) (AppendsPrefix old new)
StopsDemo render input old new faults.Memory = Keeps old new ⊎ RunSends render input (AreReplies 1) (Appends old new)
StopsDemo render input old new fault = ⊥
