-- Run noninterference: what is sent on a connection depends on its own events and on what its readers may see.
use Rattle.std.specs.Prelude.{◌≡◌, ℕ, All, List, [], ◌∷◌, Some, ⊤}
use Rattle.doc_http.specs.Requests.{IsNext}
use Rattle.doc_http.specs.declared.request.Next.{Next}
use Rattle.doc_hub.specs.declared.connection.Connection.{Connection}
use Rattle.doc_hub_events.specs.declared.event.ConnectionEvent.{ConnectionEvent}
use Rattle.doc_hub_events.specs.declared.event.ConnectionEvent.TheVariants as calls
use Rattle.doc_hub_events.specs.declared.event.Event.{Event}
use Rattle.doc_hub_events.specs.declared.event.Event.TheVariants as events
use Rattle.doc_hub_replies.specs.Replies.{Renders}
use Rattle.doc_hub.specs.Runs.{IsOutOfMemory, Happened, Runs, events_on, sent_on}
use Rattle.doc_hub.specs.StepLaws.{AgreeOn, connection}
use Rattle.doc_hub.specs.Worlds.{World}

-- the worlds are alike for whatever the connection's unread bytes begin with, before a step of it
abbrev pub AgreeOnCall : ℕ → World → World → ConnectionEvent → Type 0
AgreeOnCall c w v calls.Step = (k : Connection) → connection c w ≡ Some k → (next : Next) → IsNext k.unread next → AgreeOn w v next
AgreeOnCall c w v call = ⊤

abbrev pub AgreeAt : ℕ → World → World → Event → Type 0
AgreeAt c w v (events.On id call) = AgreeOnCall c w v call
AgreeAt c w v event = ⊤

-- the same events on the connection in the same order, what made it among them, in worlds that are alike before each step
abbrev pub Matched : ℕ → List Happened → List Happened → Type 0
Matched c [] [] = ⊤
Matched c (h ∷ hs) [] = ⊥
Matched c [] (g ∷ gs) = ⊥
Matched c (h ∷ hs) (g ∷ gs) = (h.event ≡ g.event) × AgreeAt c h.world g.world h.event × Matched c hs gs

-- memory sufficed for the events on a connection; what was refused elsewhere changed nothing
abbrev pub HasMemory : ℕ → List Happened → Type 0
HasMemory c run = All (λ h. ¬ (IsOutOfMemory h.outcome)) (events_on c run)

-- Run noninterference: two runs from worlds in which a connection is alike, in which memory sufficed for its events, and which agree on
-- these and on what its readers may see, send equal bytes on it.
abbrev pub RunsAlike : Type 0
RunsAlike =
    (render : Renders) (c : ℕ) (w v w' v' : World) (run other : List Happened)
    → connection c w ≡ connection c v
    → Runs render w run w' → Runs render v other v'
    → HasMemory c run → HasMemory c other
    → Matched c (events_on c run) (events_on c other) → sent_on c run ≡ sent_on c other
