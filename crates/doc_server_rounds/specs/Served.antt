-- What serving a link does, to the hub and to its stream.
use Rattle.std.specs.Prelude.{◌≡◌, ◌⊎◌, ⊤, ℕ, List, ◌++◌, length, true, false, All, Option, Some, None, Ok}
use Rattle.std.specs.Io.KnownBytes.{Appends, Consumes, IsAtEnd}
use Rattle.doc_hub.specs.Replies.{Renders}
use Rattle.doc_hub.specs.RunParts.{AreOf, Gave, pushed_on}
use Rattle.doc_hub.specs.Runs.{Happened, Happens, Runs, sent_on}
use Rattle.doc_hub.specs.StepLaws.{connection}
use Rattle.doc_hub.specs.Worlds.{World}
use Rattle.doc_hub.specs.declared.connection.Connection.{Connection}
use Rattle.doc_hub_events.specs.declared.event.ConnId.{ConnId}
use Rattle.doc_hub_events.specs.Events.{step_on}
use Rattle.doc_hub_events.specs.declared.event.Step.TheVariants as steps
use Rattle.doc_hub_events.specs.declared.outcome.Outcome.{Outcome}
use Rattle.doc_hub_events.specs.declared.outcome.Outcome.TheVariants as outcomes
use Rattle.doc_server_streams.specs.Streams.{AppendsPrefix}
use Rattle.doc_server_rounds.specs.Peers.{Peer}
use Rattle.doc_server_rounds.specs.Sending.{HasFault}

-- ---- what a step says of its connection

-- a step that closed its connection
abbrev pub IsLast : Outcome → Type 0
IsLast (outcomes.Stepped (steps.Last bytes)) = ⊤
IsLast outcome = ⊥

-- a step that found no whole request
abbrev pub IsMore : Outcome → Type 0
IsMore (outcomes.Stepped steps.More) = ⊤
IsMore outcome = ⊥

-- there is no open connection
abbrev pub IsShutAs : Option Connection → Type 0
IsShutAs None = ⊤
IsShutAs (Some k) = k.closed ≡ true

abbrev pub IsShut : World → ℕ → Type 0
IsShut w c = IsShutAs (connection c w)

-- how many bytes a connection has unread
abbrev pub unread_of : Option Connection → ℕ
unread_of None = 0
unread_of (Some k) = length k.unread

abbrev pub unread_len : World → ℕ → ℕ
unread_len w c = unread_of (connection c w)

-- ---- one link

-- What was pending, and then what was read, is what was pushed, and then what is pending.
abbrev pub TakesIn : Peer → Peer → List ℕ → Type 0
TakesIn p q pushed = (given : List ℕ) × Consumes p.unread q.unread given × (p.pending ++ given ≡ pushed ++ q.pending)

-- All that was sent is written; or the link is closed, and a prefix of it is, where a call of the stream failed or a write took nothing.
abbrev pub GivesOut : Peer → Peer → List ℕ → Type 0
GivesOut p q sent =
    Appends p.written q.written sent
    ⊎ ((q.is_open ≡ false) × HasFault q.failed q.stalls × AppendsPrefix p.written q.written sent)

-- its input is used up, and a step found no request in what it gave
abbrev pub HasEnded : ℕ → List Happened → Peer → Type 0
HasEnded c run q = IsAtEnd q.unread × Gave IsMore c run

-- Why a link is closed: a step of its connection was the last, a call of its stream failed or the stream moves no byte, it has ended, or
-- its connection wasn't open before.
abbrev pub Closes : ℕ → World → List Happened → Peer → Type 0
Closes c w run q = Gave IsLast c run ⊎ (HasFault q.failed q.stalls ⊎ (HasEnded c run q ⊎ IsShut w c))

-- A run serves a link whose connection this is, whatever else it does: a closed link isn't touched; what an open one has pending and reads
-- is pushed, and what the connection sends is written; it is closed for a reason, and its connection is dropped then.
pub record Served (c : ℕ) (w : World) (p : Peer) (run : List Happened) (v : World) (q : Peer) : Type 0 where
  pub id : q.id ≡ p.id
  pub stalls : q.stalls ≡ p.stalls
  pub closed : p.is_open ≡ false → (q ≡ p) × (connection c v ≡ connection c w)
  pub input : TakesIn p q (pushed_on c run)
  pub output : GivesOut p q (sent_on c run)
  pub stays : q.is_open ≡ true → IsShut v c → IsShut w c
  pub ends : p.is_open ≡ true → q.is_open ≡ false → Closes c w run q × (connection c v ≡ None)

-- what serving one link alone does
pub record Serves (render : Renders) (w : World) (p : Peer) (v : World) (q : Peer) : Type 0 where
  pub run : List Happened
  pub runs : Runs render w run v
  pub own : AreOf p.id run
  pub served : Served p.id w p run v q

-- what serving a link does behind a step that found no whole request
abbrev pub ServesOn : Renders → World → Peer → World → Peer → Type 0
ServesOn render v p u q =
    (w : World) (id : ConnId) → id.0 ≡ p.id → Happens render w (step_on id) v (Ok steps.More) → Serves render w p u q
