-- What was handed over on each connection, beside what is sent there; and what came, beside what is pushed.
use Rattle.std.specs.Prelude.{◌≡◌, ◌++◌, ◌⊎◌, ⊤, ℕ, List, [], Bool, true, false, Option, Some, None, IfSome, Contains}
use Rattle.std.specs.FinMap as map
use Rattle.std.specs.Ordering.{nat_cmp}
use Rattle.std.specs.Io.KnownBytes.{append_known}
use Rattle.doc_server_turns.specs.Times.{Times, new_times}

-- What contracts see of a client: the bytes of replies that aren't handed over yet; whether its connection is still its own; whether it rests
-- until the network tells of it; whether it starves, so that it waits for the next sweep; whether it is over, so that it is let
-- go; whether it reads next: nothing is pending, and what was read holds no further request; whether it owes a reply that isn't handed
-- over in full; whether it lingers: behind its last reply its peer was told of the end; whether memory was lacking for its last step; and
-- for how long it may still stay.
pub record Peer : Type 0 where
  pub pending : List ℕ
  pub is_open : Bool
  pub rests : Bool
  pub starves : Bool
  pub is_over : Bool
  pub reads : Bool
  pub owes : Bool
  pub lingers : Bool
  pub lacks : Bool
  pub times : Times

-- the clients by the numbers of their connections
abbrev pub Table : Type 0
Table = map.FinMap nat_cmp Peer

-- a client whose connection was just made
abbrev pub new_peer : Peer
new_peer = record {
  pending = [];
  is_open = true;
  rests = true;
  starves = false;
  is_over = false;
  reads = true;
  owes = false;
  lingers = false;
  lacks = false;
  times = new_times;
}

-- ---- one connection

-- known bytes are a front of others
abbrev pub IsFront : Option (List ℕ) → List ℕ → Type 0
IsFront known bytes = IfSome known (λ b. (rest : List ℕ) × (bytes ≡ b ++ rest))

-- they are a front, and this is the rest
abbrev pub IsFrontOf : Option (List ℕ) → List ℕ → List ℕ → Type 0
IsFrontOf known bytes rest = IfSome known (λ b. bytes ≡ b ++ rest)

-- what was pushed is a front of what came
abbrev pub HearsFront : Option (List ℕ) → List ℕ → Type 0
HearsFront came pushed = IfSome came (λ c. (lost : List ℕ) × (c ≡ pushed ++ lost))

-- What was handed over is a front of what was sent, and where a client stands, what is pending is the rest. What was pushed is a front of
-- what came, and where the client is open it is all.
abbrev pub Wired : Option (List ℕ) → Option (List ℕ) → List ℕ → List ℕ → Option Peer → Type 0
Wired came gone pushed sent None = IsFront gone sent × HearsFront came pushed
Wired came gone pushed sent (Some p) =
    IsFrontOf gone sent p.pending × HearsFront came pushed × (p.is_open ≡ true → IfSome came (λ c. c ≡ pushed))

-- nothing has ever passed there, and nobody stands there
pub record IsNew (c g : Option (List ℕ)) (pushes sends : List ℕ) (p : Option Peer) : Type 0 where
  pub came : IfSome c (λ l. l ≡ [])
  pub gone : IfSome g (λ l. l ≡ [])
  pub pushed : pushes ≡ []
  pub sent : sends ≡ []
  pub none : p ≡ None

-- ---- taking in

-- What came was pushed, but for what a closed client has lost, and what was sent is pending behind what was. Whoever is open was open, and
-- nothing is pushed for a client that was closed.
pub record TakesIn (c d : Option (List ℕ)) (pushes sends : List ℕ) (p q : Peer) : Type 0 where
  pub pending : q.pending ≡ p.pending ++ sends
  pub input : (lost : List ℕ) × (d ≡ append_known c (pushes ++ lost)) × (lost ≡ [] ⊎ q.is_open ≡ false)
  pub opens : q.is_open ≡ true → p.is_open ≡ true
  pub closed : p.is_open ≡ false → pushes ≡ []

-- where no client stands, nothing happens
abbrev pub TakesInAt : Option (List ℕ) → Option (List ℕ) → List ℕ → List ℕ → Option Peer → Option Peer → Type 0
TakesInAt c d pushes sends None None = (d ≡ c) × (pushes ≡ []) × (sends ≡ [])
TakesInAt c d pushes sends (Some p) (Some q) = TakesIn c d pushes sends p q
TakesInAt c d pushes sends p q = ⊥

-- ---- handing over

-- Some bytes were handed over, in order: these were pending before, and those are left.
abbrev pub HandsOver : Option (List ℕ) → Option (List ℕ) → List ℕ → List ℕ → Type 0
HandsOver old new before left = (given : List ℕ) × (new ≡ append_known old given) × (before ≡ given ++ left)

-- Who is open was open. Who was, and isn't any more, is closed because the connection has ended, and so it is with
-- who is let go from here on.
pub record ClosesBy (ended : Type 0) (p q : Peer) : Type 0 where
  pub opens : q.is_open ≡ true → p.is_open ≡ true
  pub closes : p.is_open ≡ true → q.is_open ≡ false → ended
  pub lets_go : p.is_over ≡ false → q.is_over ≡ true → ended

-- Meanwhile some of what was pending for a client was handed over, and nothing where none stands.
abbrev pub GivesOne : Option (List ℕ) → Option (List ℕ) → Type 0 → Option Peer → Option Peer → Type 0
GivesOne old new ended None None = new ≡ old
GivesOne old new ended (Some p) (Some q) = HandsOver old new p.pending q.pending × ClosesBy ended p q
GivesOne old new ended p q = ⊥

abbrev pub Gives : (ℕ → Option (List ℕ)) → (ℕ → Option (List ℕ)) → (ℕ → Type 0) → Table → Table → Type 0
Gives old new ended before after = (k : ℕ) → GivesOne (old k) (new k) (ended k) (map.get before k) (map.get after k)

-- nothing is pending for it any more, or it rests, or it is over
abbrev pub HasSent : Peer → Type 0
HasSent p = (p.pending ≡ []) ⊎ (p.rests ≡ true) ⊎ (p.is_over ≡ true)

abbrev pub HasSentAt : Option Peer → Type 0
HasSentAt None = ⊤
HasSentAt (Some p) = HasSent p

-- the same of each client of these numbers
abbrev pub HaveSent : List ℕ → Table → Type 0
HaveSent numbers table = (k : ℕ) → Contains numbers k → HasSentAt (map.get table k)

-- what was handed over meanwhile on each connection is a front of what was pending for its client before
abbrev pub GivesFront : Option (List ℕ) → Option (List ℕ) → Option Peer → Type 0
GivesFront old new None = new ≡ old
GivesFront old new (Some p) = (left : List ℕ) × HandsOver old new p.pending left

abbrev pub GivesFronts : (ℕ → Option (List ℕ)) → (ℕ → Option (List ℕ)) → Table → Type 0
GivesFronts old new table = (k : ℕ) → GivesFront (old k) (new k) (map.get table k)

-- ---- lingering

-- What still comes behind the last reply of a client is dropped. An open client is left as it was. Who rests from here on lingers, and who is
-- let go from here on has nothing pending.
pub record Lingers (c d : Option (List ℕ)) (p q : Peer) : Type 0 where
  pub pending : q.pending ≡ p.pending
  pub opened : q.is_open ≡ p.is_open
  pub owes : q.owes ≡ p.owes
  pub input : (lost : List ℕ) × (d ≡ append_known c lost) × (p.is_open ≡ true → lost ≡ [])
  pub stays : p.lingers ≡ true → q.lingers ≡ true
  pub tires : p.rests ≡ false → q.rests ≡ true → q.lingers ≡ true
  pub lets_go : p.is_over ≡ false → q.is_over ≡ true → p.pending ≡ []

abbrev pub LingersAt : Option (List ℕ) → Option (List ℕ) → Option Peer → Option Peer → Type 0
LingersAt c d None None = d ≡ c
LingersAt c d (Some p) (Some q) = Lingers c d p q
LingersAt c d p q = ⊥

abbrev pub LingerAll : (ℕ → Option (List ℕ)) → (ℕ → Option (List ℕ)) → Table → Table → Type 0
LingerAll c d before after = (k : ℕ) → LingersAt (c k) (d k) (map.get before k) (map.get after k)

-- Whoever is closed and awake, and owes no reply, lingers from here on, or is over.
abbrev pub Ends : Peer → Peer → Type 0
Ends p q = p.is_open ≡ false → p.rests ≡ false → p.owes ≡ false → (q.lingers ≡ true) ⊎ (q.is_over ≡ true)

abbrev pub EndsAt : Option Peer → Option Peer → Type 0
EndsAt (Some p) (Some q) = Ends p q
EndsAt p q = ⊤

-- the same of each client of these numbers
abbrev pub EndAll : List ℕ → Table → Table → Type 0
EndAll numbers before after = (k : ℕ) → Contains numbers k → EndsAt (map.get before k) (map.get after k)

-- ---- sweeps

-- A sweep closes clients, and has nobody starve.
pub record Swept (p q : Peer) : Type 0 where
  pub pending : q.pending ≡ p.pending
  pub rests : q.rests ≡ p.rests
  pub opens : q.is_open ≡ true → p.is_open ≡ true
  pub feeds : p.starves ≡ false → q.starves ≡ false
  pub lingers : q.lingers ≡ p.lingers
  pub over : p.is_over ≡ true → q.is_over ≡ true

abbrev pub SweptAt : Option Peer → Option Peer → Type 0
SweptAt None None = ⊤
SweptAt (Some p) (Some q) = Swept p q
SweptAt p q = ⊥

abbrev pub SweptAll : Table → Table → Type 0
SweptAll before after = (k : ℕ) → SweptAt (map.get before k) (map.get after k)

-- no client of that number starves
abbrev pub IsFedAt : Option Peer → Type 0
IsFedAt None = ⊤
IsFedAt (Some p) = p.starves ≡ false

-- ---- who rests is woken

abbrev pub WokenAt : Type 0 → Option Peer → Type 0
WokenAt wakes None = ⊤
WokenAt wakes (Some p) = p.rests ≡ true → wakes

-- the network will tell of each client that rests
abbrev pub AreWoken : (ℕ → Type 0) → Table → Type 0
AreWoken wakes table = (k : ℕ) → WokenAt (wakes k) (map.get table k)

-- A client that was told of rests no more, and where its peer is gone it is closed and over.
abbrev pub woken : Peer → Bool → Peer
woken p true = record p { is_open = false; rests = false; is_over = true; reads = false }
woken p false = record p { rests = false }

-- the table in which the client of that number, if there is one, was told of
abbrev pub WokeAt : ℕ → Bool → Table → Table → Option Peer → Type 0
WokeAt id is_gone t u None = u ≡ t
WokeAt id is_gone t u (Some p) = u ≡ map.insert t id (woken p is_gone)
