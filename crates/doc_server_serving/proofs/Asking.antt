-- Peers that were asked for.
use Rattle.std.proofs.Common.{◌≡◌, ◌≤◌, ◌<◌, ◌∙◌, ℕ, List, Bool, true, false, inl, inr, sym, arith}
use Rattle.std.specs.Prelude.{◌⊎◌, Option, Result, Ok, Err, IfErr, nat_lt, not, ◌&&◌}
use Rattle.doc_hub.specs.Worlds.{World}
use Rattle.doc_hub.specs.Replies.{Renders}
use Rattle.doc_server_network.specs.Networks.{Call, HasNobody, Recalls, WasAsked, WasWaitedFor}
use Rattle.doc_server_serving.specs.Doors.{is_open}
use Rattle.doc_server_serving.specs.Invariants.{GoesOn}
use Rattle.doc_server_turns.specs.Wirings.{Table}
use Rattle.doc_server_serving.specs.declared.door.Door.{Door}
use Rattle.doc_server_serving.proofs.GivenNumbers.{given_more}

-- no number is given back
pub none_less : {N R : Type 0} (page : R → Renders) (came gone : N → ℕ → Option (List ℕ)) (wakes is_free : N → ℕ → Type 0)
    (old new : R × World) (n m : N) (before after : Table) → GoesOn page came gone wakes is_free old new n m before after
    → old.1.given ≤ new.1.given
none_less page came gone wakes is_free old new n m before after goes =
    given_more (page old.0) old.1 new.1 goes.leads.run goes.leads.own goes.leads.runs

-- what was asked for under a number above the later one was so under one above the earlier
pub asked_above : (a b : ℕ) (rests : Bool) (made : Call → Type 0) → a ≤ b → (rests ≡ true) ⊎ WasAsked b made
    → (rests ≡ true) ⊎ WasAsked a made
asked_above a b rests made le (inl rest) = inl rest
asked_above a b rests made le (inr (id, said, above, was)) = inr (id, said, omega (arith, le, above), was)

-- a door stays as awaited as it was, or the network has answered that nobody waits
pub awaits_join : {x y z : Bool} (a b : ℕ) (mid new : Call → Type 0) → a ≤ b → Recalls mid new → (y ≡ x) ⊎ HasNobody a mid
    → (z ≡ y) ⊎ HasNobody b new → (z ≡ x) ⊎ HasNobody a new
awaits_join a b mid new le still (inl first) (inl then) = inl (then ∙ first)
awaits_join a b mid new le still (inr (id, above, said)) (inl then) = inr (id, above, still _ said)
awaits_join a b mid new le still before (inr (id, above, said)) = inr (id, omega (arith, le, above), said)

apart : true ≡ false → ⊥
apart e = cc

-- a door that rests isn't open
resting : (awaited rests room : Bool) → rests ≡ true → (awaited && not rests && room) ≡ true → ⊥
resting true true room is stands_open = apart (sym stands_open)
resting false true room is stands_open = apart (sym stands_open)
resting awaited false room is stands_open = apart (sym is)

pub shut : (door : Door) (standing : ℕ) (said : Bool) → said ≡ is_open door standing → said ≡ false → is_open door standing ≡ true → ⊥
shut door standing said is not_open stands_open = apart (sym (is ∙ stands_open) ∙ not_open)

-- who is open behind so many was asked for one
pub asked_open : (door : Door) (standing : ℕ) (Asked : Type 0) (count : ℕ) → 0 < count
    → (count ≡ 0) ⊎ ((door.rests ≡ true) ⊎ Asked) → is_open door standing ≡ true → Asked
asked_open door standing Asked count some (inl none) stands_open = absurd (omega (arith, some, none))
asked_open door standing Asked count some (inr (inl rests)) stands_open =
    absurd (resting door.is_awaited door.rests (nat_lt standing door.most) rests stands_open)
asked_open door standing Asked count some (inr (inr asked)) stands_open = asked

-- behind one turn or more the network was waited for
pub waited_once : (count : ℕ) (made : Call → Type 0) → 0 < count → (count ≡ 0) ⊎ WasWaitedFor made → WasWaitedFor made
waited_once count made some (inl none) = absurd (omega (arith, some, none))
waited_once count made some (inr waited) = waited

pub waited_still : (mid new : Call → Type 0) → Recalls mid new → WasWaitedFor mid → WasWaitedFor new
waited_still mid new still (r, made) = (r, still _ made)

pub asked_below : (a b : ℕ) (made : Call → Type 0) → a ≤ b → WasAsked b made → WasAsked a made
asked_below a b made le (id, said, above, was) = (id, said, omega (arith, le, above), was)

-- what holds whatever the fault is
pub any_fault : {X E : Type 0} (P : E → Type 0) (W : Type 0) (r : Result X E) → W → IfErr r (λ e. P e → W)
any_fault P W (Ok x) w = tt
any_fault P W (Err e) w = λ is. w
