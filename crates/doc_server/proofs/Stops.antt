-- What stops the calls of the demonstration.
use Rattle.std.proofs.Common.{◌≡◌, inl, ℕ, ◌+◌, List, Bool, true, false, cond, T, length, refl, sym, ap, ◌∙◌, subst, ◌==◌, arith}
use Rattle.std.specs.Prelude.{Option, Some, None, Result, Ok, Err, is_ok, nat_lt, if◌then◌else◌}
use Rattle.std.specs.FinMap as map
use Rattle.std.specs.Cmp.{unsigned_tied}
use Rattle.std.proofs.KnownBytes.{Keeps-refl}
use Rattle.std.proofs.lemmas.Cmp.{nat_cmp_total}
use Rattle.doc_hub.specs.Replies.{Renders}
use Rattle.doc_hub.specs.Connections.{Connections, new_connection, backlog_limit, pushed_onto, with_pushed, pushed_at}
use Rattle.doc_hub.specs.Worlds.{World, connected, world_pushed, last_id}
use Rattle.doc_hub.specs.declared.connection.Connection.{Connection}
use Rattle.doc_hub_events.specs.declared.event.ConnId.{ConnId}
use Rattle.doc_hub_events.specs.declared.refusal.ConnectError.{ConnectError}
use Rattle.doc_hub_events.specs.declared.refusal.PushError.{PushError}
use Rattle.doc_hub_events.specs.declared.refusal.PushError.TheVariants as push_errors
use Rattle.doc_server_streams.specs.declared.fault.Fault.{Fault}
use Rattle.doc_server_streams.specs.declared.fault.Fault.TheVariants as faults
use Rattle.doc_server.specs.DemoSite.{demo_world}
use Rattle.doc_server.specs.Demo.{StopsDemo}
use Rattle.doc_server.specs.DemoSteps.{IsMade, StopsCall}

no_error : {X E : Type 0} (x : X) (e : E) → Ok x ≡ Err e → ⊥
no_error x e is = subst T (ap is_ok is) tt

-- ---- connect

-- a call that is not refused stops the program for memory
stop_unrefused : {X E : Type 0} (r : Result X E) (x : X) (render : Renders) (input old : Option (List ℕ)) (fault : Fault) → r ≡ Ok x
    → StopsCall r fault → StopsDemo render input old old fault
stop_unrefused r x render input old faults.Usage is stops = stops
stop_unrefused r x render input old faults.Config is stops = stops
stop_unrefused r x render input old faults.BadTable is stops = stops
stop_unrefused r x render input old faults.UnknownToken is stops = stops
stop_unrefused r x render input old faults.Socket is stops = stops
stop_unrefused r x render input old (faults.BadScriptLine line) is stops = stops
stop_unrefused r x render input old (faults.CannotRead name) is stops = absurd stops
stop_unrefused r x render input old faults.CannotWrite is stops = absurd stops
stop_unrefused r x render input old faults.Refused is stops = absurd (subst (λ (s : Result _ _). StopsCall s faults.Refused) is stops)
stop_unrefused r x render input old faults.Memory is stops = inl (Keeps-refl old)

abbrev one : ConnId
one = record { 0 = 1 }

demo_connects : (connected demo_world).1 ≡ Ok one
unfolding demo_world last_id
demo_connects = refl

pub stop_connect : (render : Renders) (w : World) (input old : Option (List ℕ)) (fault : Fault) → w ≡ demo_world
    → StopsCall (connected w).1 fault → StopsDemo render input old old fault
stop_connect render w input old fault is stops = stop_unrefused (connected w).1 one render input old fault (ap (λ v. (connected v).1) is
    ∙ demo_connects) stops

-- ---- push

itself : (id : ℕ) → (id == id) ≡ true
itself id = grind (arith)

stands_at : (cs : Connections) (id : ℕ) (k : Connection) → map.get (map.insert cs id k) id ≡ Some k
stands_at cs id k = map.get-insert nat_cmp_total cs id k id ∙ ap (λ t. cond t (Some k) (map.get cs id)) (unsigned_tied id id ∙ itself id)

abbrev pushed_if : Connection → Bool → Connection × Result (Unit {0}) PushError
pushed_if new full = if full then (new_connection, Err push_errors.Backlog) else (new, Ok tt)

stop_push_by : (render : Renders) (bytes : List ℕ) (old : Option (List ℕ)) (full : Bool) (new : Connection) (fault : Fault)
    → nat_lt backlog_limit (0 + length bytes) ≡ full
    → (cs : Connections) (id : ℕ) → StopsCall (with_pushed cs id (pushed_if new full).0 (pushed_if new full).1).1 fault
    → StopsDemo render (Some bytes) old old fault
stop_push_by render bytes old full new faults.Usage is cs id stops = absurd stops
stop_push_by render bytes old full new faults.Config is cs id stops = absurd stops
stop_push_by render bytes old full new faults.BadTable is cs id stops = absurd stops
stop_push_by render bytes old full new faults.UnknownToken is cs id stops = absurd stops
stop_push_by render bytes old full new faults.Socket is cs id stops = absurd stops
stop_push_by render bytes old full new (faults.BadScriptLine line) is cs id stops = absurd stops
stop_push_by render bytes old full new (faults.CannotRead name) is cs id stops = absurd stops
stop_push_by render bytes old full new faults.CannotWrite is cs id stops = absurd stops
stop_push_by render bytes old full new faults.Memory is cs id stops = inl (Keeps-refl old)
stop_push_by render bytes old true new faults.Refused is cs id stops = (grind (arith), Keeps-refl old)
stop_push_by render bytes old false new faults.Refused is cs id stops = absurd stops

stop_push_new : (render : Renders) (cs : Connections) (id : ℕ) (bytes : List ℕ) (old : Option (List ℕ)) (fault : Fault)
    → StopsCall (pushed_at cs id bytes (Some new_connection)).1 fault → StopsDemo render (Some bytes) old old fault
stop_push_new render cs id bytes old fault stops = stop_push_by render bytes old (nat_lt backlog_limit (0 + length bytes))
    (record { unread = bytes; closed = false }) fault refl cs id stops

first_stands : (w : World) (id : ConnId) → connected demo_world ≡ (w, Ok id) → map.get w.connections id.0 ≡ Some new_connection
unfolding demo_world last_id
first_stands w id is =
    subst (λ (p : World × ConnId). map.get p.0.connections p.1.0 ≡ Some new_connection) (pair is)
    (stands_at demo_world.connections 1 new_connection)
  where
    number_of : ConnId → Result ConnId ConnectError → ConnId
    number_of d (Ok x) = x
    number_of d (Err e) = d

    pair : connected demo_world ≡ (w, Ok id) → ◌≡◌ {A = World × ConnId} ((connected demo_world).0, one) (w, id)
    pair is = ap (λ (p : World × Result ConnId ConnectError). (p.0, number_of id p.1)) is

pub stop_push : (render : Renders) (w v : World) (id : ConnId) (bytes : List ℕ) (old : Option (List ℕ)) (fault : Fault) → w ≡ demo_world
    → connected w ≡ (v, Ok id)
    → StopsCall (world_pushed v id.0 bytes).1 fault → StopsDemo render (Some bytes) old old fault
stop_push render w v id bytes old fault is made stops =
    stop_push_new render v.connections id.0 bytes old fault
    (subst (λ k. StopsCall (pushed_at v.connections id.0 bytes k).1 fault) (first_stands v id (sym (ap connected is) ∙ made)) stops)

with_stands : (cs : Connections) (id : ℕ) (k : Connection) (r : Result (Unit {0}) PushError) → (with_pushed cs id k r).1 ≡ Ok tt
    → (d : Connection) × (map.get (with_pushed cs id k r).0 id ≡ Some d)
with_stands cs id k (Ok done) is = (k, stands_at cs id k)
with_stands cs id k (Err e) is = absurd (no_error tt e (sym is))

pushed_stands : (cs : Connections) (id : ℕ) (bytes : List ℕ) (k : Option Connection) → (pushed_at cs id bytes k).1 ≡ Ok tt
    → (d : Connection) × (map.get (pushed_at cs id bytes k).0 id ≡ Some d)
pushed_stands cs id bytes None is = absurd (no_error tt push_errors.NoConnection (sym is))
pushed_stands cs id bytes (Some k) is = with_stands cs id (pushed_onto k bytes).0 (pushed_onto k bytes).1 is

-- a connection that took bytes was made
pub made_after_push : (w v : World) (id : ℕ) (bytes : List ℕ) → world_pushed w id bytes ≡ (v, Ok tt) → IsMade v id
made_after_push w v id bytes is =
    subst (λ (p : World × Result (Unit {0}) PushError). IsMade p.0 id) is
    (pushed_stands w.connections id bytes (map.get w.connections id) (ap (λ (p : World × Result (Unit {0}) PushError). p.1) is))

-- ---- an input of which the bytes are all
