-- Two accepted pushes are the push of the joined bytes.
use Rattle.std.proofs.Common.{◌≡◌, ◌+◌, ℕ, List, ◌++◌, length, Bool, true, false, cond, refl, ap, sym, ◌∙◌, subst, arith}
use Rattle.std.specs.Prelude.{nat_lt, Option, Some, None, Result, Ok, Err, if◌then◌else◌}
use Rattle.std.specs.FinMap as map
use Rattle.std.specs.Cmp.{eq_by_cmp_equiv}
use Rattle.std.specs.Ordering.{nat_cmp, eq_by_cmp}
use Rattle.std.proofs.lemmas.Cmp.{nat_cmp_total}
use Rattle.std.proofs.lemmas.List.{append_assoc, length-append}
use Rattle.std.proofs.lemmas.Map.Lookups.{exact_unsigned}
use Rattle.doc_hub.specs.ConnectionLaws.{PushesJoin}
use Rattle.doc_hub.specs.Connections.{Connections, backlog_limit, pushed, pushed_at, with_pushed}
use Rattle.doc_hub.specs.Worlds.{World, world_pushed}
use Rattle.doc_hub.specs.declared.connection.Connection.{Connection}
use Rattle.doc_hub_events.specs.declared.refusal.PushError.{PushError}
use Rattle.doc_hub_events.specs.declared.refusal.PushError.TheVariants as push_errors

err_ok : (e : PushError) → ◌≡◌ {A = Result (Unit {0}) PushError} (Err e) (Ok tt) → ⊥
err_ok e is = cc

-- ---- one push

-- the connection with more unread bytes
abbrev grown : Connection → List ℕ → Connection
grown c bytes = record { unread = c.unread ++ bytes; closed = false }

-- by the two tests of a push
abbrev onto_by : Connection → List ℕ → Bool → Bool → Connection × Result (Unit {0}) PushError
onto_by c bytes closed full =
    if closed then (c, Err push_errors.Closed) else (if full then (c, Err push_errors.Backlog) else (grown c bytes, Ok tt))

abbrev is_full : Connection → List ℕ → Bool
is_full c bytes = nat_lt backlog_limit (length c.unread + length bytes)

passes : (cs : Connections) (id : ℕ) (c : Connection) (bytes : List ℕ) (closed full : Bool)
    → (with_pushed cs id (onto_by c bytes closed full).0 (onto_by c bytes closed full).1).1 ≡ Ok tt → (closed ≡ false) × (full ≡ false)
passes cs id c bytes true full is = absurd (err_ok push_errors.Closed is)
passes cs id c bytes false true is = absurd (err_ok push_errors.Backlog is)
passes cs id c bytes false false is = (refl, refl)

-- what an accepted push needs
needs : (cs : Connections) (id : ℕ) (bytes : List ℕ) (k : Option Connection) → (pushed_at cs id bytes k).1 ≡ Ok tt
    → (c : Connection) × (k ≡ Some c) × (c.closed ≡ false) × (is_full c bytes ≡ false)
needs cs id bytes None is = absurd (err_ok push_errors.NoConnection is)
needs cs id bytes (Some c) is = let tests = passes cs id c bytes c.closed (is_full c bytes) is in (c, refl, tests.0, tests.1)

-- and what it gives then
pub gives : (cs : Connections) (id : ℕ) (bytes : List ℕ) (c : Connection) → c.closed ≡ false → is_full c bytes ≡ false
    → ◌≡◌ {A = Connections × Result (Unit {0}) PushError} (pushed_at cs id bytes (Some c)) (map.insert cs id (grown c bytes), Ok tt)
gives cs id bytes c is_open room =
    (λ i. with_pushed cs id (onto_by c bytes (is_open i) (room i)).0 (onto_by c bytes (is_open i) (room i)).1)

-- ---- two of them

pub set_twice : (cs : Connections) (id : ℕ) (k new : Connection) → map.insert (map.insert cs id k) id new ≡ map.insert cs id new
set_twice cs id k new = map.same_map nat_cmp_total exact_unsigned _ _ (λ q.
    map.get-insert nat_cmp_total (map.insert cs id k) id new q
    ∙ ap (cond (eq_by_cmp nat_cmp q id) (Some new)) (map.get-insert nat_cmp_total cs id k q)
    ∙ by (eq_by_cmp nat_cmp q id) (map.get cs q)
    ∙ sym (map.get-insert nat_cmp_total cs id new q))
  where
    by : (b : Bool) (o : Option Connection) → cond b (Some new) (cond b (Some k) o) ≡ cond b (Some new) o
    by true o = refl
    by false o = refl

pub is_set : (cs : Connections) (id : ℕ) (k : Connection) → map.get (map.insert cs id k) id ≡ Some k
is_set cs id k = map.get-insert nat_cmp_total cs id k id
    ∙ ap (λ b. cond b (Some k) (map.get cs id)) ((eq_by_cmp_equiv nat_cmp_total).refl id)

-- of connections
joined : (cs : Connections) (id : ℕ) (bytes more : List ℕ) (c : Connection) → map.get cs id ≡ Some c → c.closed ≡ false
    → is_full (grown c bytes) more ≡ false
    → ◌≡◌ {A = Connections × Result (Unit {0}) PushError} (pushed cs id (bytes ++ more))
    (map.insert (map.insert cs id (grown c bytes)) id (grown (grown c bytes) more), Ok tt)
joined cs id bytes more c found is_open room =
    let lengths : length c.unread + length (bytes ++ more) ≡ length (c.unread ++ bytes) + length more =
    ap (λ n. length c.unread + n) (length-append bytes more) ∙ sums (length c.unread) (length bytes) (length more)
    ∙ ap (λ n. n + length more) (sym (length-append c.unread bytes)) in
    ap (pushed_at cs id (bytes ++ more)) found
    ∙ gives cs id (bytes ++ more) c is_open (ap (nat_lt backlog_limit) lengths ∙ room)
    ∙ (λ i. (map.insert cs id (record { unread = sym (append_assoc c.unread bytes more) i; closed = false }), Ok tt))
    ∙ (λ i. (sym (set_twice cs id (grown c bytes) (grown (grown c bytes) more)) i, Ok tt))
  where
    sums : (a b n : ℕ) → a + (b + n) ≡ (a + b) + n
    sums a b n = omega arith

-- the second push, on what the first one leaves
second : (w u : World) (id : ℕ) (bytes more : List ℕ) (c : Connection) → map.get w.connections id ≡ Some c → c.closed ≡ false
    → ◌≡◌ {A = World × Result (Unit {0}) PushError}
    (world_pushed (record w { connections = map.insert w.connections id (grown c bytes) }) id more) (u, Ok tt)
    → ◌≡◌ {A = World × Result (Unit {0}) PushError} (world_pushed w id (bytes ++ more)) (u, Ok tt)
second w u id bytes more c found is_open there =
    let cs = map.insert w.connections id (grown c bytes) in
    let stands = is_set w.connections id (grown c bytes) in
    let (d, is, opened, room) = needs cs id more (Some (grown c bytes))
    (ap (λ k. (pushed_at cs id more k).1) (sym stands) ∙ ap (λ (q : World × Result (Unit {0}) PushError). q.1) there) in
    let fits : is_full (grown c bytes) more ≡ false = ap (λ k. is_full k more) (same_some (grown c bytes) d is) ∙ room in
    ap (λ (r : Connections × Result (Unit {0}) PushError). (record w { connections = r.0 }, r.1)) (
    joined w.connections id bytes more c found is_open fits
    ∙ sym (ap (pushed_at cs id more) stands ∙ gives cs id more (grown c bytes) refl fits))
    ∙ there
  where
    same_some : (x y : Connection) → Some x ≡ Some y → x ≡ y
    same_some x y e = cc

pub pushes_join : PushesJoin
pushes_join render w v u c bytes more here there =
    let (k, found, is_open, room) = needs w.connections c.0 bytes (map.get w.connections c.0)
    (ap (λ (q : World × Result (Unit {0}) PushError). q.1) here) in
    let once = ap (pushed_at w.connections c.0 bytes) found ∙ gives w.connections c.0 bytes k is_open room in
    let left : v ≡ record w { connections = map.insert w.connections c.0 (grown k bytes) } =
    sym (ap (λ (q : World × Result (Unit {0}) PushError). q.0) here)
    ∙ ap (λ (r : Connections × Result (Unit {0}) PushError). record w { connections = r.0 }) once in
    second w u c.0 bytes more k found is_open
    (subst (λ x. ◌≡◌ {A = World × Result (Unit {0}) PushError} (world_pushed x c.0 more) (u, Ok tt)) left there)
