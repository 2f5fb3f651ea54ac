-- The connections have given numbers, whatever a call does to them.
use Rattle.std.proofs.Common.{◌≡◌, ℕ, ◌+◌, ◌≤◌, List, Bool, true, false, cond, refl, sym, ◌∙◌, subst, arith}
use Rattle.std.specs.Prelude.{Option, Some, None, Result, Ok, Err}
use Rattle.std.specs.FinMap as map
use Rattle.std.specs.Ordering.{nat_cmp, eq_by_cmp}
use Rattle.std.proofs.lemmas.Bool.Decides.{nat_tests}
use Rattle.std.proofs.lemmas.Cmp.{nat_cmp_total}
use Rattle.doc_page_parts.specs.Refusals.{Gives}
use Rattle.doc_hub.specs.Connections.{Connections, HaveGivenNumbers, pushed, pushed_at, pushed_onto, with_pushed, finished}
use Rattle.doc_hub.specs.declared.connection.Connection.{Connection}
use Rattle.doc_hub_events.specs.declared.refusal.PushError.{PushError}
use Rattle.doc_hub_events.specs.declared.refusal.PushError.TheVariants.{Memory}
use Rattle.doc_hub.proofs.ConnectionSteps.{some_none}

pub none_have : HaveGivenNumbers 0 map.empty
none_have id c is = absurd (some_none c (sym is ∙ map.get-empty nat_cmp id))

-- a connection under a given number
changed : (n : ℕ) (cs : Connections) (id : ℕ) (k : Connection) → HaveGivenNumbers n cs → (1 ≤ id) × (id ≤ n)
    → HaveGivenNumbers n (map.insert cs id k)
changed n cs id k have fits q c is = by_number (eq_by_cmp nat_cmp q id) refl (sym (map.get-insert nat_cmp_total cs id k q) ∙ is)
  where
    by_number : (b : Bool) → eq_by_cmp nat_cmp q id ≡ b → cond b (Some k) (map.get cs q) ≡ Some c → (1 ≤ q) × (q ≤ n)
    by_number true tied found =
        let same : q ≡ id = grind (arith, nat_tests) in
        subst (λ m. (1 ≤ m) × (m ≤ n)) (sym same) fits
    by_number false apart found = have q c found

-- one number more is given
pub one_more : (n : ℕ) (cs new : Connections) (k : Connection) → HaveGivenNumbers n cs → new ≡ map.insert cs (n + 1) k
    → HaveGivenNumbers (n + 1) new
one_more n cs new k have is =
    subst (HaveGivenNumbers (n + 1)) (sym is)
    (changed (n + 1) cs (n + 1) k (λ q c found. let fits = have q c found in (fits.0, omega arith)) (omega arith, omega arith))

with_pushed_have : (n : ℕ) (cs : Connections) (id : ℕ) (k : Connection) (r : Result (Unit {0}) PushError) → HaveGivenNumbers n cs
    → (1 ≤ id) × (id ≤ n) → HaveGivenNumbers n (with_pushed cs id k r).0
with_pushed_have n cs id k (Ok x) have fits = changed n cs id k have fits
with_pushed_have n cs id k (Err e) have fits = have

pushed_at_have : (n : ℕ) (cs : Connections) (id : ℕ) (bytes : List ℕ) (k : Option Connection) → HaveGivenNumbers n cs → map.get cs id ≡ k
    → HaveGivenNumbers n (pushed_at cs id bytes k).0
pushed_at_have n cs id bytes None have is = have
pushed_at_have n cs id bytes (Some c) have is = with_pushed_have n cs id (pushed_onto c bytes).0 (pushed_onto c bytes).1 have (have id c is)

-- bytes for one connection
pub pushed_have : (n : ℕ) (cs new : Connections) (id : ℕ) (bytes : List ℕ) (r : Result (Unit {0}) PushError) → HaveGivenNumbers n cs
    → Gives Memory (pushed cs id bytes) cs new r → HaveGivenNumbers n new
pushed_have n cs new id bytes (Ok x) have gives =
    subst (λ (p : Connections × Result (Unit {0}) PushError). HaveGivenNumbers n p.0) gives
    (pushed_at_have n cs id bytes (map.get cs id) have refl)
pushed_have n cs new id bytes (Err e) have gives = subst (HaveGivenNumbers n) (sym gives.1) have

-- an answer on one connection
pub finished_have : (n : ℕ) (cs new : Connections) (id used : ℕ) (last : Bool) (c : Connection) → HaveGivenNumbers n cs
    → Some c ≡ map.get cs id
    → ((d : Connection) → map.get cs id ≡ Some d → new ≡ map.insert cs id (finished d used last)) → HaveGivenNumbers n new
finished_have n cs new id used last c have found sets =
    subst (HaveGivenNumbers n) (sym (sets c (sym found))) (changed n cs id (finished c used last) have (have id c (sym found)))

dropped : {X : Type 0} (b : Bool) (k : Option X) (c : X) → cond b None k ≡ Some c → k ≡ Some c
dropped true k c is = absurd (some_none c (sym is))
dropped false k c is = is

-- a connection fewer
pub removed_have : (n : ℕ) (cs new : Connections) (id : ℕ) → HaveGivenNumbers n cs → new ≡ map.remove cs id → HaveGivenNumbers n new
removed_have n cs new id have is =
    subst (HaveGivenNumbers n) (sym is)
    (λ q c found. have q c (dropped (eq_by_cmp nat_cmp q id) (map.get cs q) c (sym (map.get-remove nat_cmp_total cs id q) ∙ found)))

pub same_have : (n : ℕ) (cs new : Connections) → new ≡ cs → HaveGivenNumbers n cs → HaveGivenNumbers n new
same_have n cs new same have = subst (HaveGivenNumbers n) (sym same) have
