-- What a change of one connection is among all.
use Rattle.std.proofs.Common.{◌≡◌, ℕ, List, Bool, true, false, cond, refl, ap, sym, ◌∙◌, arith, subst}
use Rattle.std.specs.Prelude.{Option, Some, None, Result, Ok, Err}
use Rattle.std.specs.Ordering.{nat_cmp, eq_by_cmp}
use Rattle.std.specs.FinMap as map
use Rattle.std.proofs.lemmas.Cmp.{nat_cmp_total}
use Rattle.std.proofs.lemmas.Bool.Decides.{nat_tests}
use Rattle.std.proofs.lemmas.Map.Lookups.{exact_unsigned}
use Rattle.doc_page_parts.specs.Refusals.{Gives, IsAnswer}
use Rattle.doc_hub.specs.declared.connection.Connection.{Connection}
use Rattle.doc_hub_events.specs.declared.refusal.PushError.{PushError}
use Rattle.doc_hub_events.specs.declared.refusal.PushError.TheVariants.{NoConnection, Memory}
use Rattle.doc_hub.specs.Connections.{Connections, pushed, pushed_at, pushed_onto, with_pushed, finished}

same_at : {X : Type 0} (m : map.FinMap nat_cmp X) (k q : ℕ) (v : X) (b : Bool) → map.get m k ≡ Some v → eq_by_cmp nat_cmp q k ≡ b
    → cond b (Some v) (map.get m q) ≡ map.get m q
same_at m k q v false e tied = refl
same_at m k q v true e tied = sym e ∙ ap (map.get m) (grind (arith, nat_tests))

-- setting what is there changes nothing
pub insert_same : {X : Type 0} (m : map.FinMap nat_cmp X) (k : ℕ) (v : X) → map.get m k ≡ Some v → map.insert m k v ≡ m
insert_same m k v e = map.same_map nat_cmp_total exact_unsigned _ _ (λ q. map.get-insert nat_cmp_total m k v q ∙ same_at m k q v _ e refl)

answer_stays : (cs : Connections) (id : ℕ) (c : Connection) (r : Result (Unit {0}) PushError) → r ≡ (with_pushed cs id c r).1
answer_stays cs id c (Ok x) = refl
answer_stays cs id c (Err e) = refl

-- what a push gives on one connection, it gives on the connections
pub pushes : (cs view : Connections) (id : ℕ) (bytes : List ℕ) (c w : Connection) (r : Result (Unit {0}) PushError)
    → map.get cs id ≡ Some c → view ≡ map.insert cs id w → Gives Memory (pushed_onto c bytes) c w r
    → Gives Memory (pushed cs id bytes) cs view r
pushes cs view id bytes c w (Ok x) found set gives =
    ap (pushed_at cs id bytes) found
    ∙ ap (λ (p : Connection × Result (Unit {0}) PushError). with_pushed cs id p.0 p.1) gives
    ∙ ap (λ (m : Connections). (m, Ok x)) (sym set)
pushes cs view id bytes c w (Err e) found set gives =
    let P : Result (Unit {0}) PushError → Type 0 = λ g. IsAnswer Memory g (Err e) in (
      subst P (answer_stays cs id (pushed_onto c bytes).0 (pushed_onto c bytes).1
          ∙ ap (λ k. (pushed_at cs id bytes k).1) (sym found)) gives.0,
      set ∙ ap (map.insert cs id) gives.1 ∙ insert_same cs id c found,
    )

pub none_pushed : (cs view : Connections) (id : ℕ) (bytes : List ℕ) → map.get cs id ≡ None → view ≡ cs
    → Gives Memory (pushed cs id bytes) cs view (Err NoConnection)
none_pushed cs view id bytes none same =
    let P : Result (Unit {0}) PushError → Type 0 = λ g. IsAnswer Memory g (Err NoConnection) in
    (subst P (ap (λ k. (pushed_at cs id bytes k).1) (sym none)) refl, same)

-- a connection whose front was answered
pub finishes : (cs view : Connections) (id used : ℕ) (last : Bool) (c w : Connection) → map.get cs id ≡ Some c → view ≡ map.insert cs id w
    → w ≡ finished c used last → (d : Connection) → map.get cs id ≡ Some d → view ≡ map.insert cs id (finished d used last)
finishes cs view id used last c w found set done d also =
    let same : c ≡ d = cc in
    set ∙ ap (map.insert cs id) (done ∙ ap (λ x. finished x used last) same)

pub some_none : {X : Type 0} (x : X) → Some x ≡ None → ⊥
some_none x e = cc

-- what is known of the connection that stands under a number
pub of_the_same : (P : Connection → Type 0) (stands : Option Connection) (c d : Connection) → stands ≡ Some c → P c → stands ≡ Some d → P d
of_the_same P stands c d found holds also = subst P (the_same c d (sym found ∙ also)) holds
  where
    the_same : (c d : Connection) → Some c ≡ Some d → c ≡ d
    the_same c d e = cc
