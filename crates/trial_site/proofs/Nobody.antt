-- A network in memory on which nothing has passed, and a server that has served nobody.
use Rattle.std.proofs.Common.{◌≡◌, ◌∙◌, ℕ, List, [], Option, Some, None, IfSome, ap, refl, subst, sym}
use Rattle.std.specs.FinMap as map
use Rattle.std.specs.Ordering.{nat_cmp}
use Rattle.doc_server_serving.specs.Memories.{IsUntouched, has_none, memory_came, memory_gone}
use Rattle.doc_server_serving.specs.Networks.{Rests, Stays}
use Rattle.doc_server_network.specs.declared.memory_network.MemoryNetwork.{MemoryNetwork}
use Rattle.doc_server_serving.specs.Invariants.{HasServedNobody}
use Rattle.doc_server_serving.specs.Wirings.{IsNew, Peer, Table}

-- what has passed nowhere is new everywhere
pub nothing_known : (c : Option (List ℕ)) → c ≡ Some [] → IfSome c (λ l. l ≡ [])
nothing_known c is = subst (λ known. IfSome known (λ l. l ≡ [])) (sym is) refl

pub new_there : (m : MemoryNetwork) (k : ℕ) → IsUntouched m k → IsNew (memory_came m k) (memory_gone m k) [] [] None
new_there m k (none, came, gone) = record {
  came = nothing_known (memory_came m k) came;
  gone = nothing_known (memory_gone m k) gone;
  pushed = refl;
  sent = refl;
  none = refl;
}

-- one more guest leaves all untouched
pub untouched_still : (m n : MemoryNetwork) → ((k : ℕ) → IsUntouched m k) → Rests (memory_came m) (memory_came n)
    → Rests (memory_gone m) (memory_gone n) → Stays (has_none m) (has_none n) → (k : ℕ) → IsUntouched n k
untouched_still m n is came gone free k = (free k (is k).0, came k ∙ (is k).1, gone k ∙ (is k).2)

-- who has no clients has served nobody
pub served_nobody : (given : ℕ) (came gone : ℕ → Option (List ℕ)) (is_free : ℕ → Type 0) (peers : Table) → peers ≡ map.empty
    → ((k : ℕ) → IsNew (came k) (gone k) [] [] None) → ((k : ℕ) → is_free k) → HasServedNobody given came gone is_free peers
served_nobody given came gone is_free peers none new free = record {
  new = λ k. subst (λ p. IsNew (came k) (gone k) [] [] p)
      (sym (map.get-empty {X = Peer} nat_cmp k) ∙ ap (λ t. map.get t k) (sym none)) (new k);
  free = λ k _. free k;
}

pub untouched_along : (m n : MemoryNetwork) → n ≡ m → (k : ℕ) → IsUntouched m k → IsUntouched n k
untouched_along m n same k is = subst (λ x. IsUntouched x k) (sym same) is
