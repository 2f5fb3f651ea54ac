-- Nobody starves behind a sweep of all.
use Rattle.std.proofs.Common.{◌≡◌, ◌++◌, ℕ, List, [], ◌∷◌, Bool, true, false, inl, inr, cond, refl, sym, ap, subst, ◌∙◌, arith, eq-eqb}
use Rattle.std.specs.Prelude.{◌⊎◌, Contains, Option, Some, None, map as mapped}
use Rattle.std.specs.FinMap as map
use Rattle.std.specs.BTreeMap.{is_at}
use Rattle.std.specs.Cmp.{unsigned_tied}
use Rattle.std.specs.Ordering.{nat_cmp}
use Rattle.std.proofs.lemmas.Bool.{eqb-true}
use Rattle.std.proofs.lemmas.List.Elements.{Contains-append_cases, Contains-append_right}
use Rattle.doc_server_turns.specs.Wirings.{IsFedAt, Peer, SweptAll, SweptAt, Table}
use Rattle.doc_server_turns.proofs.Hearing.{only}
use Rattle.doc_server_turns.proofs.Tables.{get_same, some_none}

pub fed_here : (t u : Table) (id : ℕ) (q : Peer) → u ≡ map.insert t id q → q.starves ≡ false → IsFedAt (map.get u id)
fed_here t u id q is fed =
    subst IsFedAt (sym (ap (λ m. map.get m id) is ∙ get_same t id q id (eq-eqb id id refl))) fed

pub fed_nobody : (t : Table) (id : ℕ) → map.get t id ≡ None → IsFedAt (map.get t id)
fed_nobody t id none = subst IsFedAt (sym none) tt

fed_still : (p q : Option Peer) → SweptAt p q → IsFedAt p → IsFedAt q
fed_still None None s fed = tt
fed_still None (Some q) s fed = absurd s
fed_still (Some p) None s fed = absurd s
fed_still (Some p) (Some q) s fed = s.feeds fed

pub fed_more : (numbers : List ℕ) (id : ℕ) (t u : Table) → SweptAll t u → ((k : ℕ) → Contains numbers k → IsFedAt (map.get t k))
    → IsFedAt (map.get u id) → (k : ℕ) → Contains (numbers ++ id ∷ []) k → IsFedAt (map.get u k)
fed_more numbers id t u swept fed here k among = by (Contains-append_cases numbers (id ∷ []) k among)
  where
    by : Contains numbers k ⊎ Contains (id ∷ []) k → IsFedAt (map.get u k)
    by (inl before) = fed_still (map.get t k) (map.get u k) (swept k) (fed k before)
    by (inr last) = subst (λ n. IsFedAt (map.get u n)) (sym (only id k last)) here

-- ---- all numbers

tied : (k n : ℕ) → is_at (nat_cmp k) n ≡ true → n ≡ k
tied k n is = sym (eqb-true k n (sym (unsigned_tied k n) ∙ is))

pub among_keys : (es : List (ℕ × Peer)) (k : ℕ) (p : Peer) → map.find nat_cmp k es ≡ Some p → Contains (mapped (λ e. e.0) es) k
among_keys [] k p found = absurd (some_none p (sym found))
among_keys (e ∷ es) k p found = by (is_at (nat_cmp k) e.0) refl found (among_keys es k p)
  where
    by : (b : Bool) → is_at (nat_cmp k) e.0 ≡ b → cond (is_at (nat_cmp k) e.0) (Some e.1) (map.find nat_cmp k es) ≡ Some p
        → (map.find nat_cmp k es ≡ Some p → Contains (mapped (λ d. d.0) es) k) → Contains (mapped (λ d. d.0) (e ∷ es)) k
    by true is found rest = (0, omega arith, tied k e.0 is)
    by false off found rest =
        Contains-append_right (e.0 ∷ []) (mapped (λ d. d.0) es) k
        (rest (sym (ap (λ b. cond b (Some e.1) (map.find nat_cmp k es)) off) ∙ found))

-- all were swept
pub all_fed : (t u : Table) → SweptAll t u → ((k : ℕ) → Contains (map.keys t) k → IsFedAt (map.get u k)) → (k : ℕ) → IsFedAt (map.get u k)
all_fed t u swept fed k = by (map.get t k) refl
  where
    none : (q : Option Peer) → SweptAt None q → IsFedAt q
    none None s = tt
    none (Some q) s = absurd s

    by : (o : Option Peer) → map.get t k ≡ o → IsFedAt (map.get u k)
    by None e = none (map.get u k) (subst (λ o. SweptAt o (map.get u k)) e (swept k))
    by (Some p) e = fed k (among_keys (map.entries t) k p (sym (map.get-entries t k) ∙ e))
