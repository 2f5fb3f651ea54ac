-- Who waits for the network, or is over, part by part of a turn; and who stands no more.
use Rattle.std.proofs.Common.{◌≡◌, ◌==◌, ◌++◌, ℕ, List, [], ◌∷◌, Bool, true, false, not, ◌||◌, cond, inl, inr, refl, sym, ap, subst, ◌∙◌, eq-eqb}
use Rattle.std.specs.Prelude.{◌⊎◌, Contains, Option, Some, None, is_some}
use Rattle.std.specs.FinMap as map
use Rattle.std.proofs.lemmas.Bool.{eqb-true}
use Rattle.std.proofs.lemmas.List.Elements.{Contains-append_cases}
use Rattle.doc_hub.specs.Runs.{Happened, events_on}
use Rattle.doc_server_turns.specs.Hearing.{HeardAt, HearsAll, HearsAt, IsMinded, IsReader, RouseAll, Rouses, RousesAt, SparesAll, SparesAt, WaitOn, Waits, WaitsOn, WasHeard}
use Rattle.doc_server_turns.specs.Wirings.{Peer, SweptAll, SweptAt, Table, WokeAt, new_peer, woken}
use Rattle.doc_server_turns.proofs.Hearing.{heard_first, heard_last, only}
use Rattle.doc_server_turns.proofs.LeavingSteps.{get_gone}
use Rattle.doc_server_turns.proofs.Tables.{get_other, get_same}
use Rattle.doc_server_turns.proofs.Wiring.{not_both}

-- ---- who stands no more

pub stands_not : (o : Option Peer) → is_some o ≡ false → o ≡ None
stands_not None e = refl
stands_not (Some p) e = absurd (not_both true refl e)

pub out_here : (t u : Table) (id : ℕ) → u ≡ map.remove t id → map.get u id ≡ None
out_here t u id is =
    ap (λ m. map.get m id) is ∙ get_gone t id id ∙ ap (λ b. cond b None (map.get t id)) (eq-eqb id id refl)

none_out : (b : Bool) (o : Option Peer) → o ≡ None → cond b None o ≡ None
none_out true o e = refl
none_out false o e = e

pub out_still : (t u : Table) (id : ℕ) → u ≡ map.remove t id → (k : ℕ) → map.get t k ≡ None → map.get u k ≡ None
out_still t u id is k none = ap (λ m. map.get m k) is ∙ get_gone t id k ∙ none_out (k == id) (map.get t k) none

pub out_more : (numbers : List ℕ) (id : ℕ) (t u : Table) → ((k : ℕ) → map.get t k ≡ None → map.get u k ≡ None)
    → ((k : ℕ) → Contains numbers k → map.get t k ≡ None) → map.get u id ≡ None
    → (k : ℕ) → Contains (numbers ++ id ∷ []) k → map.get u k ≡ None
out_more numbers id t u still out last k among = by (Contains-append_cases numbers (id ∷ []) k among)
  where
    by : Contains numbers k ⊎ Contains (id ∷ []) k → map.get u k ≡ None
    by (inl before) = still k (out k before)
    by (inr is) = subst (λ n. map.get u n ≡ None) (sym (only id k is)) last

-- ---- who waits

waits_itself : (o : Option Peer) → WaitsOn o o
waits_itself None = tt
waits_itself (Some p) = λ w. w

pub waits_nobody : (t : Table) → WaitOn t t
waits_nobody t = λ k. waits_itself (map.get t k)

waits_one_join : (o p q : Option Peer) → WaitsOn o p → WaitsOn p q → WaitsOn o q
waits_one_join None p None a b = tt
waits_one_join (Some o) p None a b = tt
waits_one_join None None (Some q) a b = b
waits_one_join None (Some p) (Some q) a b = b a
waits_one_join (Some o) None (Some q) a b = λ w. b
waits_one_join (Some o) (Some p) (Some q) a b = λ w. b (a w)

pub waits_join : (t u v : Table) → WaitOn t u → WaitOn u v → WaitOn t v
waits_join t u v a b = λ k. waits_one_join (map.get t k) (map.get u k) (map.get v k) (a k) (b k)

waits_at : (t u : Table) (id : ℕ) (q : Option Peer) → map.get u id ≡ q → WaitsOn (map.get t id) q
    → ((k : ℕ) → (k == id) ≡ false → map.get u k ≡ map.get t k) → WaitOn t u
waits_at t u id q is own others = λ k. by k (k == id) refl
  where
    by : (k : ℕ) (b : Bool) → (k == id) ≡ b → WaitsOn (map.get t k) (map.get u k)
    by k true e =
        subst (λ n. WaitsOn (map.get t n) (map.get u n)) (sym (eqb-true k id e)) (subst (λ o. WaitsOn (map.get t id) o) (sym is) own)
    by k false e = subst (λ o. WaitsOn (map.get t k) o) (sym (others k e)) (waits_itself (map.get t k))

leaves_none : (o : Option Peer) → WaitsOn o None
leaves_none None = tt
leaves_none (Some p) = tt

pub waits_out : (t u : Table) (id : ℕ) → u ≡ map.remove t id → WaitOn t u
waits_out t u id is =
    waits_at t u id None (out_here t u id is) (leaves_none (map.get t id))
    (λ k off. ap (λ m. map.get m k) is ∙ get_gone t id k ∙ ap (λ b. cond b None (map.get t k)) off)

new_waits : (o : Option Peer) → WaitsOn o (Some new_peer)
new_waits None = inl refl
new_waits (Some p) = λ w. inl refl

-- somebody comes
pub waits_in : (t u : Table) (id : ℕ) → u ≡ map.insert t id new_peer → WaitOn t u
waits_in t u id is =
    waits_at t u id (Some new_peer) (ap (λ m. map.get m id) is ∙ get_same t id new_peer id (eq-eqb id id refl)) (new_waits (map.get t id))
    (λ k off. ap (λ m. map.get m k) is ∙ get_other t id new_peer k off)

-- a sweep
swept_waits : (p q : Option Peer) → SweptAt p q → WaitsOn p q
swept_waits None None s = tt
swept_waits None (Some q) s = absurd s
swept_waits (Some p) None s = tt
swept_waits (Some p) (Some q) s = λ w. by w
  where
    by : Waits p → Waits q
    by (inl rests) = inl (s.rests ∙ rests)
    by (inr over) = inr (s.over over)

pub waits_swept : (t u : Table) → SweptAll t u → WaitOn t u
waits_swept t u swept = λ k. swept_waits (map.get t k) (map.get u k) (swept k)

-- a hand-over, and an end of a turn
spared_waits : (p q : Option Peer) → SparesAt p q → WaitsOn p q
spared_waits None None s = tt
spared_waits None (Some q) s = absurd s
spared_waits (Some p) None s = tt
spared_waits (Some p) (Some q) s = λ w. by w
  where
    by : Waits p → Waits q
    by (inl rests) = inl (ap (λ (x : Peer). x.rests) (s.resting rests) ∙ rests)
    by (inr over) = inr (ap (λ (x : Peer). x.is_over) (s.over over) ∙ over)

pub waits_spared : (t u : Table) → SparesAll t u → WaitOn t u
waits_spared t u spares = λ k. spared_waits (map.get t k) (map.get u k) (spares k)

-- reads and steps
heard_waits : (k : ℕ) (run : List Happened) (p q : Option Peer) → HearsAt k run p q → WaitsOn p q
heard_waits k run None None h = tt
heard_waits k run None (Some q) h = absurd h
heard_waits k run (Some p) None h = tt
heard_waits k run (Some p) (Some q) h = h.waits

pub waits_heard : (ready : List ℕ) (run : List Happened) (t u : Table) → HearsAll ready run t u → WaitOn t u
waits_heard ready run t u hears = λ k. heard_waits k run (map.get t k) (map.get u k) (hears.any k)

-- ---- who is told of

rouses_itself : (o : Option Peer) → RousesAt o o
rouses_itself None = tt
rouses_itself (Some p) = record { reading = λ is. inl refl; over = λ o. o }

pub rouses_nobody : (t : Table) → RouseAll t t
rouses_nobody t = λ k. rouses_itself (map.get t k)

rouses_one_join : (p q r : Option Peer) → RousesAt p q → RousesAt q r → RousesAt p r
rouses_one_join None None None a b = tt
rouses_one_join None None (Some r) a b = b
rouses_one_join None (Some q) r a b = absurd a
rouses_one_join (Some p) None r a b = absurd a
rouses_one_join (Some p) (Some q) None a b = b
rouses_one_join (Some p) (Some q) (Some r) a b = record { reading = λ is. by is (a.reading is); over = λ o. b.over (a.over o) }
  where
    on : q ≡ p → (r ≡ q) ⊎ (r.is_over ≡ true) → (r ≡ p) ⊎ (r.is_over ≡ true)
    on e (inl f) = inl (f ∙ e)
    on e (inr over) = inr over

    by : IsReader p → (q ≡ p) ⊎ (q.is_over ≡ true) → (r ≡ p) ⊎ (r.is_over ≡ true)
    by is (inl e) = on e (b.reading (subst IsReader (sym e) is))
    by is (inr over) = inr (b.over over)

pub rouses_join : (t u v : Table) → RouseAll t u → RouseAll u v → RouseAll t v
rouses_join t u v a b = λ k. rouses_one_join (map.get t k) (map.get u k) (map.get v k) (a k) (b k)

rests_not : (rests starves over : Bool) → not (rests || starves || over) ≡ true → rests ≡ false
rests_not true starves over e = sym e
rests_not false starves over e = refl

still_awake : (p : Peer) → p.rests ≡ false → record p { rests = false } ≡ p
still_awake p awake = ap (λ b. record p { rests = b }) (sym awake)

told : (p : Peer) (is_gone : Bool) → Rouses p (woken p is_gone)
told p true = record { reading = λ is. inr refl; over = λ o. refl }
told p false = record { reading = λ is. inl (still_awake p (rests_not p.rests p.starves p.is_over is.1)); over = λ o. o }

rouses_at : (t u : Table) (id : ℕ) (p q : Peer) → map.get t id ≡ Some p → u ≡ map.insert t id q → Rouses p q → RouseAll t u
rouses_at t u id p q found is own = λ k. by k (k == id) refl
  where
    by : (k : ℕ) (b : Bool) → (k == id) ≡ b → RousesAt (map.get t k) (map.get u k)
    by k true e =
        subst (λ (x : Option Peer). RousesAt x (map.get u k)) (sym (ap (map.get t) (eqb-true k id e) ∙ found))
        (subst (λ (x : Option Peer). RousesAt (Some p) x) (sym (ap (λ m. map.get m k) is ∙ get_same t id q k e)) own)
    by k false e =
        subst (λ (x : Option Peer). RousesAt (map.get t k) x) (sym (ap (λ m. map.get m k) is ∙ get_other t id q k e))
        (rouses_itself (map.get t k))

pub rouses_woke : (t u : Table) (id : ℕ) (is_gone : Bool) → WokeAt id is_gone t u (map.get t id) → RouseAll t u
rouses_woke t u id is_gone woke = by (map.get t id) refl woke
  where
    by : (x : Option Peer) → map.get t id ≡ x → WokeAt id is_gone t u x → RouseAll t u
    by None none is = subst (RouseAll t) (sym is) (rouses_nobody t)
    by (Some p) found is = rouses_at t u id p (woken p is_gone) found is (told p is_gone)

-- ---- a turn

pub minded : (k : ℕ) (xs ys : List Happened) (o p q : Option Peer) → RousesAt o p → HeardAt k ys p q → WaitsOn p q
    → IsMinded k (xs ++ ys) o q
minded k xs ys None p q rouses heard waits = tt
minded k xs ys (Some o) None q rouses heard waits = absurd rouses
minded k xs ys (Some o) (Some p) None rouses heard waits = tt
minded k xs ys (Some o) (Some p) (Some q) rouses heard waits = λ is. by is (rouses.reading is)
  where
    was : WasHeard k ys q → Waits q ⊎ (events_on k (xs ++ ys) ≡ [] → ⊥)
    was (inl rests) = inl (inl rests)
    was (inr some) = inr (heard_last k xs ys some)

    by : IsReader o → (p ≡ o) ⊎ (p.is_over ≡ true) → Waits q ⊎ (events_on k (xs ++ ys) ≡ [] → ⊥)
    by is (inl e) = was (heard (subst IsReader (sym e) is))
    by is (inr over) = inl (waits (inr over))

pub minded_on : (k : ℕ) (xs ys : List Happened) (o p q : Option Peer) → IsMinded k xs o p → WaitsOn p q → IsMinded k (xs ++ ys) o q
minded_on k xs ys None p q is waits = tt
minded_on k xs ys (Some o) p None is waits = tt
minded_on k xs ys (Some o) None (Some q) is waits = λ reads. inl waits
minded_on k xs ys (Some o) (Some p) (Some q) is waits = λ reads. by (is reads)
  where
    by : Waits p ⊎ (events_on k xs ≡ [] → ⊥) → Waits q ⊎ (events_on k (xs ++ ys) ≡ [] → ⊥)
    by (inl w) = inl (waits w)
    by (inr some) = inr (heard_first k xs ys some)
