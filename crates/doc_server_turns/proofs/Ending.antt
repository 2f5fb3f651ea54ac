-- Clients that have handed over what was pending, and those that linger behind that.
use Rattle.std.proofs.Common.{◌≡◌, ◌++◌, ℕ, List, [], ◌∷◌, Bool, true, false, inl, inr, refl, sym, ap, subst, ◌∙◌, eq-eqb}
use Rattle.std.specs.Prelude.{◌⊎◌, Contains, Option, Some, None}
use Rattle.std.specs.FinMap as map
use Rattle.std.proofs.lemmas.List.Elements.{Contains-append_cases}
use Rattle.doc_server_turns.specs.Hearing.{Spares, SparesAll, SparesAt}
use Rattle.doc_server_turns.specs.Wirings.{EndAll, Ends, EndsAt, Gives, GivesOne, HandsOver, HasSent, HasSentAt, HaveSent, LingerAll, Lingers, LingersAt, Peer, Table}
use Rattle.doc_server_turns.proofs.Hearing.{none_of, only}
use Rattle.doc_server_turns.proofs.Tables.{get_same}
use Rattle.doc_server_turns.proofs.Wiring.{not_both}

here : (t u : Table) (id : ℕ) (q : Peer) → u ≡ map.insert t id q → map.get u id ≡ Some q
here t u id q is = ap (λ m. map.get m id) is ∙ get_same t id q id (eq-eqb id id refl)

-- ---- what is pending is handed over

pub sent_here : (t u : Table) (id : ℕ) (q : Peer) → u ≡ map.insert t id q → HasSent q → HasSentAt (map.get u id)
sent_here t u id q is sent = subst HasSentAt (sym (here t u id q is)) sent

pub sent_nobody : (t : Table) (id : ℕ) → map.get t id ≡ None → HasSentAt (map.get t id)
sent_nobody t id none = subst HasSentAt (sym none) tt

nothing_left : (a b : Option (List ℕ)) (before left : List ℕ) → HandsOver a b before left → before ≡ [] → left ≡ []
nothing_left a b before left (given, gone, is) none = (none_of given left (sym is ∙ none)).1

sent_on : (a b : Option (List ℕ)) (p q : Peer) → HandsOver a b p.pending q.pending → Spares p q → HasSent p → HasSent q
sent_on a b p q hands spares (inl none) = inl (nothing_left a b p.pending q.pending hands none)
sent_on a b p q hands spares (inr (inl rests)) = inr (inl (ap (λ (x : Peer). x.rests) (spares.resting rests) ∙ rests))
sent_on a b p q hands spares (inr (inr over)) = inr (inr (ap (λ (x : Peer). x.is_over) (spares.over over) ∙ over))

sent_still : (a b : Option (List ℕ)) (ended : Type 0) (p q : Option Peer) → GivesOne a b ended p q → SparesAt p q → HasSentAt p → HasSentAt q
sent_still a b ended None None gives spares sent = tt
sent_still a b ended None (Some q) gives spares sent = absurd gives
sent_still a b ended (Some p) None gives spares sent = tt
sent_still a b ended (Some p) (Some q) gives spares sent = sent_on a b p q gives.0 spares sent

pub sent_more : (numbers : List ℕ) (id : ℕ) (old new : ℕ → Option (List ℕ)) (ended : ℕ → Type 0) (t u : Table) → Gives old new ended t u
    → SparesAll t u → HaveSent numbers t → HasSentAt (map.get u id) → HaveSent (numbers ++ id ∷ []) u
sent_more numbers id old new ended t u gives spares sent last = λ k among. by k (Contains-append_cases numbers (id ∷ []) k among)
  where
    by : (k : ℕ) → Contains numbers k ⊎ Contains (id ∷ []) k → HasSentAt (map.get u k)
    by k (inl before) =
        sent_still (old k) (new k) (ended k) (map.get t k) (map.get u k) (gives k) (spares k) (sent k before)
    by k (inr is) = subst (λ n. HasSentAt (map.get u n)) (sym (only id k is)) last

-- ---- whoever is closed lingers

pub ends_here : (t u : Table) (id : ℕ) (p q : Peer) → map.get t id ≡ Some p → u ≡ map.insert t id q → Ends p q
    → EndsAt (map.get t id) (map.get u id)
ends_here t u id p q found is ends =
    subst (λ o. EndsAt o (map.get u id)) (sym found) (subst (λ o. EndsAt (Some p) o) (sym (here t u id q is)) ends)

pub ends_nobody : (t u : Table) (id : ℕ) → map.get t id ≡ None → EndsAt (map.get t id) (map.get u id)
ends_nobody t u id none = subst (λ o. EndsAt o (map.get u id)) (sym none) tt

over_still : (q r : Peer) → Spares q r → q.is_over ≡ true → r.is_over ≡ true
over_still q r spares over = ap (λ (x : Peer). x.is_over) (spares.over over) ∙ over

ended_still : (c d : Option (List ℕ)) (q r : Peer) → Lingers c d q r → Spares q r → (q.lingers ≡ true) ⊎ (q.is_over ≡ true)
    → (r.lingers ≡ true) ⊎ (r.is_over ≡ true)
ended_still c d q r lingers spares (inl stays) = inl (lingers.stays stays)
ended_still c d q r lingers spares (inr over) = inr (over_still q r spares over)

ends_before : (c d : Option (List ℕ)) (p q r : Option Peer) → EndsAt p q → LingersAt c d q r → SparesAt q r → EndsAt p r
ends_before c d None q r ends lingers spares = tt
ends_before c d (Some p) q None ends lingers spares = tt
ends_before c d (Some p) None (Some r) ends lingers spares = absurd lingers
ends_before c d (Some p) (Some q) (Some r) ends lingers spares = λ shut awake none. ended_still c d q r lingers spares (ends shut awake none)

ends_after : (c d e : Option (List ℕ)) (p q r : Option Peer) → LingersAt c d p q → EndsAt q r → LingersAt d e q r → EndsAt p r
ends_after c d e None q r lingers ends more = tt
ends_after c d e (Some p) q None lingers ends more = tt
ends_after c d e (Some p) None (Some r) lingers ends more = absurd lingers
ends_after c d e (Some p) (Some q) (Some r) lingers ends more = λ shut awake none. by q.rests refl shut awake none
  where
    by : (b : Bool) → q.rests ≡ b → p.is_open ≡ false → p.rests ≡ false → p.owes ≡ false → (r.lingers ≡ true) ⊎ (r.is_over ≡ true)
    by true rests shut awake none = inl (more.stays (lingers.tires awake rests))
    by false stands shut awake none = ends (lingers.opened ∙ shut) stands (lingers.owes ∙ none)

pub ends_more : (numbers : List ℕ) (id : ℕ) (c d e : ℕ → Option (List ℕ)) (t u v : Table) → EndAll numbers t u → LingerAll c d t u
    → EndsAt (map.get u id) (map.get v id) → LingerAll d e u v → SparesAll u v → EndAll (numbers ++ id ∷ []) t v
ends_more numbers id c d e t u v ended lingers last more spares =
    λ k among. by k (Contains-append_cases numbers (id ∷ []) k among)
  where
    by : (k : ℕ) → Contains numbers k ⊎ Contains (id ∷ []) k → EndsAt (map.get t k) (map.get v k)
    by k (inl before) = ends_before (d k) (e k) (map.get t k) (map.get u k) (map.get v k) (ended k before) (more k) (spares k)
    by k (inr is) =
        ends_after (c k) (d k) (e k) (map.get t k) (map.get u k) (map.get v k) (lingers k)
        (subst (λ n. EndsAt (map.get u n) (map.get v n)) (sym (only id k is)) last) (more k)

-- ---- behind a turn

sent_ended : (c d : Option (List ℕ)) (p q : Option Peer) → LingersAt c d p q → SparesAt p q → HasSentAt p → HasSentAt q
sent_ended c d None None lingers spares sent = tt
sent_ended c d None (Some q) lingers spares sent = absurd lingers
sent_ended c d (Some p) None lingers spares sent = tt
sent_ended c d (Some p) (Some q) lingers spares sent = by sent
  where
    by : HasSent p → HasSent q
    by (inl none) = inl (lingers.pending ∙ none)
    by (inr (inl rests)) = inr (inl (ap (λ (x : Peer). x.rests) (spares.resting rests) ∙ rests))
    by (inr (inr over)) = inr (inr (over_still p q spares over))

pub sent_turned : (numbers : List ℕ) (c d : ℕ → Option (List ℕ)) (t u : Table) → HaveSent numbers t → LingerAll c d t u → SparesAll t u
    → HaveSent numbers u
sent_turned numbers c d t u sent lingers spares =
    λ k among. sent_ended (c k) (d k) (map.get t k) (map.get u k) (lingers k) (spares k) (sent k among)

ended_so : (c d : Option (List ℕ)) (p q : Option Peer) → EndsAt p q → LingersAt c d p q → SparesAt p q → EndsAt q q
ended_so c d p None ends lingers spares = tt
ended_so c d None (Some q) ends lingers spares = absurd lingers
ended_so c d (Some p) (Some q) ends lingers spares = λ shut awake none. by p.rests refl shut awake none
  where
    by : (b : Bool) → p.rests ≡ b → q.is_open ≡ false → q.rests ≡ false → q.owes ≡ false → (q.lingers ≡ true) ⊎ (q.is_over ≡ true)
    by true rests shut awake none =
        absurd (not_both q.rests (ap (λ (x : Peer). x.rests) (spares.resting rests) ∙ rests) awake)
    by false stands shut awake none = ends (sym lingers.opened ∙ shut) stands (sym lingers.owes ∙ none)

pub ends_turned : (numbers : List ℕ) (c d : ℕ → Option (List ℕ)) (t u : Table) → EndAll numbers t u → LingerAll c d t u → SparesAll t u
    → EndAll numbers u u
ends_turned numbers c d t u ended lingers spares =
    λ k among. ended_so (c k) (d k) (map.get t k) (map.get u k) (ended k among) (lingers k) (spares k)
