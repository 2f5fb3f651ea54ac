-- Tables in which one client changes.
use Rattle.std.proofs.Common.{◌≡◌, ◌==◌, ◌++◌, ℕ, List, [], Bool, true, false, cond, refl, sym, ap, subst, ◌∙◌, eq-eqb}
use Rattle.std.specs.Prelude.{Option, Some, None}
use Rattle.std.specs.FinMap as map
use Rattle.std.specs.Cmp.{unsigned_tied}
use Rattle.std.proofs.lemmas.Cmp.{nat_cmp_total}
use Rattle.std.proofs.lemmas.Bool.{eqb-true}
use Rattle.doc_server_network.specs.Networks.{Moves, Rests, RestsBut, Stays, StaysBut}
use Rattle.doc_server_turns.specs.Wirings.{Peer, Table, HandsOver, ClosesBy, GivesOne, Gives, GivesFront, GivesFronts, Lingers, LingersAt, LingerAll, Swept, SweptAt, SweptAll, AreWoken, WokenAt, WokeAt, woken}
use Rattle.std.specs.Io.KnownBytes.{append_known}
use Rattle.doc_server_network.proofs.Passing.{append_join, append_none, moved_at}
use Rattle.doc_server_turns.proofs.HandingOver.{hands_join, hands_none}

-- ---- looking up

pub get_same : (t : Table) (id : ℕ) (q : Peer) (k : ℕ) → (k == id) ≡ true → map.get (map.insert t id q) k ≡ Some q
get_same t id q k is =
    map.get-insert nat_cmp_total t id q k ∙ ap (λ b. cond b (Some q) (map.get t k)) (unsigned_tied k id ∙ is)

pub get_other : (t : Table) (id : ℕ) (q : Peer) (k : ℕ) → (k == id) ≡ false → map.get (map.insert t id q) k ≡ map.get t k
get_other t id q k off =
    map.get-insert nat_cmp_total t id q k ∙ ap (λ b. cond b (Some q) (map.get t k)) (unsigned_tied k id ∙ off)

not_both : (b : Bool) → b ≡ true → b ≡ false → ⊥
not_both true e f = cc
not_both false e f = cc

pub apart : (k id : ℕ) → (k == id) ≡ false → k ≡ id → ⊥
apart k id off is = not_both (k == id) (eq-eqb k id is) off

pub some_none : (p : Peer) → ◌≡◌ {A = Option Peer} (Some p) None → ⊥
some_none p e = cc

-- What holds of each number of a table holds of the one in which a client changes, where it holds of that client, and of the others still.
pub changed_at : (P Q : ℕ → Option Peer → Type 0) (t u : Table) (id : ℕ) (p q : Peer) → map.get t id ≡ Some p → u ≡ map.insert t id q
    → (P id (Some p) → Q id (Some q)) → ((k : ℕ) → (k ≡ id → ⊥) → P k (map.get t k) → Q k (map.get t k))
    → ((k : ℕ) → P k (map.get t k)) → (k : ℕ) → Q k (map.get u k)
changed_at P Q t u id p q found is own others all = λ k. by k (k == id) refl
  where
    by : (k : ℕ) (b : Bool) → (k == id) ≡ b → Q k (map.get u k)
    by k true e =
        let same : k ≡ id = eqb-true k id e in
        subst (λ (x : Option Peer). Q k x) (sym (ap (λ m. map.get m k) is ∙ get_same t id q k e))
        (subst (λ n. Q n (Some q)) (sym same) (own (subst (λ (x : Option Peer). P id x) found (all id))))
    by k false e =
        subst (λ (x : Option Peer). Q k x) (sym (ap (λ m. map.get m k) is ∙ get_other t id q k e))
        (others k (apart k id e) (all k))

-- ---- handing over

closes_not : (ended : Type 0) (p : Peer) → ClosesBy ended p p
closes_not ended p = record {
  opens = λ o. o;
  closes = λ o shut. absurd (not_both p.is_open o shut);
  lets_go = λ stands over. absurd (not_both p.is_over over stands);
}

gives_itself : (a b : Option (List ℕ)) (ended : Type 0) (p : Option Peer) → b ≡ a → GivesOne a b ended p p
gives_itself a b ended None same = same
gives_itself a b ended (Some p) same = (hands_none a b p.pending same, closes_not ended p)

pub gives_nothing : (old new : ℕ → Option (List ℕ)) (ended : ℕ → Type 0) (t : Table) → Rests old new → Gives old new ended t t
gives_nothing old new ended t rests = λ k. gives_itself (old k) (new k) (ended k) (map.get t k) (rests k)

pub gives_at : (old new : ℕ → Option (List ℕ)) (ended : ℕ → Type 0) (t u : Table) (id : ℕ) (p q : Peer) → map.get t id ≡ Some p
    → u ≡ map.insert t id q
    → HandsOver (old id) (new id) p.pending q.pending → ClosesBy (ended id) p q → RestsBut id old new → Gives old new ended t u
gives_at old new ended t u id p q found is hands closes others = λ k. by k (k == id) refl
  where
    by : (k : ℕ) (b : Bool) → (k == id) ≡ b → GivesOne (old k) (new k) (ended k) (map.get t k) (map.get u k)
    by k true e =
        let same : k ≡ id = eqb-true k id e in
        subst (λ (x : Option Peer). GivesOne (old k) (new k) (ended k) x (map.get u k)) (sym (ap (map.get t) same ∙ found))
        (subst (λ (x : Option Peer). GivesOne (old k) (new k) (ended k) (Some p) x) (sym (ap (λ m. map.get m k) is ∙ get_same t id q k e))
        (subst (λ n. GivesOne (old n) (new n) (ended n) (Some p) (Some q)) (sym same) (hands, closes)))
    by k false e =
        subst (λ (x : Option Peer). GivesOne (old k) (new k) (ended k) (map.get t k) x)
        (sym (ap (λ m. map.get m k) is ∙ get_other t id q k e))
        (gives_itself (old k) (new k) (ended k) (map.get t k) (others k (apart k id e)))

closes_join : (mid new : Type 0) (p q r : Peer) → (mid → new) → ClosesBy mid p q → ClosesBy new q r → ClosesBy new p r
closes_join mid new p q r later a b = record {
  opens = λ o. a.opens (b.opens o);
  closes = λ o shut. by q.is_open refl o shut;
  lets_go = λ stands over. off q.is_over refl stands over;
}
  where
    by : (x : Bool) → q.is_open ≡ x → p.is_open ≡ true → r.is_open ≡ false → new
    by true e o shut = b.closes e shut
    by false e o shut = later (a.closes o e)

    off : (x : Bool) → q.is_over ≡ x → p.is_over ≡ false → r.is_over ≡ true → new
    off true e stands over = later (a.lets_go stands e)
    off false e stands over = b.lets_go e over

gives_one_join : (a b c : Option (List ℕ)) (mid new : Type 0) (p q r : Option Peer) → (mid → new) → GivesOne a b mid p q
    → GivesOne b c new q r → GivesOne a c new p r
gives_one_join a b c mid new None None None later g h = h ∙ g
gives_one_join a b c mid new None None (Some r) later g h = h
gives_one_join a b c mid new None (Some q) r later g h = absurd g
gives_one_join a b c mid new (Some p) None r later g h = absurd g
gives_one_join a b c mid new (Some p) (Some q) None later g h = h
gives_one_join a b c mid new (Some p) (Some q) (Some r) later g h =
    (hands_join a b c p.pending q.pending r.pending g.0 h.0, closes_join mid new p q r later g.1 h.1)

pub gives_join : (old mid new : ℕ → Option (List ℕ)) (ended later : ℕ → Type 0) (t u v : Table) → Stays ended later
    → Gives old mid ended t u → Gives mid new later u v → Gives old new later t v
gives_join old mid new ended later t u v stays g h = λ k.
    gives_one_join (old k) (mid k) (new k) (ended k) (later k) (map.get t k) (map.get u k) (map.get v k) (stays k) (g k) (h k)

front_of : (a b : Option (List ℕ)) (ended : Type 0) (p q : Option Peer) → GivesOne a b ended p q → GivesFront a b p
front_of a b ended None None g = g
front_of a b ended None (Some q) g = absurd g
front_of a b ended (Some p) None g = absurd g
front_of a b ended (Some p) (Some q) g = (q.pending, g.0)

-- what was handed over before nothing more was, is a front of what was pending
pub gives_fronts : (old mid new : ℕ → Option (List ℕ)) (ended : ℕ → Type 0) (t u : Table) → Gives old mid ended t u → Rests mid new
    → GivesFronts old new t
gives_fronts old mid new ended t u g rests = λ k.
    subst (λ x. GivesFront (old k) x (map.get t k)) (sym (rests k)) (front_of (old k) (mid k) (ended k) (map.get t k) (map.get u k) (g k))

-- ---- lingering

-- what a closed client reads is dropped
pub drained : (old new : ℕ → Option (List ℕ)) (id : ℕ) (bytes : List ℕ) (p : Peer) → p.is_open ≡ false → Moves old new id bytes
    → Lingers (old id) (new id) p p
drained old new id bytes p shut moves = record {
  pending = refl;
  opened = refl;
  owes = refl;
  input = (bytes, moved_at old new id bytes moves, λ o. absurd (not_both p.is_open o shut));
  stays = λ l. l;
  tires = λ awake rests. absurd (not_both p.rests rests awake);
  lets_go = λ stands over. absurd (not_both p.is_over over stands);
}

lingers_not : (a b : Option (List ℕ)) (p : Option Peer) → b ≡ a → LingersAt a b p p
lingers_not a b None same = same
lingers_not a b (Some p) same =
    record {
      pending = refl;
      opened = refl;
      owes = refl;
      input = ([], same ∙ sym (append_none a), λ o. refl);
      stays = λ l. l;
      tires = λ awake rests. absurd (not_both p.rests rests awake);
      lets_go = λ stands over. absurd (not_both p.is_over over stands);
    }

pub lingers_nothing : (c d : ℕ → Option (List ℕ)) (t : Table) → Rests c d → LingerAll c d t t
lingers_nothing c d t rests = λ k. lingers_not (c k) (d k) (map.get t k) (rests k)

pub lingers_at : (c d : ℕ → Option (List ℕ)) (t u : Table) (id : ℕ) (p q : Peer) → map.get t id ≡ Some p → u ≡ map.insert t id q
    → Lingers (c id) (d id) p q → RestsBut id c d → LingerAll c d t u
lingers_at c d t u id p q found is own others = λ k. by k (k == id) refl
  where
    by : (k : ℕ) (b : Bool) → (k == id) ≡ b → LingersAt (c k) (d k) (map.get t k) (map.get u k)
    by k true e =
        let same : k ≡ id = eqb-true k id e in
        subst (λ (x : Option Peer). LingersAt (c k) (d k) x (map.get u k)) (sym (ap (map.get t) same ∙ found))
        (subst (λ (x : Option Peer). LingersAt (c k) (d k) (Some p) x) (sym (ap (λ m. map.get m k) is ∙ get_same t id q k e))
        (subst (λ n. LingersAt (c n) (d n) (Some p) (Some q)) (sym same) own))
    by k false e =
        subst (λ (x : Option Peer). LingersAt (c k) (d k) (map.get t k) x) (sym (ap (λ m. map.get m k) is ∙ get_other t id q k e))
        (lingers_not (c k) (d k) (map.get t k) (others k (apart k id e)))

lingers_one_join : (a b c : Option (List ℕ)) (p q r : Option Peer) → LingersAt a b p q → LingersAt b c q r → LingersAt a c p r
lingers_one_join a b c None None None g h = h ∙ g
lingers_one_join a b c None None (Some r) g h = h
lingers_one_join a b c None (Some q) r g h = absurd g
lingers_one_join a b c (Some p) None r g h = absurd g
lingers_one_join a b c (Some p) (Some q) None g h = h
lingers_one_join a b c (Some p) (Some q) (Some r) g h = record {
  pending = h.pending ∙ g.pending;
  opened = h.opened ∙ g.opened;
  owes = h.owes ∙ g.owes;
  input = (
    g.input.0 ++ h.input.0,
    h.input.1 ∙ ap (λ known. append_known known h.input.0) g.input.1 ∙ append_join a g.input.0 h.input.0,
    λ o. ap (λ l. l ++ h.input.0) (g.input.2 o) ∙ h.input.2 (g.opened ∙ o),
  );
  stays = λ l. h.stays (g.stays l);
  tires = λ awake rests. tired q.rests refl awake rests;
  lets_go = λ stands over. gone q.is_over refl stands over;
}
  where
    tired : (x : Bool) → q.rests ≡ x → p.rests ≡ false → r.rests ≡ true → r.lingers ≡ true
    tired true e awake rests = h.stays (g.tires awake e)
    tired false e awake rests = h.tires e rests

    gone : (x : Bool) → q.is_over ≡ x → p.is_over ≡ false → r.is_over ≡ true → p.pending ≡ []
    gone true e stands over = g.lets_go stands e
    gone false e stands over = sym g.pending ∙ h.lets_go e over

pub lingers_join : (c d e : ℕ → Option (List ℕ)) (t u v : Table) → LingerAll c d t u → LingerAll d e u v → LingerAll c e t v
lingers_join c d e t u v g h = λ k. lingers_one_join (c k) (d k) (e k) (map.get t k) (map.get u k) (map.get v k) (g k) (h k)

-- ---- who rests is woken

pub later : (old new : Type 0) (x : Option Peer) → (old → new) → WokenAt old x → WokenAt new x
later old new None f o = tt
later old new (Some x) f o = λ r. f (o r)

pub woken_at : (old new : ℕ → Type 0) (t u : Table) (id : ℕ) (p q : Peer) → map.get t id ≡ Some p → u ≡ map.insert t id q
    → ((p.rests ≡ true → old id) → q.rests ≡ true → new id) → StaysBut id old new → AreWoken old t → AreWoken new u
woken_at old new t u id p q found is own others w =
    changed_at (λ k x. WokenAt (old k) x) (λ k x. WokenAt (new k) x) t u id p q found is own
    (λ k off o. later (old k) (new k) (map.get t k) (others k off) o) w

pub woken_same : (old new : ℕ → Type 0) (t : Table) → Stays old new → AreWoken old t → AreWoken new t
woken_same old new t f w = λ k. later (old k) (new k) (map.get t k) (f k) (w k)

-- ---- sweeps

swept_not : (p : Option Peer) → SweptAt p p
swept_not None = tt
swept_not (Some p) = record { pending = refl; rests = refl; opens = λ o. o; feeds = λ f. f; lingers = refl; over = λ o. o }

pub swept_nothing : (t : Table) → SweptAll t t
swept_nothing t = λ k. swept_not (map.get t k)

pub swept_at : (t u : Table) (id : ℕ) (p q : Peer) → map.get t id ≡ Some p → u ≡ map.insert t id q → Swept p q → SweptAll t u
swept_at t u id p q found is own = λ k. by k (k == id) refl
  where
    by : (k : ℕ) (b : Bool) → (k == id) ≡ b → SweptAt (map.get t k) (map.get u k)
    by k true e =
        subst (λ (x : Option Peer). SweptAt x (map.get u k)) (sym (ap (map.get t) (eqb-true k id e) ∙ found))
        (subst (λ (x : Option Peer). SweptAt (Some p) x) (sym (ap (λ m. map.get m k) is ∙ get_same t id q k e)) own)
    by k false e =
        subst (λ (x : Option Peer). SweptAt (map.get t k) x) (sym (ap (λ m. map.get m k) is ∙ get_other t id q k e))
        (swept_not (map.get t k))

swept_one_join : (p q r : Option Peer) → SweptAt p q → SweptAt q r → SweptAt p r
swept_one_join None None None g h = h
swept_one_join None None (Some r) g h = h
swept_one_join None (Some q) r g h = absurd g
swept_one_join (Some p) None r g h = absurd g
swept_one_join (Some p) (Some q) None g h = h
swept_one_join (Some p) (Some q) (Some r) g h =
    record {
      pending = h.pending ∙ g.pending;
      rests = h.rests ∙ g.rests;
      opens = λ o. g.opens (h.opens o);
      feeds = λ f. h.feeds (g.feeds f);
      lingers = h.lingers ∙ g.lingers;
      over = λ o. h.over (g.over o);
    }

pub swept_join : (t u v : Table) → SweptAll t u → SweptAll u v → SweptAll t v
swept_join t u v g h = λ k. swept_one_join (map.get t k) (map.get u k) (map.get v k) (g k) (h k)

woken_swept_one : (wakes : Type 0) (p q : Option Peer) → SweptAt p q → WokenAt wakes p → WokenAt wakes q
woken_swept_one wakes None None g w = tt
woken_swept_one wakes None (Some q) g w = absurd g
woken_swept_one wakes (Some p) None g w = tt
woken_swept_one wakes (Some p) (Some q) g w = λ r. w (sym g.rests ∙ r)

pub woken_swept : (wakes : ℕ → Type 0) (t u : Table) → SweptAll t u → AreWoken wakes t → AreWoken wakes u
woken_swept wakes t u g w = λ k. woken_swept_one (wakes k) (map.get t k) (map.get u k) (g k) (w k)

-- ---- one is told of

not_yet : false ≡ true → ⊥
not_yet e = cc

woken_closes : (ended : Type 0) (p : Peer) (is_gone : Bool) → (is_gone ≡ true → ended) → ClosesBy ended p (woken p is_gone)
woken_closes ended p true why = record { opens = λ o. absurd (not_yet o); closes = λ o shut. why refl; lets_go = λ stands over. why refl }
woken_closes ended p false why = record {
  opens = λ o. o;
  closes = λ o shut. absurd (not_both p.is_open o shut);
  lets_go = λ stands over. absurd (not_both p.is_over over stands);
}

woken_pending : (p : Peer) (is_gone : Bool) → (woken p is_gone).pending ≡ p.pending
woken_pending p true = refl
woken_pending p false = refl

woken_rests : (p : Peer) (is_gone : Bool) → (woken p is_gone).rests ≡ false
woken_rests p true = refl
woken_rests p false = refl

pub gives_woke : (old new : ℕ → Option (List ℕ)) (ended : ℕ → Type 0) (t u : Table) (id : ℕ) (is_gone : Bool)
    → WokeAt id is_gone t u (map.get t id) → Rests old new → (is_gone ≡ true → ended id) → Gives old new ended t u
gives_woke old new ended t u id is_gone woke rests why = by (map.get t id) refl woke
  where
    by : (x : Option Peer) → map.get t id ≡ x → WokeAt id is_gone t u x → Gives old new ended t u
    by None none is = subst (λ (m : Table). Gives old new ended t m) (sym is) (gives_nothing old new ended t rests)
    by (Some p) found is =
        gives_at old new ended t u id p (woken p is_gone) found is
        (subst (λ l. HandsOver (old id) (new id) p.pending l) (sym (woken_pending p is_gone)) (hands_none (old id) (new id) p.pending (rests id)))
        (woken_closes (ended id) p is_gone why) (λ k off. rests k)

pub woken_told : (old new : ℕ → Type 0) (t u : Table) (id : ℕ) (is_gone : Bool) → WokeAt id is_gone t u (map.get t id)
    → StaysBut id old new → AreWoken old t → AreWoken new u
woken_told old new t u id is_gone woke others w = by (map.get t id) refl woke
  where
    nobody : map.get t id ≡ None → (k : ℕ) → WokenAt (new k) (map.get t k)
    nobody none k = at (k == id) refl
      where
        at : (b : Bool) → (k == id) ≡ b → WokenAt (new k) (map.get t k)
        at true e = subst (λ (x : Option Peer). WokenAt (new k) x) (sym (ap (map.get t) (eqb-true k id e) ∙ none)) tt
        at false e = later (old k) (new k) (map.get t k) (others k (apart k id e)) (w k)

    by : (x : Option Peer) → map.get t id ≡ x → WokeAt id is_gone t u x → AreWoken new u
    by None none is = subst (AreWoken new) (sym is) (nobody none)
    by (Some p) found is =
        woken_at old new t u id p (woken p is_gone) found is (λ o r. absurd (not_yet (sym (woken_rests p is_gone) ∙ r))) others w

pub woke_some : (id : ℕ) (is_gone : Bool) (t u : Table) (p : Peer) (x : Option Peer) → x ≡ Some p → u ≡ map.insert t id (woken p is_gone)
    → WokeAt id is_gone t u x
woke_some id is_gone t u p x found is = subst (WokeAt id is_gone t u) (sym found) is

pub woke_none : (id : ℕ) (is_gone : Bool) (t u : Table) (x : Option Peer) → x ≡ None → u ≡ t → WokeAt id is_gone t u x
woke_none id is_gone t u x none is = subst (WokeAt id is_gone t u) (sym none) is
