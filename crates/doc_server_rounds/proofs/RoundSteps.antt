-- Rounds, pass after pass.
use Rattle.std.proofs.Common.{◌≡◌, ◌<◌, ℕ, zero, suc, List, [], ◌∷◌, ◌++◌, Bool, true, false, T, refl, sym, ap, ◌∙◌, subst, ◌==◌, arith, length, set}
use Rattle.std.proofs.Math.Facts.{eqb_yes}
use Rattle.std.specs.Prelude.{Contains, Option, Some, None, option_map, slice_get, slice_index_or, slice_set}
use Rattle.std.proofs.lemmas.List.Elements.{All-nil, All-append, All-head, All-tail, All-cons}
use Rattle.doc_hub.specs.Replies.{Renders}
use Rattle.doc_hub.specs.Runs.{Happened, Runs, nothing}
use Rattle.doc_hub.specs.Worlds.{World}
use Rattle.doc_server_rounds.specs.Peers.{Peer}
use Rattle.doc_hub.specs.RunParts.{served_by, AreOf}
use Rattle.doc_server_rounds.specs.Served.{Served, Serves}
use Rattle.doc_hub.specs.RunParts.{IsAlone, AreOfAny}
use Rattle.doc_server_rounds.specs.Rounds.{ids_of, ServesAll}
use Rattle.doc_hub.proofs.Elsewhere.{AreElsewhere}
use Rattle.doc_hub.proofs.RunParts.{runs_join}
use Rattle.doc_server_rounds.proofs.RoundLaws.{idle, joined}

same_some : {X : Type 0} (x y : X) → Some x ≡ Some y → x ≡ y
same_some x y e = cc

none_some : {X : Type 0} (x : X) → None ≡ Some x → ⊥
none_some x e = cc

-- what stands at a place
id_at : (ps : List Peer) (i : ℕ) → slice_get (ids_of ps) i ≡ option_map (λ p. p.id) (slice_get ps i)
id_at [] i = refl
id_at (p ∷ ps) zero = refl
id_at (p ∷ ps) (suc i) = id_at ps i

found : (n : ℕ) (o : Option Peer) → option_map (λ p. p.id) o ≡ Some n → (q : Peer) × (o ≡ Some q) × (q.id ≡ n)
found n None is = absurd (none_some n is)
found n (Some q) is = (q, refl, same_some q.id n is)

abbrev IsOfAny : List ℕ → Happened → Type 0
IsOfAny ids h = (c : ℕ) × (served_by h.event ≡ Some c) × Contains ids c

abbrev IsApart : ℕ → Happened → Type 0
IsApart c h = (n : ℕ) × (served_by h.event ≡ Some n) × ((c == n) ≡ false)

pub all_start : (render : Renders) (w : World) (ps : List Peer) → ServesAll render w ps w ps
all_start render w ps = record {
  run = [];
  runs = nothing w;
  own = All-nil (IsOfAny (ids_of ps));
  ids = refl;
  each = λ i p q at be alone. subst (λ l. Served p.id w p [] w l) (same_some p q (sym at ∙ be))
      (idle render p.id w w p [] (nothing w) (All-nil (IsApart p.id)));
}

pub all_join : (render page : Renders) (w v u : World) (ps qs ss : List Peer) → page ≡ render → ServesAll render w ps v qs
    → ServesAll page v qs u ss → ServesAll render w ps u ss
all_join render page w v u ps qs ss same a b = record {
  run = a.run ++ b.run;
  runs = runs_join render w v u a.run b.run a.runs (subst (λ r. Runs r v b.run u) same b.runs);
  own = All-append (IsOfAny (ids_of ps)) a.run b.run a.own (subst (λ l. AreOfAny l b.run) a.ids b.own);
  ids = b.ids ∙ a.ids;
  each = λ i p s at be alone.
      let m = found p.id (slice_get qs i) (sym (id_at qs i) ∙ ap (λ l. slice_get l i) a.ids ∙ id_at ps i
      ∙ ap (option_map (λ l. l.id)) at) in
      joined p.id w v u p m.0 s a.run b.run (a.each i p m.0 at m.1 alone)
      (subst (λ n. Served n v m.0 b.run u s) m.2 (b.each i m.0 s m.1 be (subst (λ l. IsAlone l i) (sym a.ids) alone)));
}

-- ---- one link of all

set_here : (ps : List Peer) (i : ℕ) (p q : Peer) → slice_get ps i ≡ Some p → slice_get (set ps i q) i ≡ Some q
set_here [] i p q at = absurd (none_some p at)
set_here (x ∷ ps) zero p q at = refl
set_here (x ∷ ps) (suc i) p q at = set_here ps i p q at

set_there : (ps : List Peer) (i j : ℕ) (q : Peer) → (j ≡ i → ⊥) → slice_get (set ps i q) j ≡ slice_get ps j
set_there [] i j q off = refl
set_there (x ∷ ps) zero zero q off = absurd (off refl)
set_there (x ∷ ps) zero (suc j) q off = refl
set_there (x ∷ ps) (suc i) zero q off = refl
set_there (x ∷ ps) (suc i) (suc j) q off = set_there ps i j q (λ e. off (ap suc e))

set_ids : (ps : List Peer) (i : ℕ) (p q : Peer) → slice_get ps i ≡ Some p → q.id ≡ p.id → ids_of (set ps i q) ≡ ids_of ps
set_ids [] i p q at same = refl
set_ids (x ∷ ps) zero p q at same = ap (λ n. n ∷ ids_of ps) (same ∙ sym (ap (λ l. l.id) (same_some x p at)))
set_ids (x ∷ ps) (suc i) p q at same = ap (λ l. x.id ∷ l) (set_ids ps i p q at same)

contains_id : (ps : List Peer) (i : ℕ) (p : Peer) → slice_get ps i ≡ Some p → Contains (ids_of ps) p.id
contains_id [] i p at = absurd (none_some p at)
contains_id (x ∷ ps) zero p at = (0, omega arith, ap (λ l. l.id) (same_some x p at))
contains_id (x ∷ ps) (suc i) p at = let e = contains_id ps i p at in (suc e.0, omega (arith, e.1), e.2)

all_of : (ids : List ℕ) (c : ℕ) (run : List Happened) → Contains ids c → AreOf c run → AreOfAny ids run
all_of ids c [] among all = All-nil (IsOfAny ids)
all_of ids c (h ∷ run) among all =
    All-cons (IsOfAny ids) h run (c, All-head (λ x. served_by x.event ≡ Some c) h run all, among)
    (all_of ids c run among (All-tail (λ x. served_by x.event ≡ Some c) h run all))

all_off : (c n : ℕ) (run : List Happened) → (c == n) ≡ false → AreOf n run → AreElsewhere c run
all_off c n [] off all = All-nil (IsApart c)
all_off c n (h ∷ run) off all =
    All-cons (IsApart c) h run (n, All-head (λ x. served_by x.event ≡ Some n) h run all, off)
    (all_off c n run off (All-tail (λ x. served_by x.event ≡ Some n) h run all))

differ : (a b : ℕ) (t : Bool) → (a == b) ≡ t → (a ≡ b → ⊥) → (a == b) ≡ false
differ a b true is off = absurd (off (eqb_yes (subst T (sym is) tt)))
differ a b false is off = is

apart_from : (j i : ℕ) → (j == i) ≡ false → j ≡ i → ⊥
apart_from j i off e =
    let itself : (i == i) ≡ true = grind (arith) in
    subst T (sym itself ∙ ap (λ k. k == i) (sym e) ∙ off) tt

pub one_at : (render : Renders) (w v : World) (ps : List Peer) (i : ℕ) (p q : Peer) → slice_get ps i ≡ Some p → Serves render w p v q
    → ServesAll render w ps v (set ps i q)
one_at render w v ps i p q here s = record {
  run = s.run;
  runs = s.runs;
  own = all_of (ids_of ps) p.id s.run (contains_id ps i p here) s.own;
  ids = set_ids ps i p q here s.served.id;
  each = λ j a b at be alone. by j a b at be alone (j == i) refl;
}
  where
    by : (j : ℕ) (a b : Peer) → slice_get ps j ≡ Some a → slice_get (set ps i q) j ≡ Some b → IsAlone (ids_of ps) j → (t : Bool)
        → (j == i) ≡ t → Served a.id w a s.run v b
    by j a b at be alone true is =
        let e : j ≡ i = eqb_yes (subst T (sym is) tt) in
        let first : p ≡ a = same_some p a (sym here ∙ ap (slice_get ps) (sym e) ∙ at) in
        let second : q ≡ b = same_some q b (sym (set_here ps i p q here) ∙ ap (slice_get (set ps i q)) (sym e) ∙ be) in
        subst (λ l. Served a.id w a s.run v l) second (subst (λ l. Served l.id w l s.run v q) first s.served)
    by j a b at be alone false is =
        let apart : j ≡ i → ⊥ = apart_from j i is in
        let other : (a.id == p.id) ≡ false = differ a.id p.id (a.id == p.id) refl (λ e. apart (sym (alone i a.id
        (id_at ps j ∙ ap (option_map (λ l. l.id)) at) (id_at ps i ∙ ap (option_map (λ l. l.id)) here ∙ ap Some (sym e))))) in
        let unmoved : a ≡ b = same_some a b (sym at ∙ sym (set_there ps i j q apart) ∙ be) in
        subst (λ l. Served a.id w a s.run v l) unmoved
        (idle render a.id w v a s.run s.runs (all_off a.id p.id s.run other s.own))

-- ---- the link at a place

get_some : (ps : List Peer) (i : ℕ) (d : Peer) → i < length ps → slice_get ps i ≡ Some (slice_index_or ps i d)
get_some [] i d within = absurd (omega (arith, within))
get_some (p ∷ ps) zero d within = refl
get_some (p ∷ ps) (suc i) d within = get_some ps i d (omega (arith, within))

set_same : (ps : List Peer) (i : ℕ) (d : Peer) → slice_set ps i (slice_index_or ps i d) ≡ ps
set_same [] i d = refl
set_same (p ∷ ps) zero d = refl
set_same (p ∷ ps) (suc i) d = ap (λ l. p ∷ l) (set_same ps i d)

pub untouched : (render : Renders) (w : World) (ps : List Peer) (i : ℕ) (d : Peer)
    → ServesAll render w ps w (slice_set ps i (slice_index_or ps i d))
untouched render w ps i d = subst (ServesAll render w ps w) (sym (set_same ps i d)) (all_start render w ps)

pub served_at : (render : Renders) (w v : World) (ps : List Peer) (i : ℕ) (d q : Peer) → i < length ps
    → Serves render w (slice_index_or ps i d) v q → ServesAll render w ps v (slice_set ps i q)
served_at render w v ps i d q within s = one_at render w v ps i (slice_index_or ps i d) q (get_some ps i d within) s
