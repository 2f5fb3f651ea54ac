-- Connections stay wired, whatever is done with their clients.
use Rattle.std.proofs.Common.{◌≡◌, ◌++◌, ℕ, List, [], Bool, true, false, refl, sym, ap, subst, ◌∙◌, inl, inr, append-nil, append_assoc}
use Rattle.std.specs.Prelude.{◌⊎◌, Option, Some, None, IfSome}
use Rattle.std.specs.Io.KnownBytes.{append_known}
use Rattle.doc_server_network.proofs.Passing.{append_join, append_none}
use Rattle.doc_server_turns.specs.Wirings.{Peer, Wired, IsFrontOf, HearsFront, TakesIn, TakesInAt, HandsOver, GivesOne, Lingers, LingersAt}
use Rattle.doc_server_turns.specs.Wirings.{SweptAt, IsNew, new_peer}

none_some : (g : List ℕ) → ◌≡◌ {A = Option (List ℕ)} (Some g) None → ⊥
none_some g e = cc

same : (x y : List ℕ) → ◌≡◌ {A = Option (List ℕ)} (Some x) (Some y) → x ≡ y
same x y e = cc

pub not_both : (b : Bool) → b ≡ true → b ≡ false → ⊥
not_both true e f = cc
not_both false e f = cc

-- ---- handing over

handed : (a b : Option (List ℕ)) (sent xs ys : List ℕ) → HandsOver a b xs ys → IsFrontOf a sent xs → IsFrontOf b sent ys
handed None None sent xs ys (given, e, is) w = tt
handed None (Some g) sent xs ys (given, e, is) w = absurd (none_some g e)
handed (Some f) None sent xs ys (given, e, is) w = tt
handed (Some f) (Some g) sent xs ys (given, e, is) w =
    w ∙ ap (λ l. f ++ l) is ∙ sym (append_assoc f given ys) ∙ ap (λ l. l ++ ys) (sym (same g (f ++ given) e))

pub wired_given : (came a b : Option (List ℕ)) (ended : Type 0) (pushed sent : List ℕ) (p q : Option Peer) → GivesOne a b ended p q
    → Wired came a pushed sent p → Wired came b pushed sent q
wired_given came a b ended pushed sent None None g w = subst (λ x. Wired came x pushed sent None) (sym g) w
wired_given came a b ended pushed sent None (Some q) g w = absurd g
wired_given came a b ended pushed sent (Some p) None g w = absurd g
wired_given came a b ended pushed sent (Some p) (Some q) g w =
    (handed a b sent p.pending q.pending g.0 w.0, w.1, λ o. w.2 (g.1.opens o))

-- ---- taking in

sent_more : (g : Option (List ℕ)) (sent sends xs ys : List ℕ) → ys ≡ xs ++ sends → IsFrontOf g sent xs → IsFrontOf g (sent ++ sends) ys
sent_more None sent sends xs ys more w = tt
sent_more (Some g) sent sends xs ys more w = ap (λ l. l ++ sends) w ∙ append_assoc g xs sends ∙ ap (λ l. g ++ l) (sym more)

-- what came, where it is all of what was pushed, and more of which some was lost
all_more : (c pushed pushes lost : List ℕ) → c ≡ pushed → c ++ (pushes ++ lost) ≡ (pushed ++ pushes) ++ lost
all_more c pushed pushes lost all = ap (λ l. l ++ (pushes ++ lost)) all ∙ sym (append_assoc pushed pushes lost)

-- the same where some was lost before, and nothing is pushed any more
lost_more : (c pushed pushes before lost : List ℕ) → c ≡ pushed ++ before → pushes ≡ [] → c ++ (pushes ++ lost) ≡ (pushed ++ pushes) ++ (before ++ lost)
lost_more c pushed pushes before lost front none =
    ap (λ l. c ++ (l ++ lost)) none ∙ ap (λ l. l ++ lost) front ∙ append_assoc pushed before lost
    ∙ ap (λ l. l ++ (before ++ lost)) (sym (ap (λ l. pushed ++ l) none ∙ append-nil pushed))

hears_more : (c d : Option (List ℕ)) (pushed pushes lost : List ℕ) (opened : Bool) → d ≡ append_known c (pushes ++ lost)
    → HearsFront c pushed → (opened ≡ true → IfSome c (λ l. l ≡ pushed)) → (opened ≡ false → pushes ≡ [])
    → HearsFront d (pushed ++ pushes)
hears_more c None pushed pushes lost opened is front all none = tt
hears_more None (Some d) pushed pushes lost opened is front all none = absurd (none_some d is)
hears_more (Some c) (Some d) pushed pushes lost true is front all none =
    (lost, same d (c ++ (pushes ++ lost)) is ∙ all_more c pushed pushes lost (all refl))
hears_more (Some c) (Some d) pushed pushes lost false is front all none =
    (front.0 ++ lost, same d (c ++ (pushes ++ lost)) is ∙ lost_more c pushed pushes front.0 lost front.1 (none refl))

hears_all : (c d : Option (List ℕ)) (pushed pushes lost : List ℕ) → d ≡ append_known c (pushes ++ lost) → lost ≡ []
    → IfSome c (λ l. l ≡ pushed) → IfSome d (λ l. l ≡ pushed ++ pushes)
hears_all c None pushed pushes lost is none all = tt
hears_all None (Some d) pushed pushes lost is none all = absurd (none_some d is)
hears_all (Some c) (Some d) pushed pushes lost is none all =
    same d (c ++ (pushes ++ lost)) is ∙ all_more c pushed pushes lost all
    ∙ ap (λ l. (pushed ++ pushes) ++ l) none ∙ append-nil (pushed ++ pushes)

none_lost : (lost : List ℕ) (opened : Bool) → (lost ≡ [] ⊎ opened ≡ false) → opened ≡ true → lost ≡ []
none_lost lost opened (inl none) o = none
none_lost lost opened (inr shut) o = absurd (not_both opened o shut)

wired_peer : (c d g : Option (List ℕ)) (pushed sent pushes sends : List ℕ) (p q : Peer) → TakesIn c d pushes sends p q
    → Wired c g pushed sent (Some p) → Wired d g (pushed ++ pushes) (sent ++ sends) (Some q)
wired_peer c d g pushed sent pushes sends p q t w = (
  sent_more g sent sends p.pending q.pending t.pending w.0,
  hears_more c d pushed pushes t.input.0 p.is_open t.input.1 w.1 w.2 t.closed,
  λ o. hears_all c d pushed pushes t.input.0 t.input.1 (none_lost t.input.0 q.is_open t.input.2 o) (w.2 (t.opens o)),
)

pub wired_taken : (c d g : Option (List ℕ)) (pushed sent pushes sends : List ℕ) (p q : Option Peer) → TakesInAt c d pushes sends p q
    → Wired c g pushed sent p → Wired d g (pushed ++ pushes) (sent ++ sends) q
wired_taken c d g pushed sent pushes sends None None t w =
    subst (λ l. Wired d g (pushed ++ l) (sent ++ sends) None) (sym t.1)
    (subst (λ l. Wired d g (pushed ++ []) (sent ++ l) None) (sym t.2)
    (subst (λ l. Wired d g l (sent ++ []) None) (sym (append-nil pushed))
    (subst (λ l. Wired d g pushed l None) (sym (append-nil sent)) (subst (λ x. Wired x g pushed sent None) (sym t.0) w))))
wired_taken c d g pushed sent pushes sends None (Some q) t w = absurd t
wired_taken c d g pushed sent pushes sends (Some p) None t w = absurd t
wired_taken c d g pushed sent pushes sends (Some p) (Some q) t w = wired_peer c d g pushed sent pushes sends p q t w

-- one behind the other

input_join : (c d e : Option (List ℕ)) (xs ys first second : List ℕ) → d ≡ append_known c (xs ++ first) → e ≡ append_known d (ys ++ second)
    → e ≡ append_known c ((xs ++ first) ++ (ys ++ second))
input_join c d e xs ys first second one two =
    two ∙ ap (λ known. append_known known (ys ++ second)) one ∙ append_join c (xs ++ first) (ys ++ second)

regroup_open : (xs ys first second : List ℕ) → first ≡ [] → (xs ++ first) ++ (ys ++ second) ≡ (xs ++ ys) ++ second
regroup_open xs ys first second none =
    ap (λ l. l ++ (ys ++ second)) (ap (λ l. xs ++ l) none ∙ append-nil xs) ∙ sym (append_assoc xs ys second)

regroup_closed : (xs ys first second : List ℕ) → ys ≡ [] → (xs ++ first) ++ (ys ++ second) ≡ (xs ++ ys) ++ (first ++ second)
regroup_closed xs ys first second none =
    ap (λ l. (xs ++ first) ++ (l ++ second)) none ∙ append_assoc xs first second
    ∙ ap (λ l. l ++ (first ++ second)) (sym (ap (λ l. xs ++ l) none ∙ append-nil xs))

pub takes_join : (c d e : Option (List ℕ)) (xs ys us vs : List ℕ) (p q r : Peer) → TakesIn c d xs us p q → TakesIn d e ys vs q r
    → TakesIn c e (xs ++ ys) (us ++ vs) p r
takes_join c d e xs ys us vs p q r a b = record {
  pending = b.pending ∙ ap (λ l. l ++ vs) a.pending ∙ append_assoc p.pending us vs;
  input = by q.is_open refl a.input.2;
  opens = λ o. a.opens (b.opens o);
  closed = λ shut. ap (λ l. l ++ ys) (a.closed shut) ∙ b.closed (closed_too shut);
}
  where
    closed_too : p.is_open ≡ false → q.is_open ≡ false
    closed_too shut = at q.is_open refl
      where
        at : (o : Bool) → q.is_open ≡ o → q.is_open ≡ false
        at true is = absurd (not_both p.is_open (a.opens is) shut)
        at false is = is

    shut_too : q.is_open ≡ false → r.is_open ≡ false
    shut_too shut = at r.is_open refl
      where
        at : (o : Bool) → r.is_open ≡ o → r.is_open ≡ false
        at true is = absurd (not_both q.is_open (b.opens is) shut)
        at false is = is

    all : e ≡ append_known c ((xs ++ a.input.0) ++ (ys ++ b.input.0))
    all = input_join c d e xs ys a.input.0 b.input.0 a.input.1 b.input.1

    by : (o : Bool) → q.is_open ≡ o → (a.input.0 ≡ [] ⊎ q.is_open ≡ false)
        → (lost : List ℕ) × (e ≡ append_known c ((xs ++ ys) ++ lost)) × (lost ≡ [] ⊎ r.is_open ≡ false)
    by true is why =
        (b.input.0, all ∙ ap (append_known c) (regroup_open xs ys a.input.0 b.input.0 (none_lost a.input.0 q.is_open why is)), b.input.2)
    by false is why =
        (a.input.0 ++ b.input.0, all ∙ ap (append_known c) (regroup_closed xs ys a.input.0 b.input.0 (b.closed is)), inr (shut_too is))

pub takes_in_join : (c d e : Option (List ℕ)) (xs ys us vs : List ℕ) (p q r : Option Peer) → TakesInAt c d xs us p q
    → TakesInAt d e ys vs q r → TakesInAt c e (xs ++ ys) (us ++ vs) p r
takes_in_join c d e xs ys us vs None None None a b =
    (b.0 ∙ a.0, ap (λ l. l ++ ys) a.1 ∙ b.1, ap (λ l. l ++ vs) a.2 ∙ b.2)
takes_in_join c d e xs ys us vs None None (Some r) a b = b
takes_in_join c d e xs ys us vs None (Some q) r a b = absurd a
takes_in_join c d e xs ys us vs (Some p) None r a b = absurd a
takes_in_join c d e xs ys us vs (Some p) (Some q) None a b = b
takes_in_join c d e xs ys us vs (Some p) (Some q) (Some r) a b = takes_join c d e xs ys us vs p q r a b

-- nothing is done
pub takes_nothing : (c d : Option (List ℕ)) (p : Option Peer) → d ≡ c → TakesInAt c d [] [] p p
takes_nothing c d None is = (is, refl, refl)
takes_nothing c d (Some p) is = record {
  pending = sym (append-nil p.pending);
  input = ([], is ∙ sym (append_none c), inl refl);
  opens = λ o. o;
  closed = λ shut. refl;
}

-- ---- lingering, and sweeps

lingers_takes : (c d : Option (List ℕ)) (p q : Peer) → Lingers c d p q → TakesIn c d [] [] p q
lingers_takes c d p q l = record {
  pending = l.pending ∙ sym (append-nil p.pending);
  input = (l.input.0, l.input.1, by p.is_open refl);
  opens = λ o. sym l.opened ∙ o;
  closed = λ shut. refl;
}
  where
    by : (o : Bool) → p.is_open ≡ o → (l.input.0 ≡ [] ⊎ q.is_open ≡ false)
    by true is = inl (l.input.2 is)
    by false is = inr (l.opened ∙ is)

pub lingers_takes_in : (c d : Option (List ℕ)) (p q : Option Peer) → LingersAt c d p q → TakesInAt c d [] [] p q
lingers_takes_in c d None None l = (l, refl, refl)
lingers_takes_in c d None (Some q) l = l
lingers_takes_in c d (Some p) None l = l
lingers_takes_in c d (Some p) (Some q) l = lingers_takes c d p q l

pub swept_takes_in : (c : Option (List ℕ)) (p q : Option Peer) → SweptAt p q → TakesInAt c c [] [] p q
swept_takes_in c None None s = (refl, refl, refl)
swept_takes_in c None (Some q) s = s
swept_takes_in c (Some p) None s = s
swept_takes_in c (Some p) (Some q) s = record {
  pending = s.pending ∙ sym (append-nil p.pending);
  input = ([], sym (append_none c), inl refl);
  opens = s.opens;
  closed = λ shut. refl;
}

-- ---- clients that come and go

-- whoever is let go leaves a front of what was sent
pub wired_out : (c g : Option (List ℕ)) (pushed sent : List ℕ) (p : Option Peer) → Wired c g pushed sent p → Wired c g pushed sent None
wired_out c g pushed sent None w = w
wired_out c None pushed sent (Some p) w = (tt, w.1)
wired_out c (Some g) pushed sent (Some p) w = ((p.pending, w.0), w.1)

-- whoever comes stands under a number where nothing has passed
pub wired_new : (c g : Option (List ℕ)) (pushed sent : List ℕ) (p : Option Peer) → IsNew c g pushed sent p
    → Wired c g pushed sent (Some new_peer)
wired_new None None pushed sent p n = (tt, tt, λ o. tt)
wired_new None (Some g) pushed sent p n = (n.sent ∙ sym (append-nil g ∙ n.gone), tt, λ o. tt)
wired_new (Some c) None pushed sent p n = (tt, (c, ap (λ h. h ++ c) (sym n.pushed)), λ o. n.came ∙ sym n.pushed)
wired_new (Some c) (Some g) pushed sent p n =
    (n.sent ∙ sym (append-nil g ∙ n.gone), (c, ap (λ h. h ++ c) (sym n.pushed)), λ o. n.came ∙ sym n.pushed)
