-- What goes on between turns, part by part, and one part behind the other.
use Rattle.std.proofs.Common.{◌≡◌, ◌≤◌, ◌<◌, ◌++◌, ℕ, List, [], refl, sym, ap, subst, ◌∙◌, arith, append-nil, append_assoc}
use Rattle.std.specs.Prelude.{Option, Some, None, IfSome}
use Rattle.std.specs.FinMap as map
use Rattle.std.proofs.lemmas.List.Elements.{All-weaker}
use Rattle.doc_hub.specs.Replies.{Renders}
use Rattle.doc_hub.specs.Runs.{sent_on}
use Rattle.doc_hub.specs.RunParts.{pushed_on}
use Rattle.doc_hub.specs.Worlds.{World}
use Rattle.doc_hub.proofs.RunParts.{pushed_join, pushed_of, sent_join, sent_of}
use Rattle.doc_server_network.specs.Networks.{Rests, Stays}
use Rattle.doc_hub_events.specs.declared.event.Event.{Event}
use Rattle.doc_server_serving.specs.Invariants.{AreFree, AreWired, GoesOn, GoesOnBy, HasServedNobody, IsServed}
use Rattle.doc_server_turns.specs.QuietRuns.{IsOfPeers, Leads, LeadsQuietlyBy}
use Rattle.doc_server_turns.specs.Turns.{Turns}
use Rattle.doc_server_turns.specs.Wirings.{AreWoken, Gives, IsNew, Peer, SweptAll, SweptAt, Table, Wired, WokenAt, new_peer}
use Rattle.doc_server_serving.proofs.GivenNumbers.{given_more}
use Rattle.doc_server_serving.proofs.Leading.{IsOwn, leads_nowhere, leads_wider, of_peers}
use Rattle.doc_server_turns.proofs.QuietRuns.{leads_on}
use Rattle.doc_server_turns.proofs.LeavingSteps.{wired_on}
use Rattle.doc_server_turns.proofs.TableServing.{IsOfAny}
use Rattle.doc_server_turns.proofs.Tables.{some_none}
use Rattle.doc_server_turns.proofs.TurnSteps.{given_none, wired_same}
use Rattle.doc_server_turns.proofs.Wiring.{swept_takes_in, wired_given, wired_new, wired_out, wired_taken}

-- ---- numbers that aren't given yet

-- a number that isn't given yet wasn't before
pub not_yet : (a b k : ℕ) → a ≤ b → b < k → a < k
not_yet a b k le lt = omega (arith, le, lt)

pub free_more : (a b : ℕ) (f e : ℕ → Type 0) → a ≤ b → Stays f e → AreFree a f → AreFree b e
free_more a b f e le stays free = λ k lt. stays k (free k (not_yet a b k le lt))

pub new_on : (c d g h : Option (List ℕ)) (pushed sent pushes sends : List ℕ) (p q : Option Peer) → d ≡ c → h ≡ g → pushes ≡ []
    → sends ≡ [] → q ≡ None → IsNew c g pushed sent p → IsNew d h (pushed ++ pushes) (sent ++ sends) q
new_on c d g h pushed sent pushes sends p q came gone no_pushes no_sends none new = record {
  came = subst (λ x. IfSome x (λ l. l ≡ [])) (sym came) new.came;
  gone = subst (λ x. IfSome x (λ l. l ≡ [])) (sym gone) new.gone;
  pushed = ap (λ l. l ++ pushes) new.pushed ∙ no_pushes;
  sent = ap (λ l. l ++ sends) new.sent ∙ no_sends;
  none = none;
}

-- ---- sweeps

pub swept_none : (p q : Option Peer) → SweptAt p q → p ≡ None → q ≡ None
swept_none None None s e = refl
swept_none None (Some q) s e = absurd s
swept_none (Some p) None s e = absurd s
swept_none (Some p) (Some q) s e = absurd (some_none p e)

wired_swept : (c g : Option (List ℕ)) (pushed sent : List ℕ) (p q : Option Peer) → SweptAt p q → Wired c g pushed sent p
    → Wired c g pushed sent q
wired_swept c g pushed sent p q s w =
    subst (λ x. Wired c g x sent q) (append-nil pushed)
    (subst (λ x. Wired c g (pushed ++ []) x q) (append-nil sent) (wired_taken c c g pushed sent [] [] p q (swept_takes_in c p q s) w))

swept_woken : (wakes : Type 0) (p q : Option Peer) → SweptAt p q → WokenAt wakes p → WokenAt wakes q
swept_woken wakes None None s w = tt
swept_woken wakes None (Some q) s w = absurd s
swept_woken wakes (Some p) None s w = absurd s
swept_woken wakes (Some p) (Some q) s w = λ r. w (sym s.rests ∙ r)

-- ---- what was pushed and sent, told in another way

pub are_same : (given : ℕ) (c g : ℕ → Option (List ℕ)) (p q s r : ℕ → List ℕ) (t : Table) → ((k : ℕ) → p k ≡ q k) → ((k : ℕ) → s k ≡ r k)
    → AreWired given c g p s t → AreWired given c g q r t
are_same given c g p q s r t pushes sends are = record {
  wired = λ k.
      subst (λ x. Wired (c k) (g k) x (r k) (map.get t k)) (pushes k)
      (subst (λ x. Wired (c k) (g k) (p k) x (map.get t k)) (sends k) (are.wired k));
  new = λ k lt.
      subst (λ x. IsNew (c k) (g k) x (r k) (map.get t k)) (pushes k)
      (subst (λ x. IsNew (c k) (g k) (p k) x (map.get t k)) (sends k) (are.new k lt));
}

-- nothing behind it
pub behind_none : (front rest : List ℕ) → rest ≡ [] → front ≡ front ++ rest
behind_none front rest none = sym (ap (λ l. front ++ l) none ∙ append-nil front)

module _ {N R : Type 0} (page : R → Renders) (came gone : N → ℕ → Option (List ℕ)) (wakes is_free : N → ℕ → Type 0) where
  abbrev pub Goes : R × World → R × World → N → N → Table → Table → Type 0
  Goes old new n m t u = GoesOn page came gone wakes is_free old new n m t u

  -- one part behind the other
  abbrev pub goes_on : (own : Event → Type 0) (old mid new : R × World) (n m o : N) (t u v : Table)
      → GoesOnBy page came gone wakes is_free own old mid n m t u → GoesOnBy page came gone wakes is_free own mid new m o u v
      → GoesOnBy page came gone wakes is_free own old new n o t v
  goes_on own old mid new n m o t u v a b = record {
    leads = leads_on own (page old.0) (page mid.0) old.1 mid.1 new.1 a.same a.leads b.leads;
    same = b.same ∙ a.same;
    wired = λ pushed sent are.
        are_same new.1.given (came o) (gone o) (λ k. (pushed k ++ pushed_on k a.leads.run) ++ pushed_on k b.leads.run)
        (λ k. pushed k ++ pushed_on k (a.leads.run ++ b.leads.run)) (λ k. (sent k ++ sent_on k a.leads.run) ++ sent_on k b.leads.run)
        (λ k. sent k ++ sent_on k (a.leads.run ++ b.leads.run)) v
        (λ k. append_assoc (pushed k) (pushed_on k a.leads.run) (pushed_on k b.leads.run)
        ∙ ap (λ l. pushed k ++ l) (sym (pushed_join k a.leads.run b.leads.run)))
        (λ k. append_assoc (sent k) (sent_on k a.leads.run) (sent_on k b.leads.run)
        ∙ ap (λ l. sent k ++ l) (sym (sent_join k a.leads.run b.leads.run)))
        (b.wired (λ k. pushed k ++ pushed_on k a.leads.run) (λ k. sent k ++ sent_on k a.leads.run) (a.wired pushed sent are));
    woken = λ w. b.woken (a.woken w);
    free = λ f. b.free (a.free f);
  }

  abbrev pub goes_join : (old mid new : R × World) (n m o : N) (t u v : Table) → Goes old mid n m t u → Goes mid new m o u v → Goes old new n o t v
  goes_join old mid new n m o t u v a b = goes_on IsOfPeers old mid new n m o t u v a b

  -- by some events, and so by more of them
  abbrev pub goes_wider : (own more : Event → Type 0) (old new : R × World) (n m : N) (t u : Table) → ((e : Event) → own e → more e)
      → GoesOnBy page came gone wakes is_free own old new n m t u → GoesOnBy page came gone wakes is_free more old new n m t u
  goes_wider own more old new n m t u wider a = record {
    leads = leads_wider own more (page old.0) old.1 new.1 wider a.leads;
    same = a.same;
    wired = a.wired;
    woken = a.woken;
    free = a.free;
  }

  -- a part that nobody hears or is sent anything by, without a call of the network
  abbrev pub goes_unheard : (own : Event → Type 0) (old new : R × World) (n : N) (t : Table) → page new.0 ≡ page old.0
      → LeadsQuietlyBy own (page old.0) old.1 new.1 → new.1.given ≡ old.1.given
      → GoesOnBy page came gone wakes is_free own old new n n t t
  goes_unheard own old new n t same quiet given = record {
    leads = quiet.leads;
    same = same;
    wired = λ pushed sent are.
        are_same new.1.given (came n) (gone n) pushed (λ k. pushed k ++ pushed_on k quiet.leads.run) sent
        (λ k. sent k ++ sent_on k quiet.leads.run) t (λ k. behind_none (pushed k) (pushed_on k quiet.leads.run) (quiet.pushes k))
        (λ k. behind_none (sent k) (sent_on k quiet.leads.run) (quiet.sends k))
        (subst (λ g. AreWired g (came n) (gone n) pushed sent t) (sym given) are);
    woken = λ w. w;
    free = λ f. subst (λ g. AreFree g (is_free n)) (sym given) f;
  }

  module _ (old new : R × World) (n m : N) (t u : Table) (same : page new.0 ≡ page old.0)
      (woken : AreWoken (wakes n) t → AreWoken (wakes m) u) (free : Stays (is_free n) (is_free m)) where
    -- a turn of some clients
    abbrev pub goes_turns : (ready : List ℕ) → Turns (page old.0) old.1 new.1 ready (came n) (came m) (gone n) (gone m) t u → Goes old new n m t u
    goes_turns ready s =
        let own = All-weaker (IsOfAny ready) IsOwn (λ h is. of_peers h.event is.0 is.1) s.run s.own in
        let more = given_more (page old.0) old.1 new.1 s.run own s.runs in record {
          leads = record { run = s.run; runs = s.runs; own = own };
          same = same;
          wired = λ pushed sent are. record {
            wired = λ k. s.wired k (pushed k) (sent k) (are.wired k);
            new = λ k lt.
                let was = are.new k (not_yet old.1.given new.1.given k more lt) in
                let left = s.elsewhere k was.none in
                new_on (came n k) (came m k) (gone n k) (gone m k) (pushed k) (sent k) (pushed_on k s.run) (sent_on k s.run)
                (map.get t k) (map.get u k) left.came left.gone (ap pushed_of left.events) (ap sent_of left.events) left.none was;
          };
          woken = woken;
          free = free_more old.1.given new.1.given (is_free n) (is_free m) more free;
        }

    -- a run that pushes and sends nothing, while nothing passes and nobody comes
    abbrev pub goes_quietly : (leads : Leads (page old.0) old.1 new.1) → ((k : ℕ) → pushed_on k leads.run ≡ [])
        → ((k : ℕ) → sent_on k leads.run ≡ []) → Rests (came n) (came m) → Rests (gone n) (gone m)
        → ((k : ℕ) (pushed sent : List ℕ) → Wired (came n k) (gone n k) pushed sent (map.get t k)
        → Wired (came m k) (gone m k) pushed sent (map.get u k))
        → ((k : ℕ) → map.get t k ≡ None → map.get u k ≡ None) → Goes old new n m t u
    goes_quietly leads no_pushes no_sends comes goes keeps none =
        let more = given_more (page old.0) old.1 new.1 leads.run leads.own leads.runs in record {
          leads = leads;
          same = same;
          wired = λ pushed sent are. record {
            wired = λ k.
                wired_on (came m k) (gone m k) (pushed k) (sent k) (pushed_on k leads.run) (sent_on k leads.run) (map.get u k) (no_pushes k)
                (no_sends k) (keeps k (pushed k) (sent k) (are.wired k));
            new = λ k lt.
                let was = are.new k (not_yet old.1.given new.1.given k more lt) in
                new_on (came n k) (came m k) (gone n k) (gone m k) (pushed k) (sent k) (pushed_on k leads.run) (sent_on k leads.run)
                (map.get t k) (map.get u k) (comes k) (goes k) (no_pushes k) (no_sends k) (none k was.none) was;
          };
          woken = woken;
          free = free_more old.1.given new.1.given (is_free n) (is_free m) more free;
        }

  module _ (old : R × World) (n m : N) (t : Table) where
    -- nothing
    pub goes_nowhere : Stays (wakes n) (wakes m) → Stays (is_free n) (is_free m) → Rests (came n) (came m) → Rests (gone n) (gone m)
        → (AreWoken (wakes n) t → AreWoken (wakes m) t) → Goes old old n m t t
    goes_nowhere wakes_still free comes goes woken =
        goes_quietly old old n m t t refl woken free (leads_nowhere (page old.0) old.1) (λ k. refl) (λ k. refl) comes goes
        (λ k pushed sent w. wired_same (came n k) (came m k) (gone n k) (gone m k) pushed sent (map.get t k) (comes k) (goes k) w)
        (λ k none. none)

    -- clients are told of
    pub goes_told : (u : Table) (ended : ℕ → Type 0) → Gives (gone n) (gone m) ended t u → Rests (came n) (came m) → Rests (gone n) (gone m)
        → (AreWoken (wakes n) t → AreWoken (wakes m) u) → Stays (is_free n) (is_free m) → Goes old old n m t u
    goes_told u ended gives comes goes woken free =
        goes_quietly old old n m t u refl woken free (leads_nowhere (page old.0) old.1) (λ k. refl) (λ k. refl) comes goes
        (λ k pushed sent w.
        wired_same (came n k) (came m k) (gone m k) (gone m k) pushed sent (map.get u k) (comes k) refl
        (wired_given (came n k) (gone n k) (gone m k) (ended k) pushed sent (map.get t k) (map.get u k) (gives k) w))
        (λ k none. (given_none (gone n k) (gone m k) (ended k) (map.get t k) (map.get u k) (gives k) none).1)

  -- a sweep
  pub goes_swept : (old : R × World) (n : N) (t u : Table) → SweptAll t u → Goes old old n n t u
  goes_swept old n t u swept =
      goes_quietly old old n n t u refl (λ w k. swept_woken (wakes n k) (map.get t k) (map.get u k) (swept k) (w k)) (λ k f. f)
      (leads_nowhere (page old.0) old.1) (λ k. refl) (λ k. refl) (λ k. refl) (λ k. refl)
      (λ k pushed sent w. wired_swept (came n k) (gone n k) pushed sent (map.get t k) (map.get u k) (swept k) w)
      (λ k none. swept_none (map.get t k) (map.get u k) (swept k) none)

  -- ---- from the first turn on

  wired_first : (c g : Option (List ℕ)) (p : Option Peer) → IsNew c g [] [] p → Wired c g [] [] p
  wired_first c g p new =
      subst (λ (x : Option Peer). Wired c g [] [] x) (sym new.none) (wired_out c g [] [] (Some new_peer) (wired_new c g [] [] p new))

  pub served : (own : Event → Type 0) (old new : R × World) (n m : N) (t u : Table)
      → HasServedNobody old.1.given (came n) (gone n) (is_free n) t → (goes : GoesOnBy page came gone wakes is_free own old new n m t u)
      → IsServed goes.leads.run (came m) (gone m)
  served own old new n m t u first goes = λ k.
      wired_out (came m k) (gone m k) (pushed_on k goes.leads.run) (sent_on k goes.leads.run) (map.get u k)
      ((goes.wired (λ i. []) (λ i. []) (record {
        wired = λ i. wired_first (came n i) (gone n i) (map.get t i) (first.new i);
        new = λ i lt. first.new i;
      })).wired k)

  pub nobody_rests : (given : ℕ) (n : N) (t : Table) → HasServedNobody given (came n) (gone n) (is_free n) t → AreWoken (wakes n) t
  nobody_rests given n t first = λ k. subst (λ (x : Option Peer). WokenAt (wakes n k) x) (sym ((first.new k).none)) tt
