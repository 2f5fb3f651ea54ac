-- Steps of a client's connection, one behind the other.
use Rattle.std.proofs.Common.{◌≡◌, ◌≤◌, ◌<◌, ◌+◌, ℕ, List, [], ◌∷◌, ◌++◌, Bool, true, cond, length, refl, sym, ap, ◌∙◌, subst, arith}
use Rattle.std.proofs.Common.{inl, inr, append-nil, append_assoc, length-append, eq-eqb}
use Rattle.std.specs.Prelude.{Contains, Some, None, Result, min, ◌^◌, ◌-◌}
use Rattle.std.specs.FinMap as map
use Rattle.std.specs.Cmp.{unsigned_tied}
use Rattle.std.proofs.lemmas.Cmp.{nat_cmp_total}
use Rattle.std.proofs.lemmas.List.Elements.{All-nil, All-cons, All-append, Contains-push}
use Rattle.doc_hub.specs.Replies.{Renders}
use Rattle.doc_hub.specs.Runs.{Happens, Happened, Leaves, Runs, nothing, first, events_on, sent_by, sent_on}
use Rattle.doc_hub.specs.StepLaws.{connection}
use Rattle.doc_hub.specs.Worlds.{World}
use Rattle.doc_hub.specs.RunParts.{served_by, AreOf, Gave, pushed_on}
use Rattle.doc_hub.proofs.RunParts.{runs_join, pushed_join, sent_join, one_on, one_pushes, one_sends, gave_before, gave_after}
use Rattle.doc_hub_events.specs.Events.{disconnect_on, step_on, stepping}
use Rattle.doc_hub_events.specs.declared.event.ConnId.{ConnId}
use Rattle.doc_hub_events.specs.declared.event.Event.{Event}
use Rattle.doc_hub_events.specs.declared.event.Step.{Step}
use Rattle.doc_hub_events.specs.declared.outcome.Outcome.{Outcome}
use Rattle.doc_hub_events.specs.declared.outcome.Outcome.TheVariants as outcomes
use Rattle.doc_hub_events.specs.declared.refusal.StepError.{StepError}
use Rattle.doc_server_listen.specs.Costs.{CostsAtMost, IsWithin, Left, Takes}
use Rattle.doc_server_listen.proofs.CostSteps.{within_join, within_step}
use Rattle.doc_server_turns.specs.Replies.{most_pending}
use Rattle.doc_server_turns.specs.Servings.{Answers, IsEnding, KeepsBound}
use Rattle.doc_server_turns.specs.Wirings.{Peer}
use Rattle.doc_server_turns.proofs.Wiring.{not_both}

abbrev pub happened : World → Event → Outcome → Happened
happened w event outcome = record { world = w; event = event; outcome = outcome }

pub waits_few : (p q : Peer) (sent : List ℕ) → q.pending ≡ p.pending ++ sent → length p.pending < most_pending
    → length q.pending < most_pending + length sent
waits_few p q sent waits room = omega (arith, room, ap length waits, length-append p.pending sent)

pub waits_same : (p q : Peer) → q.pending ≡ p.pending → length q.pending ≤ length p.pending
waits_same p q waits = omega (arith, ap length waits)

pub first_of : (c : ℕ) (h : Happened) → served_by h.event ≡ Some c → Contains (events_on c (h ∷ [])) h
first_of c h of = subst (λ l. Contains l h) (sym (one_on c h of)) (Contains-push [] h)

pub own_one : (c : ℕ) (h : Happened) → served_by h.event ≡ Some c → AreOf c (h ∷ [])
own_one c h of = All-cons (λ x. served_by x.event ≡ Some c) h [] of (All-nil (λ x. served_by x.event ≡ Some c))

-- ---- how much is pending

fewer : (a b m : ℕ) → a ≤ b → b < m → a < m
fewer a b m le lt = omega (arith, le, lt)

less_by : (c : ℕ) (run : List Happened) (q s : Peer) → length s.pending ≤ length q.pending
    → Gave (λ o. length q.pending < most_pending + length (sent_by o)) c run
    → Gave (λ o. length s.pending < most_pending + length (sent_by o)) c run
less_by c run q s less (h, among, is) =
    (h, among, fewer (length s.pending) (length q.pending) (most_pending + length (sent_by h.outcome)) less is)

pub bound_join : (c : ℕ) (xs ys : List Happened) (p q s : Peer) → KeepsBound c xs p q → KeepsBound c ys q s → KeepsBound c (xs ++ ys) p s
bound_join c xs ys p q s one (inr gave) = inr (gave_after (λ o. length s.pending < most_pending + length (sent_by o)) c xs ys gave)
bound_join c xs ys p q s (inr gave) (inl less) =
    inr (gave_before (λ o. length s.pending < most_pending + length (sent_by o)) c xs ys (less_by c xs q s less gave))
bound_join c xs ys p q s (inl some) (inl less) = inl (omega (arith, some, less))

-- ---- no step, one, and the last one

module _ (render : Renders) where
  abbrev pub runs_one : (w v : World) (event : Event) (outcome : Outcome) → Leaves render w event v outcome
      → Runs render w (happened w event outcome ∷ []) v
  runs_one w v event outcome leaves = first w v v event outcome [] leaves (nothing v)

  pub disconnect_drops : (w v : World) (id : ConnId) (said : Bool) → Happens render w (disconnect_on id) v said → connection id.0 v ≡ None
  disconnect_drops w v id said h =
      subst (λ (r : World × Bool). connection id.0 r.0 ≡ None) h
      (map.get-remove nat_cmp_total w.connections id.0 id.0
      ∙ ap (λ t. cond t None (connection id.0 w)) (unsigned_tied id.0 id.0 ∙ eq-eqb id.0 id.0 refl))

  abbrev pub not_answered : (w : World) (id : ℕ) (p q : Peer) → q.pending ≡ p.pending → q.rests ≡ p.rests → q.is_open ≡ true
      → Answers render w w id p q
  not_answered w id p q same rests opened = record {
    run = [];
    runs = nothing w;
    own = All-nil (λ h. served_by h.event ≡ Some id);
    pushes = refl;
    pending = same ∙ sym (append-nil p.pending);
    bound = inl (waits_same p q same);
    rests = rests;
    ends = λ shut. absurd (not_both q.is_open opened shut);
  }

  module _ (w v : World) (id : ConnId) (said : Result Step StepError) (h : Happens render w (step_on id) v said) where
    abbrev pub one : Happened
    one = happened w (step_on id) (stepping said)

    abbrev pub few_one : (p q : Peer) → q.pending ≡ p.pending ++ sent_by (stepping said) → length p.pending < most_pending
        → Gave (λ o. length q.pending < most_pending + length (sent_by o)) id.0 (one ∷ [])
    few_one p q waits room = (one, first_of id.0 one refl, waits_few p q (sent_by (stepping said)) waits room)

    -- a step behind which the client stays open
    abbrev pub answered : (p q : Peer) → q.pending ≡ p.pending ++ sent_by (stepping said) → length p.pending < most_pending
        → q.rests ≡ p.rests → q.is_open ≡ true → Answers render w v id.0 p q
    answered p q waits room rests opened = record {
      run = one ∷ [];
      runs = runs_one w v (step_on id) (stepping said) (said, h, refl);
      own = own_one id.0 one refl;
      pushes = one_pushes id.0 one refl;
      pending = waits ∙ ap (λ l. p.pending ++ l) (sym (one_sends id.0 one refl));
      bound = inr (few_one p q waits room);
      rests = rests;
      ends = λ shut. absurd (not_both q.is_open opened shut);
    }

    -- a step behind which its connection is dropped
    abbrev pub answered_last : (u : World) (dropped : Bool) (p q : Peer) → Happens render v (disconnect_on id) u dropped
        → q.pending ≡ p.pending ++ sent_by (stepping said) → length p.pending < most_pending → q.rests ≡ p.rests
        → IsEnding (stepping said) → Answers render w u id.0 p q
    answered_last u dropped p q drops waits room rests why =
        let drop = happened v (disconnect_on id) (outcomes.Disconnected dropped) in record {
          run = one ∷ drop ∷ [];
          runs = first w v u (step_on id) (stepping said) (drop ∷ []) (said, h, refl)
              (runs_one v u (disconnect_on id) (outcomes.Disconnected dropped) (dropped, drops, refl));
          own = All-cons (λ x. served_by x.event ≡ Some id.0) one (drop ∷ []) refl (own_one id.0 drop refl);
          pushes = pushed_join id.0 (one ∷ []) (drop ∷ [])
              ∙ ap (λ l. l ++ pushed_on id.0 (drop ∷ [])) (one_pushes id.0 one refl) ∙ one_pushes id.0 drop refl;
          pending = waits ∙ ap (λ l. p.pending ++ l)
              (sym (sent_join id.0 (one ∷ []) (drop ∷ []) ∙ ap (λ l. sent_on id.0 (one ∷ []) ++ l) (one_sends id.0 drop refl)
              ∙ append-nil (sent_on id.0 (one ∷ [])) ∙ one_sends id.0 one refl));
          bound = inr (gave_before (λ o. length q.pending < most_pending + length (sent_by o)) id.0 (one ∷ []) (drop ∷ [])
              (few_one p q waits room));
          rests = rests;
          ends = λ shut. (
            gave_before IsEnding id.0 (one ∷ []) (drop ∷ []) (one, first_of id.0 one refl, why),
            disconnect_drops v u id dropped drops,
          );
        }

  -- ---- one behind the other

  abbrev pub answers_join : (page : Renders) (w v u : World) (id : ℕ) (p q r : Peer) → page ≡ render → Answers render w v id p q
      → Answers page v u id q r → Answers render w u id p r
  answers_join page w v u id p q r same a b =
      let runs : Runs render v b.run u = subst (λ x. Runs x v b.run u) same b.runs in record {
        run = a.run ++ b.run;
        runs = runs_join render w v u a.run b.run a.runs runs;
        own = All-append (λ h. served_by h.event ≡ Some id) a.run b.run a.own b.own;
        pushes = pushed_join id a.run b.run ∙ ap (λ l. l ++ pushed_on id b.run) a.pushes ∙ b.pushes;
        pending = b.pending ∙ ap (λ l. l ++ sent_on id b.run) a.pending ∙ append_assoc p.pending (sent_on id a.run) (sent_on id b.run)
            ∙ ap (λ l. p.pending ++ l) (sym (sent_join id a.run b.run));
        bound = bound_join id a.run b.run p q r a.bound b.bound;
        rests = b.rests ∙ a.rests;
        ends = λ shut. (gave_after IsEnding id a.run b.run (b.ends shut).0, (b.ends shut).1);
      }

  -- ---- with what they cost

  abbrev pub AnswersSharing : World → World → ℕ → Peer → Peer → Left → Left → Type 0
  AnswersSharing w v id p q l m = (s : Answers render w v id p q) × IsWithin s.run l m

  abbrev pub AnswersCosting : World → World → ℕ → Peer → Peer → ℕ → Type 0
  AnswersCosting w v id p q cost = (s : Answers render w v id p q) × CostsAtMost s.run cost

pub sharing_join : (render page : Renders) (w v u : World) (id : ℕ) (p q r : Peer) (l m n : Left) (cost : ℕ) → page ≡ render
    → AnswersSharing render w v id p q l m → AnswersCosting page v u id q r cost → Takes m n cost
    → AnswersSharing render w u id p r l n
sharing_join render page w v u id p q r l m n cost same a b takes = (
  answers_join render page w v u id p q r same a.0 b.0,
  within_join a.0.run b.0.run l m n a.1 (within_step b.0.run cost m n b.1 takes),
)

-- ---- how many bytes are pending in a turn

pub none_held : (xs : List ℕ) → xs ≡ [] → length xs ≤ 0
none_held xs none = omega (arith, ap length none)

pub still_room : (pending held : ℕ) → (held < most_pending → pending ≤ held) → held < 262144 → pending < most_pending
unfolding most_pending
still_room pending held known few = omega (arith, known few, few)

pub held_more : (old new n held sum : ℕ) → (held < most_pending → old ≤ held) → held < 262144 → new ≤ n + old
    → sum ≡ min (n + held) (2 ^ 64 - 1) → sum < most_pending → new ≤ sum
unfolding most_pending
held_more old new n held sum known few more is less = omega (arith, known few, few, more, is, less)
