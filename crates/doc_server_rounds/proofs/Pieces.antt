-- What the parts of a pass do to a link: a call of its stream, an event of its connection, and its close.
use Rattle.std.proofs.Common.{arith, T, ◌≤◌, zero, suc}
use Rattle.std.proofs.Common.{◌≡◌, ◌<◌, ℕ, List, [], ◌∷◌, ◌++◌, Bool, true, false, refl, sym, ap, ◌∙◌, subst, inl, inr, append-nil, take}
use Rattle.std.specs.Prelude.{Contains, MatchBool, Option, Some, None, Ok, Err, ◌⊎◌}
use Rattle.std.specs.Io.KnownBytes.{Appends, Consumes, IsAtEnd, Keeps}
use Rattle.std.proofs.KnownBytes.{Appends-nil, Consumes-nil, Consumes-kept}
use Rattle.std.proofs.lemmas.List.Elements.{All-nil, All-cons, All-append, Contains-push}
use Rattle.doc_hub_events.specs.Events.{disconnect_on, push_on, pushing, step_on, stepping}
use Rattle.doc_hub.specs.Replies.{Renders}
use Rattle.doc_hub.specs.Runs.{Happens, Happened, Leaves, Runs, nothing, first, events_on, sent_by, sent_on}
use Rattle.doc_hub.specs.StepLaws.{connection}
use Rattle.doc_hub.specs.Worlds.{World}
use Rattle.doc_hub_events.specs.declared.event.ConnId.{ConnId}
use Rattle.doc_hub_events.specs.declared.event.Event.{Event}
use Rattle.doc_hub_events.specs.declared.event.Step.TheVariants as steps
use Rattle.doc_hub_events.specs.declared.outcome.Outcome.{Outcome}
use Rattle.doc_hub_events.specs.declared.outcome.Outcome.TheVariants as outcomes
use Rattle.doc_hub_events.specs.declared.refusal.PushError.{PushError}
use Rattle.doc_hub_events.specs.declared.refusal.PushError.TheVariants as push_errors
use Rattle.doc_hub_events.specs.declared.refusal.StepError.TheVariants as step_errors
use Rattle.doc_server_streams.specs.Moves.{IsDry}
use Rattle.doc_server_streams.specs.Streams.{one_more}
use Rattle.doc_server_rounds.specs.Peers.{Peer, Suits, is_open_in}
use Rattle.doc_server_rounds.specs.declared.phase.Phase.{Phase}
use Rattle.doc_server_rounds.specs.declared.phase.Phase.TheVariants as phases
use Rattle.doc_server_rounds.specs.Sending.{HasFault, IsSent, IsCutOff}
use Rattle.doc_hub.specs.RunParts.{served_by, AreOf, pushed_by, pushed_on}
use Rattle.doc_server_rounds.specs.Served.{IsLast, IsMore, IsShut, TakesIn, GivesOut, Closes, Serves}
use Rattle.doc_server_rounds.proofs.Connections.{disconnect_drops, push_refused, push_finds_shut, push_leaves_open}
use Rattle.doc_server_rounds.proofs.Connections.{reply_takes, more_leaves, memory_leaves, step_finds_closed, step_finds_none}
use Rattle.doc_hub.proofs.RunParts.{pushed_join, sent_join, one_on, one_pushes, one_sends, runs_join}
use Rattle.doc_server_rounds.proofs.RoundLaws.{goes_on, comes_to_end, why_before}

-- the input of a link stays as it was
pub record IsAlike (p q : Peer) : Type 0 where
  pub id : q.id ≡ p.id
  pub stalls : q.stalls ≡ p.stalls
  pub unread : q.unread ≡ p.unread
  pub pending : q.pending ≡ p.pending

nothing_in : (p q : Peer) → IsAlike p q → TakesIn p q []
nothing_in p q same = (
  [],
  subst (λ l. Consumes p.unread l []) (sym same.unread) (Consumes-nil p.unread),
  append-nil p.pending ∙ sym same.pending,
)

nothing_out : (p q : Peer) → q.written ≡ p.written → Appends p.written q.written []
nothing_out p q same = subst (λ l. Appends p.written l []) (sym same) (Appends-nil p.written)

none_shut : (w v : World) (c : ℕ) → v ≡ w → IsShut v c → IsShut w c
none_shut w v c same shut = subst (λ x. IsShut x c) same shut

abbrev happened : World → Event → Outcome → Happened
happened w event outcome = record { world = w; event = event; outcome = outcome }

module _ (render : Renders) where
  -- ---- no event: the stream alone

  pub quiet : (w : World) (p q : Peer) → p.is_open ≡ true → q.is_open ≡ true → q.id ≡ p.id → q.stalls ≡ p.stalls → TakesIn p q []
      → q.written ≡ p.written → Serves render w p w q
  quiet w p q opened stays id stalls takes same = record {
    run = [];
    runs = nothing w;
    own = All-nil (λ h. served_by h.event ≡ Some p.id);
    served = goes_on p.id w w p q [] opened stays id stalls takes (nothing_out p q same) (λ shut. shut);
  }

  -- ---- one event

  module _ (w v : World) (p q : Peer) (event : Event) (outcome : Outcome) (of : served_by event ≡ Some p.id)
      (leaves : Leaves render w event v outcome) where
    abbrev run : List Happened
    run = happened w event outcome ∷ []

    pub one_event : p.is_open ≡ true → q.is_open ≡ true → q.id ≡ p.id → q.stalls ≡ p.stalls → TakesIn p q (pushed_by event outcome)
        → Appends p.written q.written (sent_by outcome) → (IsShut v p.id → IsShut w p.id) → Serves render w p v q
    one_event opened stays id stalls takes gives shut = record {
      run = run;
      runs = first w v v event outcome [] leaves (nothing v);
      own = All-cons (λ h. served_by h.event ≡ Some p.id) (happened w event outcome) [] of (All-nil (λ h. served_by h.event ≡ Some p.id));
      served = goes_on p.id w v p q run opened stays id stalls
          (subst (TakesIn p q) (sym (one_pushes p.id (happened w event outcome) of)) takes)
          (subst (Appends p.written q.written) (sym (one_sends p.id (happened w event outcome) of)) gives) shut;
    }

  -- ---- the disconnect, behind a run on the connection

  module _ (w v u : World) (p q : Peer) (xs : List Happened) (id : ConnId) (said : Bool) (own : id.0 ≡ p.id)
      (runs : Runs render w xs v) (all : AreOf p.id xs) (drops : Happens render v (disconnect_on id) u said) where
    abbrev drop_one : Happened
    drop_one = happened v (disconnect_on id) (outcomes.Disconnected said)

    on_own : served_by (disconnect_on id) ≡ Some p.id
    on_own = ap Some own

    abbrev ys : List Happened
    ys = drop_one ∷ []

    same_pushed : pushed_on p.id xs ≡ pushed_on p.id (xs ++ ys)
    same_pushed = sym (pushed_join p.id xs ys ∙ ap (λ l. pushed_on p.id xs ++ l) (one_pushes p.id drop_one on_own)
        ∙ append-nil (pushed_on p.id xs))

    same_sent : sent_on p.id xs ≡ sent_on p.id (xs ++ ys)
    same_sent = sym (sent_join p.id xs ys ∙ ap (λ l. sent_on p.id xs ++ l) (one_sends p.id drop_one on_own)
        ∙ append-nil (sent_on p.id xs))

    pub drops_link : p.is_open ≡ true → q.is_open ≡ false → q.id ≡ p.id → q.stalls ≡ p.stalls → TakesIn p q (pushed_on p.id xs)
        → GivesOut p q (sent_on p.id xs) → Closes p.id w xs q → Serves render w p u q
    drops_link opened shut id_same stalls takes gives why = record {
      run = xs ++ ys;
      runs = runs_join render w v u xs ys runs (first v u u (disconnect_on id) (outcomes.Disconnected said) [] (said, drops, refl)
          (nothing u));
      own = All-append (λ h. served_by h.event ≡ Some p.id) xs ys all
          (All-cons (λ h. served_by h.event ≡ Some p.id) drop_one [] on_own (All-nil (λ h. served_by h.event ≡ Some p.id)));
      served = comes_to_end p.id w u p q (xs ++ ys) opened shut id_same stalls (subst (TakesIn p q) same_pushed takes)
          (subst (GivesOut p q) same_sent gives) (why_before p.id w q xs ys why)
          (subst (λ c. connection c u ≡ None) own (disconnect_drops render v u id said drops));
    }

  -- a link closes behind one event
  module _ (w v u : World) (p q : Peer) (event : Event) (outcome : Outcome) (id : ConnId) (said : Bool) (own : id.0 ≡ p.id)
      (of : served_by event ≡ Some p.id) (leaves : Leaves render w event v outcome)
      (drops : Happens render v (disconnect_on id) u said) where
    abbrev before : List Happened
    before = happened w event outcome ∷ []

    abbrev first_on : Contains (events_on p.id before) (happened w event outcome)
    first_on =
        subst (λ l. Contains l (happened w event outcome)) (sym (one_on p.id (happened w event outcome) of))
        (Contains-push [] (happened w event outcome))

    pub closes_after : p.is_open ≡ true → q.is_open ≡ false → IsAlike p q → pushed_by event outcome ≡ []
        → GivesOut p q (sent_by outcome)
        → IsLast outcome ⊎ (HasFault q.failed q.stalls ⊎ ((IsAtEnd q.unread × IsMore outcome) ⊎ IsShut w p.id)) → Serves render w p u q
    closes_after opened shut same none gives why =
        drops_link w v u p q before id said own (first w v v event outcome [] leaves (nothing v))
        (All-cons (λ h. served_by h.event ≡ Some p.id) (happened w event outcome) [] of (All-nil (λ h. served_by h.event ≡ Some p.id)))
        drops opened shut same.id same.stalls
        (subst (TakesIn p q) (sym (one_pushes p.id (happened w event outcome) of ∙ none)) (nothing_in p q same))
        (subst (GivesOut p q) (sym (one_sends p.id (happened w event outcome) of)) gives)
        (because why)
      where
        because : IsLast outcome ⊎ (HasFault q.failed q.stalls ⊎ ((IsAtEnd q.unread × IsMore outcome) ⊎ IsShut w p.id))
            → Closes p.id w before q
        because (inl last) = inl (happened w event outcome, first_on, last)
        because (inr (inl fault)) = inr (inl fault)
        because (inr (inr (inl (dry, more)))) = inr (inr (inl (dry, (happened w event outcome, first_on, more))))
        because (inr (inr (inr none))) = inr (inr (inr none))

-- ---- each arm of a push and of a step

module _ (render : Renders) (w v : World) (p q : Peer) (id : ConnId) (own : id.0 ≡ p.id) (opened : p.is_open ≡ true) where
  -- the pending bytes went to the hub
  pub push_taken : (bytes : List ℕ) → Happens render w (push_on id bytes) v (Ok tt) → q.is_open ≡ true → q.id ≡ p.id
      → q.stalls ≡ p.stalls → q.unread ≡ p.unread → q.written ≡ p.written → p.pending ≡ bytes → q.pending ≡ [] → Serves render w p v q
  push_taken bytes h stays same stalls unread written all none =
      one_event render w v p q (push_on id bytes) outcomes.Pushed (ap Some own) (Ok tt, h, refl) opened stays same stalls (
        [],
        subst (λ l. Consumes p.unread l []) (sym unread) (Consumes-nil p.unread),
        append-nil p.pending ∙ all ∙ sym (append-nil bytes) ∙ ap (λ l. bytes ++ l) (sym none),
      )
      (nothing_out p q written)
      (λ shut. absurd (push_leaves_open render w v id bytes h (subst (IsShut v) (sym own) shut)))

  none_pushed : (bytes : List ℕ) (e : PushError) → pushed_by (push_on id bytes) (pushing (Err e)) ≡ []
  none_pushed bytes e = refl

  -- they stay pending
  pub push_kept : (bytes : List ℕ) (e : PushError) → Happens render w (push_on id bytes) v (Err e) → q.is_open ≡ true → IsAlike p q
      → q.written ≡ p.written → Serves render w p v q
  push_kept bytes e h stays same written =
      one_event render w v p q (push_on id bytes) (pushing (Err e)) (ap Some own) (Err e, h, refl) opened stays same.id same.stalls
      (nothing_in p q same) (nothing_out p q written) (none_shut w v p.id (push_refused render w v id bytes e h))

  pub replied : (bytes : List ℕ) → Happens render w (step_on id) v (Ok (steps.Sent bytes)) → q.is_open ≡ true → IsAlike p q
      → Appends p.written q.written bytes → Serves render w p v q
  replied bytes h stays same gives =
      one_event render w v p q (step_on id) (outcomes.Stepped (steps.Sent bytes)) (ap Some own) (Ok (steps.Sent bytes), h, refl)
      opened stays same.id same.stalls (nothing_in p q same) gives
      (λ shut. absurd ((reply_takes render w v id bytes h).1 (subst (IsShut v) (sym own) shut)))

  pub found_more : Happens render w (step_on id) v (Ok steps.More) → q.is_open ≡ true → IsAlike p q → q.written ≡ p.written
      → Serves render w p v q
  found_more h stays same written =
      one_event render w v p q (step_on id) (outcomes.Stepped steps.More) (ap Some own) (Ok steps.More, h, refl)
      opened stays same.id same.stalls (nothing_in p q same) (nothing_out p q written)
      (none_shut w v p.id (more_leaves render w v id h))

  pub found_no_memory : Happens render w (step_on id) v (Err step_errors.Memory) → q.is_open ≡ true → IsAlike p q
      → q.written ≡ p.written → Serves render w p v q
  found_no_memory h stays same written =
      one_event render w v p q (step_on id) (stepping (Err step_errors.Memory)) (ap Some own) (Err step_errors.Memory, h, refl)
      opened stays same.id same.stalls (nothing_in p q same) (nothing_out p q written)
      (none_shut w v p.id (memory_leaves render w v id h))

module _ (render : Renders) (w v u : World) (p q : Peer) (id : ConnId) (said : Bool) (own : id.0 ≡ p.id) (opened : p.is_open ≡ true)
    (drops : Happens render v (disconnect_on id) u said) (shut : q.is_open ≡ false) (same : IsAlike p q) where
  pub push_closes : (bytes : List ℕ) (e : PushError) → (e ≡ push_errors.Memory → ⊥) → (e ≡ push_errors.Backlog → ⊥)
      → Happens render w (push_on id bytes) v (Err e) → q.written ≡ p.written → Serves render w p u q
  push_closes bytes e other more h written =
      closes_after render w v u p q (push_on id bytes) (pushing (Err e)) id said own (ap Some own) (Err e, h, refl) drops opened shut
      same refl (inl (nothing_out p q written))
      (inr (inr (inr (subst (IsShut w) own (push_finds_shut render w v id bytes e other more h)))))

  pub closed_step : Happens render w (step_on id) v (Ok steps.Closed) → q.written ≡ p.written → Serves render w p u q
  closed_step h written =
      closes_after render w v u p q (step_on id) (outcomes.Stepped steps.Closed) id said own (ap Some own)
      (Ok steps.Closed, h, refl) drops opened shut same refl (inl (nothing_out p q written))
      (inr (inr (inr (subst (IsShut w) own (step_finds_closed render w v id h)))))

  pub missing_step : Happens render w (step_on id) v (Err step_errors.NoConnection) → q.written ≡ p.written → Serves render w p u q
  missing_step h written =
      closes_after render w v u p q (step_on id) (stepping (Err step_errors.NoConnection)) id said own (ap Some own)
      (Err step_errors.NoConnection, h, refl) drops opened shut same refl (inl (nothing_out p q written))
      (inr (inr (inr (subst (IsShut w) own (step_finds_none render w v id h)))))

  -- its input has ended, or its stream moves no byte
  end_why : IsDry q.unread q.stalls → HasFault q.failed q.stalls
      ⊎ ((IsAtEnd q.unread × IsMore (outcomes.Stepped steps.More)) ⊎ IsShut w p.id)
  end_why (inl dry) = inr (inl (dry, tt))
  end_why (inr stalls) = inl (inr stalls)

  pub ended : (stepped : ConnId) → stepped.0 ≡ p.id → Happens render w (step_on stepped) v (Ok steps.More) → q.written ≡ p.written
      → IsDry q.unread q.stalls → Serves render w p u q
  ended stepped of h written dry =
      closes_after render w v u p q (step_on stepped) (outcomes.Stepped steps.More) id said own (ap Some of)
      (Ok steps.More, h, refl) drops opened shut same refl (inl (nothing_out p q written)) (inr (end_why dry))

  pub reply_cut : (bytes : List ℕ) → Happens render w (step_on id) v (Ok (steps.Sent bytes))
      → IsCutOff p.written q.written bytes q.failed q.stalls → Serves render w p u q
  reply_cut bytes h (gives, why) =
      closes_after render w v u p q (step_on id) (outcomes.Stepped (steps.Sent bytes)) id said own (ap Some own)
      (Ok (steps.Sent bytes), h, refl) drops opened shut same refl (inr (shut, why, gives)) (inr (inl why))

  last_out : (bytes : List ℕ) (sent : Bool)
      → MatchBool sent (IsSent p.written q.written bytes q.failed) (IsCutOff p.written q.written bytes q.failed q.stalls)
      → GivesOut p q bytes
  last_out bytes true (gives, fine) = inl gives
  last_out bytes false (gives, why) = inr (shut, why, gives)

  pub last_reply : (bytes : List ℕ) (sent : Bool) → Happens render w (step_on id) v (Ok (steps.Last bytes))
      → MatchBool sent (IsSent p.written q.written bytes q.failed) (IsCutOff p.written q.written bytes q.failed q.stalls)
      → Serves render w p u q
  last_reply bytes sent h gives =
      closes_after render w v u p q (step_on id) (outcomes.Stepped (steps.Last bytes)) id said own (ap Some own)
      (Ok (steps.Last bytes), h, refl) drops opened shut same refl (last_out bytes sent gives) (inl tt)

-- ---- a link that nothing was done to, and reads

pub is_itself : (p : Peer) → IsAlike p p
is_itself p = record { id = refl; stalls = refl; unread = refl; pending = refl }

pub nothing_done : (render : Renders) (w : World) (p : Peer) → p.is_open ≡ true → Serves render w p w p
nothing_done render w p opened = quiet render w p p opened opened refl refl (nothing_in p p (is_itself p)) refl

-- a read where nothing was pending
pub read_some : (render : Renders) (w : World) (p q : Peer) (given : List ℕ) → p.is_open ≡ true → q.is_open ≡ true → q.id ≡ p.id
    → q.stalls ≡ p.stalls → Consumes p.unread q.unread given → p.pending ≡ [] → q.pending ≡ given → q.written ≡ p.written
    → Serves render w p w q
read_some render w p q given opened stays id stalls takes none all same =
    quiet render w p q opened stays id stalls (given, takes, ap (λ l. l ++ given) none ∙ sym all) same

-- a read that failed
pub read_failed : (render : Renders) (w u : World) (p q : Peer) (id : ConnId) (said : Bool) → id.0 ≡ p.id
    → Happens render w (disconnect_on id) u said → p.is_open ≡ true → q.is_open ≡ false → q.id ≡ p.id → q.stalls ≡ p.stalls
    → Keeps p.unread q.unread → q.pending ≡ p.pending → q.written ≡ p.written → 0 < q.failed → Serves render w p u q
read_failed render w u p q id said own drops opened shut same stalls keeps pending written failed =
    drops_link render w w u p q [] id said own (nothing w) (All-nil (λ h. served_by h.event ≡ Some p.id)) drops opened shut same stalls (
      [],
      Consumes-kept p.unread p.unread q.unread [] (Consumes-nil p.unread) keeps,
      append-nil p.pending ∙ sym pending,
    )
    (inl (nothing_out p q written)) (inr (inl (inl failed)))

-- a link whose stream is as it was
pub still : (render : Renders) (w : World) (p q : Peer) → p.is_open ≡ true → q.is_open ≡ true → IsAlike p q → q.written ≡ p.written
    → Serves render w p w q
still render w p q opened stays same written =
    quiet render w p q opened stays same.id same.stalls (nothing_in p q same) written

pub take_none : (n : ℕ) (xs : List ℕ) → n ≤ 0 → take n xs ≡ []
take_none zero xs none = refl
take_none (suc n) xs none = absurd (omega (arith, none))

-- a link that is open has no failed call
pub open_is_fine : (phase : Phase) (unread : Option (List ℕ)) (stalls : Bool) (failed : ℕ) → Suits phase unread stalls failed
    → is_open_in phase ≡ true → failed ≡ 0
open_is_fine phases.Reads unread stalls failed suits opened = suits
open_is_fine phases.Waits unread stalls failed suits opened = suits
open_is_fine phases.Ends unread stalls failed suits opened = suits.0
open_is_fine phases.Closed unread stalls failed suits opened = absurd (subst T (sym opened) tt)

-- the first failure is counted
pub fault_counts : (old new : ℕ) → old ≡ 0 → new ≡ one_more old → 0 < new
fault_counts old new none counts =
    let first : new ≡ 1 = counts ∙ ap one_more none in
    omega (arith, first)

pub missing_apart : (push_errors.NoConnection ≡ push_errors.Memory → ⊥) × (push_errors.NoConnection ≡ push_errors.Backlog → ⊥)
missing_apart = ((λ e. cc), (λ e. cc))

pub closed_apart : (push_errors.Closed ≡ push_errors.Memory → ⊥) × (push_errors.Closed ≡ push_errors.Backlog → ⊥)
closed_apart = ((λ e. cc), (λ e. cc))
