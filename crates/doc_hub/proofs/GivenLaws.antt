-- A number that was given and has no connection has none after any run.
use Rattle.std.proofs.Common.{◌≡◌, ◌≤◌, ◌+◌, ℕ, List, Bool, true, false, cond, T, refl, ap, sym, ◌∙◌, subst, arith, ◌==◌}
use Rattle.std.specs.Prelude.{Option, Some, None, Result, Ok, Err, MatchBool, nat_lt, if◌then◌else◌}
use Rattle.std.specs.FinMap as map
use Rattle.std.specs.Cmp.{unsigned_tied}
use Rattle.std.proofs.Math.Facts.{eqb_yes}
use Rattle.std.proofs.lemmas.Bool.Decides.{nat_tests}
use Rattle.std.proofs.lemmas.Cmp.{nat_cmp_total}
use Rattle.doc_page_parts.specs.Refusals.{Gives}
use Rattle.doc_http.specs.declared.request.Next.{Next as Front}
use Rattle.doc_http.specs.declared.request.Next.TheVariants as nexts
use Rattle.doc_hub.specs.Connections.{new_connection, pushed_at, pushed_onto, with_pushed, finished}
use Rattle.doc_hub_events.specs.Events.{Said, SaidOn}
use Rattle.doc_hub.specs.ConnectionLaws.{NumbersAreGivenOnce}
use Rattle.doc_hub.specs.StepLaws.{connection}
use Rattle.doc_hub_replies.specs.Replies.{Renders}
use Rattle.doc_hub.specs.Runs.{Happens, HappensOn, Happened, Runs, nothing, first}
use Rattle.doc_hub.specs.Worlds.{World, connected, world_pushed, answer_in, world_after}
use Rattle.doc_hub.specs.Worlds.{stepped_by, Stays, Answers, StepsAt, last_id}
use Rattle.doc_hub.specs.declared.connection.Connection.{Connection}
use Rattle.doc_hub_events.specs.declared.event.ConnId.{ConnId}
use Rattle.doc_hub_events.specs.declared.event.ConnectionEvent.{ConnectionEvent}
use Rattle.doc_hub_events.specs.declared.event.ConnectionEvent.TheVariants as calls
use Rattle.doc_hub_events.specs.declared.event.Event.{Event}
use Rattle.doc_hub_events.specs.declared.event.Event.TheVariants as events
use Rattle.doc_hub_events.specs.declared.event.Step.{Step}
use Rattle.doc_hub_events.specs.declared.event.Step.TheVariants as steps
use Rattle.doc_hub_events.specs.declared.refusal.ConnectError.{ConnectError}
use Rattle.doc_hub_events.specs.declared.refusal.ConnectError.TheVariants as connect_errors
use Rattle.doc_hub_events.specs.declared.refusal.PushError.{PushError}
use Rattle.doc_hub_events.specs.declared.refusal.PushError.TheVariants as push_errors
use Rattle.doc_hub_events.specs.declared.refusal.StepError.{StepError}
use Rattle.doc_hub_events.specs.declared.refusal.StepError.TheVariants as step_errors
use Rattle.doc_hub.proofs.ConnectionSteps.{some_none}
use Rattle.doc_hub.proofs.KindSteps.{connections_stand}

module _ (id : ℕ) where
  -- the number was given, and has no connection
  abbrev Gone : World → Type 0
  Gone w = (id ≤ w.given) × (connection id w ≡ None)

  by_gives : {X E : Type 0} (memory : E) (given : World × Result X E) (w v : World) (r : Result X E) → Gone w → Gone given.0
      → Gives memory given w v r → Gone v
  by_gives {X = X} {E = E} memory given w v (Ok x) before after gives = subst (λ (q : World × Result X E). Gone q.0) gives after
  by_gives memory given w v (Err e) before after gives = subst Gone (sym gives.1) before

  by_equation : {S : Type 0} (given : World × S) (v : World) (said : S) → Gone given.0 → ◌≡◌ {A = World × S} given (v, said) → Gone v
  by_equation {S = S} given v said after is = subst (λ (q : World × S). Gone q.0) is after

  -- another number's connection is set
  set_other : (w : World) (n : ℕ) (k : Connection) (given : ℕ) → id ≤ given → connection id w ≡ None → (id == n) ≡ false
      → Gone (record w { given = given; connections = map.insert w.connections n k })
  set_other w n k given fits none apart = (
    fits,
    map.get-insert nat_cmp_total w.connections n k id ∙ ap (λ t. cond t (Some k) (connection id w)) (unsigned_tied id n ∙ apart)
        ∙ none,
  )

  -- a number with a connection is another one
  apart_at : (w : World) (n : ℕ) (c : Connection) (t : Bool) → connection id w ≡ None → map.get w.connections n ≡ Some c → (id == n) ≡ t
      → (id == n) ≡ false
  apart_at w n c false none found is = is
  apart_at w n c true none found is =
      let same : id ≡ n = eqb_yes (subst T (sym is) tt) in
      absurd (some_none c (sym found ∙ ap (map.get w.connections) (sym same) ∙ none))

  apart : (w : World) (n : ℕ) (c : Connection) → connection id w ≡ None → map.get w.connections n ≡ Some c → (id == n) ≡ false
  apart w n c none found = apart_at w n c (id == n) none found refl

  -- ---- each call

  abbrev connected_if : World → Bool → World × Result ConnId ConnectError
  connected_if w t = if t then (
    record w { given = w.given + 1; connections = map.insert w.connections (w.given + 1) new_connection },
    Ok
        (record { 0 = w.given + 1 }),
  ) else (w, Err connect_errors.NoIds)

  one_more : (w : World) (t : Bool) → Gone w → Gone (connected_if w t).0
  one_more w true (fits, none) = set_other w (w.given + 1) new_connection (w.given + 1) (omega arith) none (grind (arith, nat_tests))
  one_more w false gone = gone

  with_pushed_gone : (w : World) (n : ℕ) (k : Connection) (r : Result (Unit {0}) PushError) → Gone w → (id == n) ≡ false
      → Gone (record w { connections = (with_pushed w.connections n k r).0 })
  with_pushed_gone w n k (Ok x) gone other = set_other w n k w.given gone.0 gone.1 other
  with_pushed_gone w n k (Err e) gone other = gone

  pushed_gone : (w : World) (n : ℕ) (bytes : List ℕ) (k : Option Connection) → Gone w → map.get w.connections n ≡ k
      → Gone (record w { connections = (pushed_at w.connections n bytes k).0 })
  pushed_gone w n bytes None gone found = gone
  pushed_gone w n bytes (Some c) gone found = with_pushed_gone w n (pushed_onto c bytes).0 (pushed_onto c bytes).1 gone
      (apart w n c gone.1 found)

  module _ (render : Renders) where
    front_gone : (w : World) (n : ℕ) (c : Connection) (next : Front) → Gone w → (id == n) ≡ false → Gone (stepped_by render w n c next).0
    front_gone w n c nexts.More gone other = gone
    front_gone w n c (nexts.Fault code bare) gone other = set_other w n (finished c 0 true) w.given gone.0 gone.1 other
    front_gone w n c (nexts.Request used request) gone other =
        let a = answer_in render w request in set_other (world_after w request a) n (finished c used a.closes) w.given gone.0 gone.1 other

    answers_gone : (w v : World) (n : ℕ) (c : Connection) (r : Result Step StepError) → Gone w → (id == n) ≡ false
        → Answers render w n v r c → Gone v
    answers_gone w v n c (Ok said) gone other (next, is, e) = by_equation (stepped_by render w n c next) v (Ok said)
        (front_gone w n c next gone other) e
    answers_gone w v n c (Err step_errors.NoConnection) gone other (next, is, e) = by_equation (stepped_by render w n c next) v
        (Err step_errors.NoConnection) (front_gone w n c next gone other) e
    answers_gone w v n c (Err step_errors.Memory) gone other (same, why) = subst Gone (sym same) gone

    open_gone : (w v : World) (n : ℕ) (c : Connection) (r : Result Step StepError) (closed : Bool) → Gone w → (id == n) ≡ false
        → MatchBool closed (Stays w (Ok steps.Closed) v r) (Answers render w n v r c) → Gone v
    open_gone w v n c r true gone other h = subst Gone (sym h.0) gone
    open_gone w v n c r false gone other h = answers_gone w v n c r gone other h

    step_gone : (w v : World) (n : ℕ) (k : Option Connection) (r : Result Step StepError) → Gone w → map.get w.connections n ≡ k
        → StepsAt render w n v r k → Gone v
    step_gone w v n None r gone found h = subst Gone (sym h.0) gone
    step_gone w v n (Some c) r gone found h = open_gone w v n c r c.closed gone (apart w n c gone.1 found) h

    dropped_gone : (w : World) (n : ℕ) → Gone w → Gone (record w { connections = map.remove w.connections n })
    dropped_gone w n (fits, none) =
        (fits, map.get-remove nat_cmp_total w.connections n id ∙ none_twice _ _ none)
      where
        none_twice : (b : Bool) (k : Option Connection) → k ≡ None → cond b None k ≡ None
        none_twice true k is = refl
        none_twice false k is = is

    on_gone : (w v : World) (n : ℕ) (call : ConnectionEvent) (said : SaidOn call) → Gone w → HappensOn render w n call v said → Gone v
    on_gone w v n (calls.Push bytes) said gone h = by_gives push_errors.Memory (world_pushed w n bytes) w v said gone
        (pushed_gone w n bytes (map.get w.connections n) gone refl) h
    on_gone w v n calls.Step said gone h = step_gone w v n (map.get w.connections n) said gone refl h
    on_gone w v n calls.Disconnect said gone h = by_equation _ v said (dropped_gone w n gone) h

    event_gone : (w v : World) (event : Event) (said : Said event) → Gone w → Happens render w event v said → Gone v
    event_gone w v events.Connect said gone h = by_gives connect_errors.Memory (connected w) w v said gone
        (one_more w (nat_lt w.given last_id) gone) h
    event_gone w v (events.On n call) said gone h = on_gone w v n.0 call said gone h
    event_gone w v event said gone h =
        let (given, same) = connections_stand render w v event said tt h in
        (subst (λ n. id ≤ n) (sym given) gone.0, ap (λ cs. map.get cs id) same ∙ gone.1)

    run_gone : (w v : World) (run : List Happened) → Gone w → Runs render w run v → Gone v
    run_gone w v run gone (nothing x) = gone
    run_gone w v run gone (first x y z event outcome rest (said, h, told) runs) = run_gone y z rest (event_gone x y event said gone h) runs

pub given_once : NumbersAreGivenOnce
given_once render w v run id fits none runs = (run_gone id render w v run (fits, none) runs).1
