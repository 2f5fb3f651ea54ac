-- A run of the demonstration from its parts.
use Rattle.std.proofs.Common.{◌≡◌, ℕ, List, ◌∷◌, refl, ap, subst, ◌∙◌, inl, inr, ◌<◌, length}
use Rattle.std.specs.Prelude.{Option, Some, None, IfSome, Result, Ok, Err}
use Rattle.std.specs.Io.KnownBytes.{Appends}
use Rattle.doc_hub.specs.Connections.{backlog_limit}
use Rattle.doc_hub.specs.Replies.{Renders}
use Rattle.doc_hub.specs.Worlds.{World, connected, last_id}
use Rattle.doc_hub.specs.Runs.{Happens, Happened, first}
use Rattle.doc_hub_events.specs.Events.{push_on}
use Rattle.doc_hub_events.specs.declared.event.Event.TheVariants as events
use Rattle.doc_hub_events.specs.declared.outcome.Outcome.TheVariants as outcomes
use Rattle.doc_hub_events.specs.declared.event.ConnId.{ConnId}
use Rattle.doc_hub_events.specs.declared.refusal.ConnectError.{ConnectError}
use Rattle.doc_server_streams.specs.declared.fault.Fault.{Fault}
use Rattle.doc_server_streams.specs.declared.fault.Fault.TheVariants as faults
use Rattle.doc_server.specs.DemoSite.{demo_world}
use Rattle.doc_server.specs.Demo.{AreReplies, RunSends, StopsDemo}
use Rattle.doc_server.specs.DemoSteps.{StepsSend, StopsReplies}
use Rattle.doc_server_streams.specs.Streams.{AppendsPrefix}

-- the connection that the demonstration makes
abbrev one : ConnId
one = record { 0 = 1 }

number_or : ConnId → World × Result ConnId ConnectError → ConnId
number_or id (w, Ok given) = given
number_or id (w, Err e) = id

first_given : (w : World) (id : ConnId) → connected demo_world ≡ (w, Ok id) → one ≡ id
unfolding demo_world last_id number_or
first_given w id is = ap (number_or id) is

module _ (render : Renders) (w1 w2 : World) (bytes : List ℕ) (Goes : ℕ → List Happened → Type 0) (Grows : List ℕ → Type 0) where
  from_first : (w3 : World) → Happens render demo_world events.Connect w1 (Ok one) → Happens render w1 (push_on one bytes) w2 (Ok tt)
      → StepsSend render w2 1 w3 (Goes 1) Grows
      → RunSends render (Some bytes) (Goes 1) Grows
  from_first w3 made taken (rest, runs, goes, grows) =
      let a : Happened = record { world = demo_world; event = events.Connect; outcome = outcomes.Conn one } in
      let b : Happened = record { world = w1; event = push_on one bytes; outcome = outcomes.Pushed } in (
        bytes,
        a ∷ b ∷ rest,
        rest,
        w3,
        refl,
        first demo_world w1 w3 events.Connect (outcomes.Conn one) (b ∷ rest) (Ok one, made, refl)
            (first w1 w2 w3 (push_on one bytes) outcomes.Pushed rest (Ok tt, taken, refl) runs),
        (a, b, refl, (refl, refl), (refl, refl)),
        goes,
        grows,
      )

  from_number : (w3 : World) (id : ConnId) → one ≡ id → Happens render demo_world events.Connect w1 (Ok id)
      → Happens render w1 (push_on id bytes) w2 (Ok tt)
      → StepsSend render w2 id.0 w3 (Goes id.0) Grows → RunSends render (Some bytes) (Goes 1) Grows
  from_number w3 id is =
      subst (λ (n : ConnId). Happens render demo_world events.Connect w1 (Ok n) → Happens render w1 (push_on n bytes) w2 (Ok tt)
      → StepsSend render w2 n.0 w3 (Goes n.0) Grows → RunSends render (Some bytes) (Goes 1) Grows) is
      (from_first w3)

  pub opened : (p1 p2 : Renders) (w0 w3 : World) (id : ConnId) → p1 ≡ render → p2 ≡ p1 → w0 ≡ demo_world
      → Happens render w0 events.Connect w1 (Ok id) → Happens p1 w1 (push_on id bytes) w2 (Ok tt)
      → StepsSend p2 w2 id.0 w3 (Goes id.0) Grows
      → RunSends render (Some bytes) (Goes 1) Grows
  opened p1 p2 w0 w3 id e1 e2 is made taken sent =
      let made_there = subst (λ w. Happens render w events.Connect w1 (Ok id)) is made in
      from_number w3 id (first_given w1 id made_there) made_there taken
      (subst (λ (p : Renders). StepsSend p w2 id.0 w3 (Goes id.0) Grows) (e2 ∙ e1) sent)

-- what stops the replies stops the demonstration
pub stopped : (render p1 p2 : Renders) (w0 w1 w2 : World) (id : ConnId) (bytes : List ℕ) (old new : Option (List ℕ)) (fault : Fault)
    → p1 ≡ render → p2 ≡ p1 → w0 ≡ demo_world
    → Happens render w0 events.Connect w1 (Ok id) → Happens p1 w1 (push_on id bytes) w2 (Ok tt) → StopsReplies p2 w2 id.0 old new fault
    → StopsDemo render (Some bytes) old new fault
stopped render p1 p2 w0 w1 w2 id bytes old new faults.Usage e1 e2 is made taken stops = stops
stopped render p1 p2 w0 w1 w2 id bytes old new faults.Config e1 e2 is made taken stops = stops
stopped render p1 p2 w0 w1 w2 id bytes old new faults.BadTable e1 e2 is made taken stops = stops
stopped render p1 p2 w0 w1 w2 id bytes old new faults.UnknownToken e1 e2 is made taken stops = stops
stopped render p1 p2 w0 w1 w2 id bytes old new faults.Socket e1 e2 is made taken stops = stops
stopped render p1 p2 w0 w1 w2 id bytes old new (faults.BadScriptLine line) e1 e2 is made taken stops = stops
stopped render p1 p2 w0 w1 w2 id bytes old new (faults.CannotRead name) e1 e2 is made taken stops = absurd stops
stopped render p1 p2 w0 w1 w2 id bytes old new faults.Refused e1 e2 is made taken stops = absurd stops
stopped render p1 p2 w0 w1 w2 id bytes old new faults.CannotWrite e1 e2 is made taken (v, sent) =
    opened render w1 w2 bytes AreReplies (AppendsPrefix old new) p1 p2 w0 v id e1 e2 is made taken sent
stopped render p1 p2 w0 w1 w2 id bytes old new faults.Memory e1 e2 is made taken (v, sent) =
    inr (opened render w1 w2 bytes AreReplies (Appends old new) p1 p2 w0 v id e1 e2 is made taken sent)

-- the same by the renderer before, and of an input of which the bytes are all
pub of_all : (render page : Renders) (bytes : List ℕ) (input : Option (List ℕ)) (Goes : List Happened → Type 0) (Grows : List ℕ → Type 0)
    → page ≡ render → IfSome input (λ left. bytes ≡ left) → RunSends page (Some bytes) Goes Grows → RunSends render input Goes Grows
of_all render page bytes input Goes Grows same all shown = by_input input all
    (subst (λ (p : Renders). RunSends p (Some bytes) Goes Grows) same shown)
  where
    by_input : (input : Option (List ℕ)) → IfSome input (λ left. bytes ≡ left) → RunSends render (Some bytes) Goes Grows
        → RunSends render input Goes Grows
    by_input None all (these, run, rest, v, is, runs, opens, goes, grows) = (these, run, rest, v, tt, runs, opens, goes, grows)
    by_input (Some xs) all (these, run, rest, v, is, runs, opens, goes, grows) = (these, run, rest, v, is ∙ all, runs, opens, goes, grows)

too_long : (bytes : List ℕ) (input : Option (List ℕ)) → IfSome input (λ left. bytes ≡ left) → backlog_limit < length bytes
    → IfSome input (λ left. backlog_limit < length left)
too_long bytes None all long = tt
too_long bytes (Some left) all long = subst (λ xs. backlog_limit < length xs) all long

pub stops_of_all : (render page : Renders) (bytes : List ℕ) (input old new : Option (List ℕ)) (fault : Fault) → page ≡ render
    → IfSome input (λ left. bytes ≡ left)
    → StopsDemo page (Some bytes) old new fault → StopsDemo render input old new fault
stops_of_all render page bytes input old new faults.Usage same all stops = stops
stops_of_all render page bytes input old new faults.Config same all stops = stops
stops_of_all render page bytes input old new faults.BadTable same all stops = stops
stops_of_all render page bytes input old new faults.UnknownToken same all stops = stops
stops_of_all render page bytes input old new faults.Socket same all stops = stops
stops_of_all render page bytes input old new (faults.BadScriptLine line) same all stops = stops
stops_of_all render page bytes input old new (faults.CannotRead name) same all stops = stops
stops_of_all render page bytes input old new faults.Refused same all (long, keeps) = (too_long bytes input all long, keeps)
stops_of_all render page bytes input old new faults.CannotWrite same all stops = of_all render page bytes input (AreReplies 1)
    (AppendsPrefix old new) same all stops
stops_of_all render page bytes input old new faults.Memory same all (inl keeps) = inl keeps
stops_of_all render page bytes input old new faults.Memory same all (inr stops) = inr
    (of_all render page bytes input (AreReplies 1) (Appends old new) same all stops)
