-- What an event of a server made: the edit that it told, or nothing.
use Rattle.std.proofs.Common.{◌≡◌, ℕ, List, [], Bool, true, false, refl, ap, sym, ◌∙◌, subst}
use Rattle.std.specs.Prelude.{MatchBool, nat_lt, Option, Some, None, Result, Ok, Err, if◌then◌else◌}
use Rattle.std.specs.FinMap as map
use Rattle.doc_page_parts.specs.Refusals.{Gives}
use Rattle.doc_store.specs.declared.site_edit.SiteEdit.{SiteEdit}
use Rattle.doc_http.specs.Requests.{IsNext}
use Rattle.doc_http.specs.declared.request.Next.{Next}
use Rattle.doc_http.specs.declared.request.Next.TheVariants as nexts
use Rattle.doc_http.proofs.LawLemmas.{read_in_one_way}
use Rattle.doc_hub.specs.Edits.{CanBeMade, store_after}
use Rattle.doc_hub.specs.Replies.{Renders}
use Rattle.doc_hub.specs.Edit.{Edit}
use Rattle.doc_hub_events.specs.Events.{Said, outcome_of, stepping}
use Rattle.doc_hub_events.specs.declared.event.ConnId.{ConnId}
use Rattle.doc_hub_events.specs.declared.event.ConnectionEvent.TheVariants as calls
use Rattle.doc_hub_events.specs.declared.event.Event.{Event}
use Rattle.doc_hub_events.specs.declared.event.Event.TheVariants as events
use Rattle.doc_hub_events.specs.declared.event.Step.{Step}
use Rattle.doc_hub_events.specs.declared.event.Step.TheVariants as steps
use Rattle.doc_hub_events.specs.declared.outcome.Outcome.{Outcome}
use Rattle.doc_hub_events.specs.declared.refusal.ConnectError.{ConnectError}
use Rattle.doc_hub_events.specs.declared.refusal.ConnectError.TheVariants as connect_errors
use Rattle.doc_hub_events.specs.declared.refusal.PushError.TheVariants as push_errors
use Rattle.doc_hub_events.specs.declared.refusal.StepError.{StepError}
use Rattle.doc_hub_events.specs.declared.refusal.StepError.TheVariants as step_errors
use Rattle.doc_hub.proofs.AnswersFree.{answer_stays_free}
use Rattle.doc_hub.proofs.Apart.{StaysFree}
use Rattle.doc_hub.proofs.AnswerEdits.{answer_can_be_made}
use Rattle.doc_hub.specs.Runs.{Happens, Leaves}
use Rattle.doc_hub.specs.StepEdits.{TellsAt, edit_of_step}
use Rattle.doc_hub.specs.Worlds.{Answers, Stays, StepsAt, World, asking_of, connected, last_id, stepped_by}
use Rattle.doc_hub.specs.Worlds.{store_of, world_pushed}
use Rattle.doc_hub.specs.declared.connection.Connection.{Connection}
use Rattle.doc_server_listen.specs.Edits.{MakesIn, edit_at}
use Rattle.doc_server_restore.specs.Restores.{unstamped}
use Rattle.doc_server_kept.specs.KeptTurns.{IsOfServer}

-- an edit that could be made, of this text, was made of the store, or nothing was
pub record WasMade (w v : World) (told : Option Edit) : Type 0 where
  pub text : List ℕ
  pub can : CanBeMade (store_of w) text told
  pub free : StaysFree w.media told
  pub state : store_of v ≡ unstamped (store_after (store_of w) text told)

-- what an event told, where it told something, and the edit that is written of it
pub record EventMade (render : Renders) (w v : World) (edit : Option SiteEdit) : Type 0 where
  pub told : Option Edit
  pub connection : Option Connection
  pub tells : TellsAt render w connection told
  pub made : WasMade w v told
  pub edit_is : edit ≡ edit_at v told

abbrev SameStore : World → World → Type 0
SameStore w v = store_of v ≡ store_of w

nothing_made : (w v : World) → SameStore w v → WasMade w v None
nothing_made w v same = record { text = []; can = tt; free = tt; state = same }

quiet : (render : Renders) (w v : World) (edit : Option SiteEdit) → SameStore w v → edit ≡ None → EventMade render w v edit
quiet render w v edit same none =
    record { told = None; connection = None; tells = refl; made = nothing_made w v same; edit_is = none }

-- ---- calls that leave the store

kept : {X E : Type 0} (memory : E) (given : World × Result X E) (w v : World) (r : Result X E) → SameStore w given.0
    → Gives memory given w v r → SameStore w v
kept {X = X} {E = E} memory given w v (Ok x) same gives = sym (ap (λ (q : World × Result X E). store_of q.0) gives) ∙ same
kept memory given w v (Err e) same gives = ap store_of gives.1

connect_keeps : (w v : World) (id : ConnId) (t : Bool) → SameStore w v
    → SameStore w (let r : World × Result ConnId ConnectError = if t then (v, Ok id) else (w, Err connect_errors.NoIds) in r.0)
connect_keeps w v id true same = same
connect_keeps w v id false same = refl

ok_err : {X E : Type 0} (x : X) (e : E) → ◌≡◌ {A = Result X E} (Ok x) (Err e) → ⊥
ok_err x e is = cc

module _ (render : Renders) (w v : World) where
  -- ---- a step that is refused

  never_refused : (n : ℕ) (c : Connection) (next : Next) (e : StepError) → (stepped_by render w n c next).1 ≡ Err e → ⊥
  never_refused n c nexts.More e is = ok_err _ e is
  never_refused n c (nexts.Fault code bare) e is = ok_err _ e is
  never_refused n c (nexts.Request used request) e is = ok_err _ e is

  refused_answer : (n : ℕ) (c : Connection) (e : StepError) → Answers render w n v (Err e) c → SameStore w v
  refused_answer n c step_errors.Memory h = ap store_of h.0
  refused_answer n c step_errors.NoConnection (next, begins, is) =
      absurd (never_refused n c next step_errors.NoConnection (ap (λ (q : World × Result Step StepError). q.1) is))

  refused_open : (n : ℕ) (c : Connection) (e : StepError) (closed : Bool)
      → MatchBool closed (Stays w (Ok steps.Closed) v (Err e)) (Answers render w n v (Err e) c) → SameStore w v
  refused_open n c e true h = ap store_of h.0
  refused_open n c e false h = refused_answer n c e h

  refused_step : (n : ℕ) (e : StepError) (k : Option Connection) → StepsAt render w n v (Err e) k → SameStore w v
  refused_step n e None h = ap store_of h.0
  refused_step n e (Some c) h = refused_open n c e c.closed h

  -- ---- a step that is answered

  next_made : (n : ℕ) (c : Connection) (next : Next) → store_of v ≡ store_of (stepped_by render w n c next).0
      → WasMade w v (edit_of_step render w next)
  next_made n c nexts.More state = nothing_made w v state
  next_made n c (nexts.Fault code bare) state = nothing_made w v state
  next_made n c (nexts.Request used request) state = record {
    text = request.body;
    can = answer_can_be_made w.takes_puts render w.settings w.media (store_of w) (asking_of w request) request;
    free = answer_stays_free render w request;
    state = state;
  }

  open_made : (n : ℕ) (c : Connection) (said : Step) (told : Option Edit) (closed : Bool)
      → MatchBool closed (Stays w (Ok steps.Closed) v (Ok said)) (Answers render w n v (Ok said) c)
      → MatchBool closed (told ≡ None) ((next : Next) × IsNext c.unread next × (told ≡ edit_of_step render w next)) → WasMade w v told
  open_made n c said told true h tells = subst (WasMade w v) (sym tells) (nothing_made w v (ap store_of h.0))
  open_made n c said told false (next, begins, is) (other, also, tells) =
      subst (WasMade w v) (ap (edit_of_step render w) (read_in_one_way c.unread next other begins also) ∙ sym tells)
      (next_made n c next (sym (ap (λ (q : World × Result Step StepError). store_of q.0) is)))

  step_made : (n : ℕ) (said : Step) (told : Option Edit) (k : Option Connection) → StepsAt render w n v (Ok said) k
      → TellsAt render w k told → WasMade w v told
  step_made n said told None h tells = subst (WasMade w v) (sym tells) (nothing_made w v (ap store_of h.0))
  step_made n said told (Some c) h tells = open_made n c said told c.closed h tells

  -- ---- each event

  stepped : (id : ConnId) (said : Result Step StepError) (edit : Option SiteEdit)
      → StepsAt render w id.0 v said (map.get w.connections id.0)
      → MakesIn render w (events.On id calls.Step) (stepping said) v edit → EventMade render w v edit
  stepped id (Ok said) edit h (told, tells, is) =
      let k : Option Connection = map.get w.connections id.0 in
      record { told = told; connection = k; tells = tells; made = step_made id.0 said told k h tells; edit_is = is }
  stepped id (Err e) edit h none = quiet render w v edit (refused_step id.0 e (map.get w.connections id.0) h) none

  happened : (event : Event) (said : Said event) (edit : Option SiteEdit) → IsOfServer event → Happens render w event v said
      → MakesIn render w event (outcome_of event said) v edit → EventMade render w v edit
  happened events.Connect said edit of_server h none =
      quiet render w v edit
      (kept connect_errors.Memory (connected w) w v said (connect_keeps w _ _ (nat_lt w.given last_id) refl) h) none
  happened (events.On id (calls.Push bytes)) said edit of_server h none =
      quiet render w v edit (kept push_errors.Memory (world_pushed w id.0 bytes) w v said refl h) none
  happened (events.On id calls.Step) said edit of_server h makes = stepped id said edit h makes
  happened (events.On id calls.Disconnect) said edit of_server h none =
      quiet render w v edit (sym (ap (λ (q : World × Bool). store_of q.0) h)) none
  happened (events.TakePuts takes) said edit of_server h none = quiet render w v edit (ap store_of h) none
  happened event said edit of_server h makes = absurd of_server

  pub event_made : (event : Event) (outcome : Outcome) (edit : Option SiteEdit) → IsOfServer event → Leaves render w event v outcome
      → MakesIn render w event outcome v edit → EventMade render w v edit
  event_made event outcome edit of_server (said, h, is) makes =
      happened event said edit of_server h (subst (λ o. MakesIn render w event o v edit) is makes)

  -- ---- each event made something, or nothing

  open_tells : (n : ℕ) (c : Connection) (said : Step) (closed : Bool)
      → MatchBool closed (Stays w (Ok steps.Closed) v (Ok said)) (Answers render w n v (Ok said) c)
      → (told : Option Edit) × MatchBool closed (told ≡ None) ((next : Next) × IsNext c.unread next × (told ≡ edit_of_step render w next))
  open_tells n c said true h = (None, refl)
  open_tells n c said false (next, begins, is) = (edit_of_step render w next, (next, begins, refl))

  step_tells : (n : ℕ) (said : Step) (k : Option Connection) → StepsAt render w n v (Ok said) k
      → (told : Option Edit) × TellsAt render w k told
  step_tells n said None h = (None, refl)
  step_tells n said (Some c) h = open_tells n c said c.closed h

  step_makes : (id : ConnId) (said : Result Step StepError) → StepsAt render w id.0 v said (map.get w.connections id.0)
      → (edit : Option SiteEdit) × MakesIn render w (events.On id calls.Step) (stepping said) v edit
  step_makes id (Ok said) h =
      let (told, tells) = step_tells id.0 said (map.get w.connections id.0) h in (edit_at v told, (told, tells, refl))
  step_makes id (Err e) h = (None, refl)

  makes : (event : Event) (said : Said event) → IsOfServer event → Happens render w event v said
      → (edit : Option SiteEdit) × MakesIn render w event (outcome_of event said) v edit
  makes events.Connect said of_server h = (None, refl)
  makes (events.On id (calls.Push bytes)) said of_server h = (None, refl)
  makes (events.On id calls.Step) said of_server h = step_makes id said h
  makes (events.On id calls.Disconnect) said of_server h = (None, refl)
  makes (events.TakePuts takes) said of_server h = (None, refl)
  makes event said of_server h = absurd of_server

  pub some_made : (event : Event) (outcome : Outcome) → IsOfServer event → Leaves render w event v outcome
      → (edit : Option SiteEdit) × EventMade render w v edit
  some_made event outcome of_server (said, h, is) =
      let (edit, made) = makes event said of_server h in (edit, happened event said edit of_server h made)
