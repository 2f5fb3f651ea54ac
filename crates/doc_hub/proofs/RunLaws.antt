-- Run noninterference: what is sent on a connection depends on its own events and on what its readers may see.
use Rattle.std.proofs.Common.{◌≡◌, ℕ, ◌+◌, List, [], ◌∷◌, ◌++◌, Bool, true, false, cond, T, refl, ap, sym, ◌∙◌, subst, arith, ◌==◌}
use Rattle.std.specs.Prelude.{All, Option, Some, None, Result, Ok, Err, nat_lt, if◌then◌else◌, flat_map, MatchBool, ⊤}
use Rattle.std.specs.FinMap as map
use Rattle.std.specs.Cmp.{unsigned_tied}
use Rattle.std.proofs.lemmas.Cmp.{nat_cmp_total}
use Rattle.std.proofs.Math.Facts.{eqb_yes}
use Rattle.std.proofs.lemmas.List.Elements.{All-head, All-tail}
use Rattle.doc_page_parts.specs.Refusals.{Gives}
use Rattle.doc_http.specs.Requests.{IsNext}
use Rattle.doc_http.specs.declared.request.Next.{Next as Front}
use Rattle.doc_http.specs.declared.request.Next.TheVariants as nexts
use Rattle.doc_http.proofs.LawLemmas.{read_in_one_way}
use Rattle.doc_hub.specs.Connections.{new_connection, pushed_onto, with_pushed, pushed_at, finished}
use Rattle.doc_hub_replies.specs.Answer.{Answer}
use Rattle.doc_hub.specs.declared.connection.Connection.{Connection}
use Rattle.doc_hub_events.specs.declared.event.ConnId.{ConnId}
use Rattle.doc_hub_events.specs.declared.event.Step.{Step}
use Rattle.doc_hub_events.specs.declared.event.Step.TheVariants as steps
use Rattle.doc_hub_events.specs.declared.refusal.ConnectError.{ConnectError}
use Rattle.doc_hub_events.specs.declared.refusal.ConnectError.TheVariants as connect_errors
use Rattle.doc_hub_events.specs.declared.refusal.PushError.{PushError}
use Rattle.doc_hub_events.specs.declared.refusal.PushError.TheVariants as push_errors
use Rattle.doc_hub_events.specs.declared.refusal.StepError.{StepError}
use Rattle.doc_hub_events.specs.declared.refusal.StepError.TheVariants as step_errors
use Rattle.doc_hub_replies.specs.Replies.{Renders}
use Rattle.doc_hub.specs.Worlds.{World, Answers, Stays, StepsAt, answer_in, disconnected, last_id, step_said, stepped_by, world_after}
use Rattle.doc_hub.specs.Worlds.{world_pushed}
use Rattle.doc_hub_events.specs.declared.event.ConnectionEvent.{ConnectionEvent}
use Rattle.doc_hub_events.specs.declared.event.ConnectionEvent.TheVariants as calls
use Rattle.doc_hub_events.specs.declared.event.Event.{Event}
use Rattle.doc_hub_events.specs.declared.event.Event.TheVariants as events
use Rattle.doc_hub_events.specs.declared.outcome.Outcome.{Outcome}
use Rattle.doc_hub_events.specs.declared.outcome.Outcome.TheVariants as outcomes
use Rattle.doc_hub_events.specs.Events.{Said, SaidOn, connecting, outcome_of, pushing, step_on, stepping}
use Rattle.doc_hub.specs.Runs.{IsOutOfMemory, Happened, Happens, HappensOn, Leaves, Runs, nothing, first, sent_by, is_on_by, is_on}
use Rattle.doc_hub.specs.Runs.{events_on}
use Rattle.doc_hub.specs.RunLaws.{AgreeAt, AgreeOnCall, Matched, RunsAlike}
use Rattle.doc_hub.specs.StepLaws.{AgreeOn, connection}
use Rattle.doc_hub.proofs.StepLaws.{answers_alike}
use Rattle.doc_hub.proofs.NextLaws.{Is, shown, Next, NextOn, NextStep, next_of}
use Rattle.doc_hub.proofs.KindSteps.{connections_stand}

-- one connection changes
put_at : (w : World) (id : ℕ) (k : Connection) (c : ℕ) (b : Bool) → (c == id) ≡ b
    → map.get (map.insert w.connections id k) c ≡ cond b (Some k) (connection c w)
put_at w id k c b e =
    map.get-insert nat_cmp_total w.connections id k c ∙ ap (λ t. cond t (Some k) (connection c w)) (unsigned_tied c id ∙ e)

-- one connection is dropped
gone_at : (w : World) (id : ℕ) (c : ℕ) (b : Bool) → (c == id) ≡ b → map.get (map.remove w.connections id) c ≡ cond b None (connection c w)
gone_at w id c b e =
    map.get-remove nat_cmp_total w.connections id c ∙ ap (λ t. cond t None (connection c w)) (unsigned_tied c id ∙ e)

module _ (render : Renders) (c : ℕ) where
  abbrev connected_if : World → Bool → World × Result ConnId ConnectError
  connected_if w t = if t then (
    record w { given = w.given + 1; connections = map.insert w.connections (w.given + 1) new_connection },
    Ok
        (record { 0 = w.given + 1 }),
  ) else (w, Err connect_errors.NoIds)

  -- what is known of an outcome is known of an equal one
  on_given : (x : World × Outcome) (v : World) (e : Event) (o : Outcome) (t : Bool) → x ≡ (v, o) → is_on_by c e o ≡ t → is_on_by c e x.1 ≡ t
  on_given x v e o t is on = ap (λ (q : World × Outcome). is_on_by c e q.1) is ∙ on

  -- ---- events elsewhere

  abbrev Kept : World → World → Type 0
  Kept w v = connection c v ≡ connection c w

  front_elsewhere : (w : World) (id : ℕ) (k : Connection) (f : Front) → (c == id) ≡ false → Kept w (stepped_by render w id k f).0
  front_elsewhere w id k nexts.More off = refl
  front_elsewhere w id k (nexts.Fault code bare) off = put_at w id (finished k 0 true) c false off
  front_elsewhere w id k (nexts.Request used request) off =
      let a = answer_in render w request in put_at (world_after w request a) id (finished k used a.closes) c false off

  -- through the equation of what is left and answered
  kept_by : {S : Type 0} (w v : World) (given : World × S) (said : S) → ◌≡◌ {A = World × S} given (v, said) → Kept w given.0 → Kept w v
  kept_by {S = S} w v given said is kept = subst (λ (q : World × S). Kept w q.0) is kept

  -- what is refused leaves the world
  kept_where_refused : (w v : World) → v ≡ w → Kept w v
  kept_where_refused w v is = ap (connection c) is

  answer_elsewhere : (w v : World) (id : ℕ) (k : Connection) (r : Result Step StepError) → (c == id) ≡ false → Answers render w id v r k
      → Kept w v
  answer_elsewhere w v id k (Ok said) off (f, is, e) = kept_by w v (stepped_by render w id k f) (Ok said) e (front_elsewhere w id k f off)
  answer_elsewhere w v id k (Err step_errors.NoConnection) off (f, is, e) =
      kept_by w v (stepped_by render w id k f) (Err step_errors.NoConnection) e (front_elsewhere w id k f off)
  answer_elsewhere w v id k (Err step_errors.Memory) off h = kept_where_refused w v h.0

  open_elsewhere : (w v : World) (id : ℕ) (k : Connection) (r : Result Step StepError) (t : Bool) → (c == id) ≡ false
      → MatchBool t (Stays w (Ok steps.Closed) v r) (Answers render w id v r k) → Kept w v
  open_elsewhere w v id k r true off h = kept_where_refused w v h.0
  open_elsewhere w v id k r false off h = answer_elsewhere w v id k r off h

  step_elsewhere : (w v : World) (id : ℕ) (k : Option Connection) (r : Result Step StepError) → (c == id) ≡ false
      → StepsAt render w id v r k → Kept w v
  step_elsewhere w v id None r off h = kept_where_refused w v h.0
  step_elsewhere w v id (Some k) r off h = open_elsewhere w v id k r k.closed off h

  connect_elsewhere : (w : World) (t : Bool) → is_on_by c events.Connect (connecting (connected_if w t).1) ≡ false
      → Kept w (connected_if w t).0
  connect_elsewhere w true off = put_at w (w.given + 1) new_connection c false off
  connect_elsewhere w false off = refl

  with_pushed_elsewhere : (w : World) (id : ℕ) (k : Connection) (r : Result (Unit {0}) PushError) → (c == id) ≡ false
      → map.get (with_pushed w.connections id k r).0 c ≡ connection c w
  with_pushed_elsewhere w id k (Ok x) off = put_at w id k c false off
  with_pushed_elsewhere w id k (Err e) off = refl

  push_elsewhere : (w : World) (id : ℕ) (bytes : List ℕ) (k : Option Connection) → (c == id) ≡ false
      → map.get (pushed_at w.connections id bytes k).0 c ≡ connection c w
  push_elsewhere w id bytes None off = refl
  push_elsewhere w id bytes (Some k) off = with_pushed_elsewhere w id _ _ off

  -- a call elsewhere keeps the connection, refused or not
  kept_given : {X E : Type 0} (memory : E) (w v : World) (given : World × Result X E) (r : Result X E) → Gives memory given w v r
      → (given.1 ≡ r → Kept w given.0) → Kept w v
  kept_given {X = X} {E = E} memory w v given (Ok x) gives kept =
      kept_by w v given (Ok x) gives (kept (ap (λ (q : World × Result X E). q.1) gives))
  kept_given memory w v given (Err e) gives kept = kept_where_refused w v gives.1

  on_elsewhere : (w : World) (id : ℕ) (call : ConnectionEvent) (v : World) (said : SaidOn call) → (c == id) ≡ false
      → HappensOn render w id call v said → Kept w v
  on_elsewhere w id (calls.Push bytes) v said off h =
      kept_given push_errors.Memory w v (world_pushed w id bytes) said h (λ is. push_elsewhere w id bytes
      (map.get w.connections id) off)
  on_elsewhere w id calls.Step v said off h = step_elsewhere w v id (map.get w.connections id) said off h
  on_elsewhere w id calls.Disconnect v said off h = kept_by w v (disconnected w id) said h (gone_at w id c false off)

  elsewhere : (w : World) (e : Event) (v : World) (said : Said e) → is_on_by c e (outcome_of e said) ≡ false → Happens render w e v said
      → Kept w v
  elsewhere w events.Connect v said off h =
      let t = nat_lt w.given last_id in
      kept_given connect_errors.Memory w v (connected_if w t) said h (λ is. connect_elsewhere w t
      (ap (λ r. is_on_by c events.Connect (connecting r)) is ∙ off))
  elsewhere w (events.On id call) v said off h = on_elsewhere w id.0 call v said off h
  elsewhere w event v said off h = ap (λ cs. map.get cs c) (connections_stand render w v event said tt h).1

  leaves_elsewhere : (w : World) (e : Event) (v : World) (o : Outcome) → is_on_by c e o ≡ false → Leaves render w e v o → Kept w v
  leaves_elsewhere w e v o off (said, h, told) = elsewhere w e v said (ap (is_on_by c e) (sym told) ∙ off) h

  -- ---- the events of c, each with the connection as it finds it

  abbrev Chain : Option Connection → List Happened → Type 0
  Chain k [] = ⊤
  Chain k (h ∷ hs) = (v : World) × (is_on c h ≡ true) × (connection c h.world ≡ k) × Next render h.world h.event v h.outcome
      × Chain (connection c v) hs

  abbrev Enough : Happened → Type 0
  Enough h = ¬ (IsOutOfMemory h.outcome)

  chain_of : (w : World) (run : List Happened) (u : World) → Runs render w run u → All Enough (events_on c run)
      → Chain (connection c w) (events_on c run)
  chain_of w run u (nothing x) enough = tt
  chain_of w run u (first x v y e o rest happens runs) enough =
      either (λ more. chain_of v rest y runs more) (is_on_by c e o) refl enough
    where
      either : (All Enough (events_on c rest) → Chain (connection c v) (events_on c rest)) → (t : Bool) → is_on_by c e o ≡ t
          → All Enough (cond t (record { world = x; event = e; outcome = o } ∷ events_on c rest) (events_on c rest))
          → Chain (connection c x) (cond t (record { world = x; event = e; outcome = o } ∷ events_on c rest) (events_on c rest))
      either chain true on enough =
          let h : Happened = record { world = x; event = e; outcome = o } in (
            v,
            on,
            refl,
            next_of render x e v o (All-head Enough h (events_on c rest) enough) happens,
            chain (All-tail Enough h (events_on c rest) enough),
          )
      either chain false off enough = subst (λ k. Chain k (events_on c rest)) (leaves_elsewhere x e v o off happens) (chain enough)

  -- ---- one event of c, in two worlds

  abbrev Same : World → World → Outcome → Outcome → Type 0
  Same v u o p = (sent_by o ≡ sent_by p) × (connection c v ≡ connection c u)

  -- what an event leaves and sends, through two equations
  same_by : (x y : World × Outcome) (v u : World) (o p : Outcome) → x ≡ (v, o) → y ≡ (u, p) → Same x.0 y.0 x.1 y.1 → Same v u o p
  same_by x y v u o p is this h = (
    sym (ap (λ (q : World × Outcome). sent_by q.1) is) ∙ h.0 ∙ ap (λ (q : World × Outcome). sent_by q.1) this,
    sym (ap (λ (q : World × Outcome). connection c q.0) is) ∙ h.1 ∙ ap (λ (q : World × Outcome). connection c q.0) this,
  )

  -- the connection after a push, by how it was
  abbrev pushed_by : Option Connection → Connection → Result (Unit {0}) PushError → Option Connection
  pushed_by before k (Ok x) = Some k
  pushed_by before k (Err e) = before

  abbrev push_result : List ℕ → Option Connection → Option Connection
  push_result bytes None = None
  push_result bytes (Some k) = let r = pushed_onto k bytes in pushed_by (Some k) r.0 r.1

  with_pushed_here : (w : World) (k new : Connection) (r : Result (Unit {0}) PushError) → (c == c) ≡ true → connection c w ≡ Some k
      → map.get (with_pushed w.connections c new r).0 c ≡ pushed_by (Some k) new r
  with_pushed_here w k new (Ok x) on is = put_at w c new c true on
  with_pushed_here w k new (Err e) on is = is

  pushed_here : (w : World) (bytes : List ℕ) (k : Option Connection) → (c == c) ≡ true → connection c w ≡ k
      → map.get (pushed_at w.connections c bytes k).0 c ≡ push_result bytes k
  pushed_here w bytes None on is = is
  pushed_here w bytes (Some k) on is = with_pushed_here w k _ _ on is

  -- the connection after an answer
  front_same : (w v : World) (k : Connection) (f : Front) → (c == c) ≡ true → connection c w ≡ connection c v → AgreeOn w v f
      → Same (stepped_by render w c k f).0 (stepped_by render v c k f).0 (stepping (stepped_by render w c k f).1)
      (stepping (stepped_by render v c k f).1)
  front_same w v k nexts.More on alike agree = (refl, alike)
  front_same w v k (nexts.Fault code bare) on alike agree = (
    refl,
    put_at w c (finished k 0 true) c true on
        ∙ sym (put_at v c (finished k 0 true) c true on),
  )
  front_same w v k (nexts.Request used request) on alike agree =
      let a = answer_in render w request in
      let b = answer_in render v request in
      let same : answer_in render w request ≡ answer_in render v request = answers_alike render w v request agree in (
        ap (λ (x : Answer). sent_by (stepping (Ok (step_said x.closes x.bytes)))) same,
        put_at (world_after w request a) c (finished k used a.closes) c true on
            ∙ ap (λ (x : Answer). Some (finished k used x.closes)) same
            ∙ sym (put_at (world_after v request b) c (finished k used b.closes) c true on),
      )

  open_same : (w v w' v' : World) (o p : Outcome) (k : Connection) (t : Bool) → (c == c) ≡ true → connection c w ≡ connection c v
      → ((f : Front) → IsNext k.unread f → AgreeOn w v f)
      → MatchBool t (Is (w, stepping (Ok steps.Closed)) w' o) ((f : Front) × IsNext k.unread f
      × Is (shown stepping (stepped_by render w c k f)) w' o)
      → MatchBool t (Is (v, stepping (Ok steps.Closed)) v' p) ((f : Front) × IsNext k.unread f
      × Is (shown stepping (stepped_by render v c k f)) v' p)
      → Same w' v' o p
  open_same w v w' v' o p k true on alike agree h g = same_by (w, stepping (Ok steps.Closed)) (v, stepping (Ok steps.Closed)) w' v' o p h g
      (refl, alike)
  open_same w v w' v' o p k false on alike agree (f, is_f, h) (d, is_d, g) =
      let P : Front → Type 0 = λ x. Is (shown stepping (stepped_by render v c k x)) v' p in
      same_by (shown stepping (stepped_by render w c k f)) (shown stepping (stepped_by render v c k f)) w' v' o p
      h (subst P (read_in_one_way k.unread d f is_d is_f) g) (front_same w v k f on alike (agree f is_f))

  step_same : (w v w' v' : World) (o p : Outcome) (k : Option Connection) → (c == c) ≡ true → connection c w ≡ k → connection c v ≡ k
      → AgreeAt c w v (step_on (record { 0 = c })) → NextStep render w c k w' o → NextStep render v c k v' p → Same w' v' o p
  step_same w v w' v' o p None on here there agree h g = same_by (w, stepping (Err step_errors.NoConnection))
      (v, stepping (Err step_errors.NoConnection)) w' v' o p h g (refl, here ∙ sym there)
  step_same w v w' v' o p (Some k) on here there agree h g = open_same w v w' v' o p k k.closed on (here ∙ sym there) (agree k here) h g

  -- a push sends nothing
  pushed_silently : (r s : Result (Unit {0}) PushError) → sent_by (pushing r) ≡ sent_by (pushing s)
  pushed_silently (Ok x) (Ok y) = refl
  pushed_silently (Ok x) (Err e) = refl
  pushed_silently (Err e) (Ok y) = refl
  pushed_silently (Err e) (Err f) = refl

  itself : (c == c) ≡ true
  itself = grind (arith)

  -- the connection that was made, of which nothing is sent
  abbrev Made : World × Outcome → Type 0
  Made x = (sent_by x.1 ≡ []) × (connection c x.0 ≡ Some new_connection)

  connect_here : (w : World) (t : Bool) → is_on_by c events.Connect (connecting (connected_if w t).1) ≡ true
      → Made (shown connecting (connected_if w t))
  connect_here w true on = (refl, put_at w (w.given + 1) new_connection c true on)
  connect_here w false on = absurd (subst T (sym on) tt)

  made : (w w' : World) (o : Outcome) → is_on_by c events.Connect o ≡ true → Next render w events.Connect w' o → Made (w', o)
  made w w' o on h =
      let t = nat_lt w.given last_id in
      subst Made h (connect_here w t (on_given (shown connecting (connected_if w t)) w' events.Connect o true h on))

  same_made : (w v w' v' : World) (o p : Outcome) → Made (w', o) → Made (v', p) → Same w' v' o p
  same_made w v w' v' o p (none, here) (nor, there) = (none ∙ sym nor, here ∙ sym there)

  same_on : (w v w' v' : World) (id : ConnId) (call : ConnectionEvent) (o p : Outcome) → (c == id.0) ≡ true
      → connection c w ≡ connection c v → AgreeOnCall c w v call → NextOn render w id.0 call w' o → NextOn render v id.0 call v' p
      → Same w' v' o p
  same_on w v w' v' id (calls.Push bytes) o p on alike agree h g = at id.0 (eqb_yes (subst T (sym on) tt)) h g
    where
      at : (n : ℕ) → c ≡ n → Is (shown pushing (world_pushed w n bytes)) w' o → Is (shown pushing (world_pushed v n bytes)) v' p
          → Same w' v' o p
      at n is = subst (λ m. Is (shown pushing (world_pushed w m bytes)) w' o → Is (shown pushing (world_pushed v m bytes)) v' p
          → Same w' v' o p) is (λ h g.
          same_by _ _ w' v' o p h g (
            pushed_silently (world_pushed w c bytes).1 (world_pushed v c bytes).1,
            pushed_here w bytes (connection c w) itself refl ∙ ap (push_result bytes) alike
                ∙ sym (pushed_here v bytes (connection c v) itself refl),
          ))
  same_on w v w' v' id calls.Step o p on alike agree h g = at id.0 (eqb_yes (subst T (sym on) tt)) h g
    where
      at : (n : ℕ) → c ≡ n → NextStep render w n (map.get w.connections n) w' o → NextStep render v n (map.get v.connections n) v' p
          → Same w' v' o p
      at n is = subst (λ m. NextStep render w m (map.get w.connections m) w' o → NextStep render v m (map.get v.connections m) v' p
          → Same w' v' o p) is (λ h g.
          step_same w v w' v' o p (connection c w) itself refl (sym alike) agree h (subst (λ k. NextStep render v c k v' p) (sym alike) g))
  same_on w v w' v' id calls.Disconnect o p on alike agree h g =
      same_by (shown outcomes.Disconnected (disconnected w id.0)) (shown outcomes.Disconnected (disconnected v id.0)) w' v' o p h g
      (refl, gone_at w id.0 c true on ∙ sym (gone_at v id.0 c true on))

  same_event : (w v w' v' : World) (e : Event) (o p : Outcome) → is_on_by c e o ≡ true → is_on_by c e p ≡ true
      → connection c w ≡ connection c v → AgreeAt c w v e → Next render w e w' o → Next render v e v' p → Same w' v' o p
  same_event w v w' v' events.Connect o p on on' alike agree h g = same_made w v w' v' o p (made w w' o on h) (made v v' p on' g)
  same_event w v w' v' (events.On id call) o p on on' alike agree h g = same_on w v w' v' id call o p on alike agree h g
  same_event w v w' v' event o p on on' alike agree h g = absurd (subst T (sym on) tt)

  same_sent : (hs gs : List Happened) (k j : Option Connection) → k ≡ j → Chain k hs → Chain j gs → Matched c hs gs
      → flat_map (λ h. sent_by h.outcome) hs ≡ flat_map (λ h. sent_by h.outcome) gs
  same_sent [] [] k j alike a b m = refl
  same_sent (h ∷ hs) [] k j alike a b m = absurd m
  same_sent [] (g ∷ gs) k j alike a b m = absurd m
  same_sent (h ∷ hs) (g ∷ gs) k j alike (v, on, at, next, chain) (u, on', at', next', chain') (same, agree, m) =
      let here = subst (λ e. is_on_by c e g.outcome ≡ true) (sym same) on' in
      let both = same_event h.world g.world v u h.event h.outcome g.outcome on here (at ∙ alike
      ∙ sym at') agree next (subst (λ e. Next render g.world e u g.outcome) (sym same) next') in
      λ i. both.0 i ++ same_sent hs gs (connection c v) (connection c u) both.1 chain chain' m i

pub runs_alike : RunsAlike
runs_alike render c w v w' v' run other alike runs runs' enough enough' m =
    same_sent render c (events_on c run) (events_on c other) (connection c w) (connection c v) alike
    (chain_of render c w run w' runs enough) (chain_of render c v other v' runs' enough') m
