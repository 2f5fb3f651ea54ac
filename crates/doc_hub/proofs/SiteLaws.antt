-- The site that a run leaves is that of its accepted edits.
use Rattle.std.proofs.Common.{◌≡◌, ℕ, List, [], ◌∷◌, Bool, true, false, refl, ap, sym, ◌∙◌, subst}
use Rattle.std.specs.Prelude.{nat_lt, MatchBool, Option, Some, None, option_map, Result, Ok, Err, if◌then◌else◌}
use Rattle.std.specs.FinMap as map
use Rattle.doc_page_parts.specs.Refusals.{Gives}
use Rattle.doc_store_readers.specs.Pages.{Page}
use Rattle.doc_store.specs.Store.{StoreState, set_page, remove_page, move_page, effect_of, put_by, without_page}
use Rattle.doc_store.specs.Store.{moved_by}
use Rattle.doc_store.specs.declared.moving.MoveError.{MoveError}
use Rattle.doc_store.specs.declared.moving.MoveError.TheVariants as move_errors
use Rattle.doc_store.specs.declared.store.EditError.{EditError}
use Rattle.doc_store.specs.declared.store.EditError.TheVariants as edit_errors
use Rattle.doc_store.specs.declared.store.Put.{Put}
use Rattle.doc_http.specs.Requests.{IsNext}
use Rattle.doc_http.specs.declared.request.Next.{Next}
use Rattle.doc_http.specs.declared.request.Next.TheVariants as nexts
use Rattle.doc_hub.specs.EditLaws.{SiteIsOfEdits, Makes, StepMakes, edit_by, made_if, site_after, site_after_all, site_edit, with_groups}
use Rattle.doc_hub_replies.specs.Edits.{CanBeMade, regrouped, store_after}
use Rattle.doc_hub_events.specs.Events.{Said, SaidOn, SaidSite, moving, outcome_of, outcome_of_site, outcome_on, putting, step_on, stepping}
use Rattle.doc_hub_replies.specs.Replies.{Renders}
use Rattle.doc_hub.specs.Runs.{Happens, HappensOn, HappensSite, Leaves, nothing, first}
use Rattle.doc_hub.specs.Worlds.{World, Answers, Stays, StepsAt, answer_in, asking_of, connected, last_id, stepped_by, store_of}
use Rattle.doc_hub.specs.Worlds.{may_move_beside, may_put, world_moved, world_pushed, world_put}
use Rattle.doc_hub.specs.declared.connection.Connection.{Connection}
use Rattle.doc_hub_events.specs.declared.event.ConnId.{ConnId}
use Rattle.doc_store.specs.declared.site_edit.SiteEdit.{SiteEdit}
use Rattle.doc_store.specs.declared.site_edit.SiteEdit.TheVariants as site_edits
use Rattle.doc_hub_events.specs.declared.event.ConnectionEvent.{ConnectionEvent}
use Rattle.doc_hub_events.specs.declared.event.ConnectionEvent.TheVariants as calls
use Rattle.doc_hub_events.specs.declared.event.Event.{Event}
use Rattle.doc_hub_events.specs.declared.event.Event.TheVariants as events
use Rattle.doc_hub_events.specs.declared.event.Step.{Step}
use Rattle.doc_hub_events.specs.declared.event.Step.TheVariants as steps
use Rattle.doc_hub_events.specs.declared.outcome.Outcome.{Outcome}
use Rattle.doc_hub_events.specs.declared.refusal.ConnectError.{ConnectError}
use Rattle.doc_hub_events.specs.declared.refusal.ConnectError.TheVariants as connect_errors
use Rattle.doc_hub_events.specs.declared.refusal.PushError.TheVariants as push_errors
use Rattle.doc_hub_events.specs.declared.refusal.StepError.{StepError}
use Rattle.doc_hub_events.specs.declared.refusal.StepError.TheVariants as step_errors
use Rattle.doc_hub_replies.specs.Edit.{Edit}
use Rattle.doc_hub_replies.specs.Edit.TheVariants as edits
use Rattle.doc_hub.proofs.AnswerEdits.{answer_can_be_made}
use Rattle.doc_hub.proofs.KindSteps.{stand_beside}

err_ok : {X E : Type 0} (e : E) (x : X) → ◌≡◌ {A = Result X E} (Err e) (Ok x) → ⊥
err_ok e x is = cc

ok_err : {X E : Type 0} (x : X) (e : E) → ◌≡◌ {A = Result X E} (Ok x) (Err e) → ⊥
ok_err x e is = cc

-- ---- edits of the store

removed_by : (store : StoreState) (path : List ℕ) (stands : Bool)
    → (if stands then record { site = effect_of store.site (remove_page path); stamps = map.remove store.stamps path; puts = store.puts }
    else store).site ≡ site_after store.site (made_if stands (remove_page path))
removed_by store path true = refl
removed_by store path false = refl

removed_site : (store : StoreState) (path : List ℕ) (stood : Bool) → map.contains_key store.site.pages path ≡ stood
    → (without_page store path).site ≡ site_after store.site (made_if stood (remove_page path))
removed_site store path stood is = removed_by store path (map.contains_key store.site.pages path)
    ∙ ap (λ t. site_after store.site (made_if t (remove_page path))) is

-- other groups, for a page or for none
regrouped_site : (store : StoreState) (path : List ℕ) (groups : List (List ℕ)) (found : Option Page)
    → (regrouped store path groups found).site ≡ site_after store.site (option_map (with_groups path groups) found)
regrouped_site store path groups None = refl
regrouped_site store path groups (Some page) = refl

-- the edit of a request that can be made is that of the site
pub made_site : (store : StoreState) (text : List ℕ) (edit : Option Edit) → CanBeMade store text edit
    → (store_after store text edit).site ≡ site_after store.site (site_edit store.site text edit)
made_site store text None can = refl
made_site store text (Some (edits.Put path groups)) can = refl
made_site store text (Some (edits.Regroup path groups)) can = regrouped_site store path groups (map.get store.site.pages path)
made_site store text (Some (edits.Move from to)) can = refl
made_site store text (Some (edits.Remove path)) can = removed_site store path true can

put_site : (store : StoreState) (path : List ℕ) (page : Page) (stands : Bool) (r : Result (Unit {0}) EditError) (done : Put)
    → (put_by store path page stands r).1 ≡ Ok done → (put_by store path page stands r).0.site ≡ effect_of store.site (set_page path page)
put_site store path page stands (Ok fine) done is = refl
put_site store path page stands (Err e) done is = absurd (err_ok e done is)

moved_site : (store : StoreState) (from to : List ℕ) (r : Result (Unit {0}) MoveError) → (moved_by store from to r).1 ≡ Ok tt
    → (moved_by store from to r).0.site ≡ effect_of store.site (move_page from to)
moved_site store from to (Ok fine) is = refl
moved_site store from to (Err e) is = absurd (err_ok e tt is)

-- ---- events

-- the event makes an edit, and leaves the site that the edit makes
abbrev Edits : Renders → World → World → Event → Outcome → Type 0
Edits render w v event outcome = (edit : Option SiteEdit) × Makes render w event outcome edit
    × (v.site ≡ site_after w.site edit)

abbrev SameSite : World → World → Type 0
SameSite v w = v.site ≡ w.site

-- the site is as before, where the call leaves it or is refused
kept : {X E : Type 0} (memory : E) (given : World × Result X E) (w v : World) (r : Result X E) → SameSite given.0 w
    → Gives memory given w v r → SameSite v w
kept {X = X} {E = E} memory given w v (Ok x) same gives = sym (ap (λ (q : World × Result X E). q.0.site) gives) ∙ same
kept memory given w v (Err e) same gives = ap (λ (x : World). x.site) gives.1

connect_keeps : (w v : World) (id : ConnId) (t : Bool) → SameSite v w
    → SameSite (let r : World × Result ConnId ConnectError = if t then (v, Ok id) else (w, Err connect_errors.NoIds) in r.0) w
connect_keeps w v id true same = same
connect_keeps w v id false same = refl

module _ (render : Renders) where
  -- ---- a step

  next_site : (w : World) (n : ℕ) (c : Connection) (next : Next)
      → (stepped_by render w n c next).0.site ≡ site_after w.site (edit_by render w next)
  next_site w n c nexts.More = refl
  next_site w n c (nexts.Fault code bare) = refl
  next_site w n c (nexts.Request used request) =
      made_site (store_of w) request.body (answer_in render w request).edit
      (answer_can_be_made w.takes_puts render w.settings w.media (store_of w) (asking_of w request) request)

  open_edits : (w v : World) (n : ℕ) (c : Connection) (said : Step) (closed : Bool)
      → MatchBool closed (Stays w (Ok steps.Closed) v (Ok said)) (Answers render w n v (Ok said) c)
      → (edit : Option SiteEdit) × MatchBool closed (edit ≡ None) ((next : Next) × IsNext c.unread next × (edit ≡ edit_by render w next))
      × (v.site ≡ site_after w.site edit)
  open_edits w v n c said true h = (None, refl, ap (λ (x : World). x.site) h.0)
  open_edits w v n c said false (next, is, e) =
      (edit_by render w next, (next, is, refl), sym (ap (λ (q : World × Result Step StepError). q.0.site) e) ∙ next_site w n c next)

  step_edits : (w v : World) (n : ℕ) (said : Step) (k : Option Connection) → StepsAt render w n v (Ok said) k
      → (edit : Option SiteEdit) × StepMakes render w k edit × (v.site ≡ site_after w.site edit)
  step_edits w v n said None h = (None, refl, ap (λ (x : World). x.site) h.0)
  step_edits w v n said (Some c) h = open_edits w v n c said c.closed h

  -- a refused step leaves the site
  never_refused : (w : World) (n : ℕ) (c : Connection) (next : Next) (e : StepError) → (stepped_by render w n c next).1 ≡ Err e → ⊥
  never_refused w n c nexts.More e is = ok_err _ e is
  never_refused w n c (nexts.Fault code bare) e is = ok_err _ e is
  never_refused w n c (nexts.Request used request) e is = ok_err _ e is

  refused_answer : (w v : World) (n : ℕ) (c : Connection) (e : StepError) → Answers render w n v (Err e) c → SameSite v w
  refused_answer w v n c step_errors.Memory h = ap (λ (x : World). x.site) h.0
  refused_answer w v n c step_errors.NoConnection (next, is, e) =
      absurd (never_refused w n c next step_errors.NoConnection (ap (λ (q : World × Result Step StepError). q.1) e))

  refused_open : (w v : World) (n : ℕ) (c : Connection) (e : StepError) (closed : Bool)
      → MatchBool closed (Stays w (Ok steps.Closed) v (Err e)) (Answers render w n v (Err e) c) → SameSite v w
  refused_open w v n c e true h = ap (λ (x : World). x.site) h.0
  refused_open w v n c e false h = refused_answer w v n c e h

  pub refused_step : (w v : World) (n : ℕ) (e : StepError) (k : Option Connection) → StepsAt render w n v (Err e) k → SameSite v w
  refused_step w v n e None h = ap (λ (x : World). x.site) h.0
  refused_step w v n e (Some c) h = refused_open w v n c e c.closed h

  stepping_edits : (w v : World) (id : ConnId) (r : Result Step StepError) → StepsAt render w id.0 v r (map.get w.connections id.0)
      → Edits render w v (step_on id) (stepping r)
  stepping_edits w v id (Ok said) h = step_edits w v id.0 said (map.get w.connections id.0) h
  stepping_edits w v id (Err e) h = (None, refl, refused_step w v id.0 e (map.get w.connections id.0) h)

  -- ---- edits beside requests

  put_edits : (w v : World) (path : List ℕ) (groups : List (List ℕ)) (text : List ℕ) (r : Result Put EditError)
      → Gives edit_errors.Memory (world_put w path groups text) w v r
      → Edits render w v (events.Site (site_edits.Put path groups text)) (putting r)
  put_edits w v path groups text (Ok done) gives =
      let page : Page = record { groups = groups; text = text } in (
        Some (set_page path page),
        refl,
        sym (ap (λ (q : World × Result Put EditError). q.0.site) gives)
            ∙ put_site (store_of w) path page (map.contains_key w.site.pages path) (may_put w.media (store_of w) path text) done
            (ap (λ (q : World × Result Put EditError). q.1) gives),
      )
  put_edits w v path groups text (Err e) gives = (None, refl, ap (λ (x : World). x.site) gives.1)

  move_edits : (w v : World) (from to : List ℕ) (r : Result (Unit {0}) MoveError) → Gives move_errors.Memory (world_moved w from to) w v r
      → Edits render w v (events.Site (site_edits.Move from to)) (moving r)
  move_edits w v from to (Ok done) gives = (
    Some (move_page from to),
    refl,
    sym (ap (λ (q : World × Result (Unit {0}) MoveError). q.0.site) gives)
        ∙ moved_site (store_of w) from to (may_move_beside w.media (store_of w) from to)
        (ap (λ (q : World × Result (Unit {0}) MoveError). q.1) gives),
  )
  move_edits w v from to (Err e) gives = (None, refl, ap (λ (x : World). x.site) gives.1)

  -- ---- each event

  on_edits : (w v : World) (id : ConnId) (call : ConnectionEvent) (said : SaidOn call) → HappensOn render w id.0 call v said
      → Edits render w v (events.On id call) (outcome_on call said)
  on_edits w v id (calls.Push bytes) said h = (None, refl, kept push_errors.Memory (world_pushed w id.0 bytes) w v said refl h)
  on_edits w v id calls.Step said h = stepping_edits w v id said h
  on_edits w v id calls.Disconnect said h = (None, refl, sym (ap (λ (q : World × Bool). q.0.site) h))

  site_edits_of : (w v : World) (edit : SiteEdit) (said : SaidSite edit) → HappensSite w edit v said
      → Edits render w v (events.Site edit) (outcome_of_site edit said)
  site_edits_of w v (site_edits.Put path groups text) said h = put_edits w v path groups text said h
  site_edits_of w v (site_edits.Remove path) said h = (
    made_if said (remove_page path),
    refl,
    sym (ap (λ (q : World × Bool). q.0.site) h)
        ∙ removed_site (store_of w) path said (ap (λ (q : World × Bool). q.1) h),
  )
  site_edits_of w v (site_edits.Move from to) said h = move_edits w v from to said h

  event_edits : (w v : World) (event : Event) (said : Said event) → Happens render w event v said
      → Edits render w v event (outcome_of event said)
  event_edits w v events.Connect said h =
      (None, refl, kept connect_errors.Memory (connected w) w v said (connect_keeps w _ _ (nat_lt w.given last_id) refl) h)
  event_edits w v (events.On id call) said h = on_edits w v id call said h
  event_edits w v (events.Site edit) said h = site_edits_of w v edit said h
  event_edits w v event said h = (None, refl, (stand_beside render w v event said tt h).site)

  leaves_edits : (w v : World) (event : Event) (outcome : Outcome) → Leaves render w event v outcome → Edits render w v event outcome
  leaves_edits w v event outcome (said, h, told) = subst (λ o. Edits render w v event o) (sym told) (event_edits w v event said h)

pub site_is_of_edits : SiteIsOfEdits
site_is_of_edits render w v run (nothing x) = ([], tt, refl)
site_is_of_edits render w v run (first x y z event outcome rest leaves runs) =
    let (edit, makes, here) = leaves_edits render x y event outcome leaves in
    let (made, all, after) = site_is_of_edits render y z rest runs in
    (edit ∷ made, (makes, all), after ∙ ap (λ site. site_after_all site made) here)
