-- No event makes more than one put or move.
use Rattle.std.proofs.Common.{◌≡◌, ◌≤◌, ◌+◌, ℕ, List, Bool, true, false, sym, subst, length, suc, arith}
use Rattle.std.specs.Prelude.{Option, Some, None, Result, Ok, Err, MatchBool, nat_lt, if◌then◌else◌}
use Rattle.std.specs.FinMap as map
use Rattle.doc_page_parts.specs.Refusals.{Gives}
use Rattle.doc_store_readers.specs.Pages.{Page}
use Rattle.doc_store.specs.Store.{StoreState, moved_by, put_by}
use Rattle.doc_store.specs.declared.moving.MoveError.{MoveError}
use Rattle.doc_store.specs.declared.moving.MoveError.TheVariants as move_errors
use Rattle.doc_store.specs.declared.store.EditError.{EditError}
use Rattle.doc_store.specs.declared.store.EditError.TheVariants as edit_errors
use Rattle.doc_store.proofs.StoreSteps.{taken_out}
use Rattle.doc_http.specs.declared.request.Next.{Next}
use Rattle.doc_http.specs.declared.request.Next.TheVariants as nexts
use Rattle.doc_hub.specs.Connections.{new_connection}
use Rattle.doc_hub_replies.specs.Edits.{regrouped, store_after}
use Rattle.doc_hub_events.specs.Events.{Said, SaidOn, SaidSite}
use Rattle.doc_hub.specs.FreshLaws.{PutsAreCounted}
use Rattle.doc_hub_replies.specs.Replies.{Renders}
use Rattle.doc_hub.specs.Runs.{Happens, HappensOn, HappensSite, Leaves, nothing, first}
use Rattle.doc_hub.specs.Worlds.{World, Answers, Stays, StepsAt, answer_in, connected, last_id, stepped_by, store_of, world_moved}
use Rattle.doc_hub.specs.Worlds.{may_move_beside, may_put, world_pushed, world_put}
use Rattle.doc_hub.proofs.KindSteps.{stand_beside}
use Rattle.doc_hub.specs.declared.connection.Connection.{Connection}
use Rattle.doc_hub_events.specs.declared.event.ConnId.{ConnId}
use Rattle.doc_store.specs.declared.site_edit.SiteEdit.{SiteEdit}
use Rattle.doc_store.specs.declared.site_edit.SiteEdit.TheVariants as site_edits
use Rattle.doc_hub_events.specs.declared.event.ConnectionEvent.{ConnectionEvent}
use Rattle.doc_hub_events.specs.declared.event.ConnectionEvent.TheVariants as calls
use Rattle.doc_hub_events.specs.declared.event.Event.{Event}
use Rattle.doc_hub_events.specs.declared.event.Event.TheVariants as events
use Rattle.doc_hub_events.specs.declared.event.Step.{Step}
use Rattle.doc_hub_events.specs.declared.event.Step.TheVariants as steps
use Rattle.doc_hub_events.specs.declared.outcome.Outcome.{Outcome}
use Rattle.doc_hub_events.specs.declared.refusal.ConnectError.{ConnectError}
use Rattle.doc_hub_events.specs.declared.refusal.ConnectError.TheVariants as connect_errors
use Rattle.doc_hub_events.specs.declared.refusal.PushError.TheVariants as push_errors
use Rattle.doc_hub_events.specs.declared.refusal.StepError.{StepError}
use Rattle.doc_hub_events.specs.declared.refusal.StepError.TheVariants as step_errors
use Rattle.doc_hub_replies.specs.Edit.{Edit}
use Rattle.doc_hub_replies.specs.Edit.TheVariants as edits

-- at most one more
abbrev OneMore : ℕ → ℕ → Type 0
OneMore old new = new ≤ old + 1

none_more : (n : ℕ) → OneMore n n
none_more n = omega arith

just_one : (n : ℕ) → OneMore n (n + 1)
just_one n = omega arith

removed_counts : (store : StoreState) (path : List ℕ) (stands : Bool)
    → OneMore store.puts (if stands then taken_out store path else store).puts
removed_counts store path true = none_more store.puts
removed_counts store path false = none_more store.puts

regrouped_counts : (store : StoreState) (path : List ℕ) (groups : List (List ℕ)) (found : Option Page)
    → OneMore store.puts (regrouped store path groups found).puts
regrouped_counts store path groups None = none_more store.puts
regrouped_counts store path groups (Some page) = just_one store.puts

edit_counts : (store : StoreState) (text : List ℕ) (edit : Option Edit) → OneMore store.puts (store_after store text edit).puts
edit_counts store text None = none_more store.puts
edit_counts store text (Some (edits.Put path groups)) = just_one store.puts
edit_counts store text (Some (edits.Regroup path groups)) = regrouped_counts store path groups (map.get store.site.pages path)
edit_counts store text (Some (edits.Move from to)) = just_one store.puts
edit_counts store text (Some (edits.Remove path)) = removed_counts store path (map.contains_key store.site.pages path)

put_counts : (store : StoreState) (path : List ℕ) (page : Page) (stands : Bool) (said : Result (Unit {0}) EditError)
    → OneMore store.puts (put_by store path page stands said).0.puts
put_counts store path page stands (Ok fine) = just_one store.puts
put_counts store path page stands (Err e) = none_more store.puts

move_counts : (store : StoreState) (from to : List ℕ) (said : Result (Unit {0}) MoveError)
    → OneMore store.puts (moved_by store from to said).0.puts
move_counts store from to (Ok fine) = just_one store.puts
move_counts store from to (Err e) = none_more store.puts

abbrev Counts : World → World → Type 0
Counts w v = OneMore w.puts v.puts

by_gives : {X E : Type 0} (memory : E) (given : World × Result X E) (w v : World) (r : Result X E) → Counts w given.0
    → Gives memory given w v r → Counts w v
by_gives {X = X} {E = E} memory given w v (Ok x) more gives = subst (λ (q : World × Result X E). Counts w q.0) gives more
by_gives memory given w v (Err e) more gives = subst (Counts w) (sym gives.1) (none_more w.puts)

by_equation : {S : Type 0} (given : World × S) (w v : World) (said : S) → Counts w given.0 → ◌≡◌ {A = World × S} given (v, said)
    → Counts w v
by_equation {S = S} given w v said more is = subst (λ (q : World × S). Counts w q.0) is more

by_stay : (w v : World) → v ≡ w → Counts w v
by_stay w v is = subst (Counts w) (sym is) (none_more w.puts)

abbrev pub connected_if : World → Bool → World × Result ConnId ConnectError
connected_if w t = if t then (
  record w { given = w.given + 1; connections = map.insert w.connections (w.given + 1) new_connection },
  Ok
      (record { 0 = w.given + 1 }),
) else (w, Err connect_errors.NoIds)

connect_counts : (w : World) (t : Bool) → Counts w (connected_if w t).0
connect_counts w true = none_more w.puts
connect_counts w false = none_more w.puts

module _ (render : Renders) where
  front_counts : (w : World) (n : ℕ) (c : Connection) (next : Next) → Counts w (stepped_by render w n c next).0
  front_counts w n c nexts.More = none_more w.puts
  front_counts w n c (nexts.Fault code bare) = none_more w.puts
  front_counts w n c (nexts.Request used request) = edit_counts (store_of w) request.body (answer_in render w request).edit

  answers_count : (w v : World) (n : ℕ) (c : Connection) (r : Result Step StepError) → Answers render w n v r c → Counts w v
  answers_count w v n c (Ok said) (next, is, e) = by_equation (stepped_by render w n c next) w v (Ok said) (front_counts w n c next) e
  answers_count w v n c (Err step_errors.NoConnection) (next, is, e) =
      by_equation (stepped_by render w n c next) w v (Err step_errors.NoConnection) (front_counts w n c next) e
  answers_count w v n c (Err step_errors.Memory) h = by_stay w v h.0

  open_counts : (w v : World) (n : ℕ) (c : Connection) (r : Result Step StepError) (closed : Bool)
      → MatchBool closed (Stays w (Ok steps.Closed) v r) (Answers render w n v r c) → Counts w v
  open_counts w v n c r true h = by_stay w v h.0
  open_counts w v n c r false h = answers_count w v n c r h

  step_counts : (w v : World) (n : ℕ) (k : Option Connection) (r : Result Step StepError) → StepsAt render w n v r k → Counts w v
  step_counts w v n None r h = by_stay w v h.0
  step_counts w v n (Some c) r h = open_counts w v n c r c.closed h

  on_counts : (w v : World) (n : ℕ) (call : ConnectionEvent) (said : SaidOn call) → HappensOn render w n call v said → Counts w v
  on_counts w v n (calls.Push bytes) said h = by_gives push_errors.Memory (world_pushed w n bytes) w v said (none_more w.puts) h
  on_counts w v n calls.Step said h = step_counts w v n (map.get w.connections n) said h
  on_counts w v n calls.Disconnect said h = by_equation _ w v said (none_more w.puts) h

  site_counts : (w v : World) (edit : SiteEdit) (said : SaidSite edit) → HappensSite w edit v said → Counts w v
  site_counts w v (site_edits.Put path groups text) said h =
      by_gives edit_errors.Memory (world_put w path groups text) w v said
      (put_counts (store_of w) path (record { groups = groups; text = text }) (map.contains_key w.site.pages path)
      (may_put w.media (store_of w) path text)) h
  site_counts w v (site_edits.Remove path) said h =
      by_equation _ w v said (removed_counts (store_of w) path (map.contains_key w.site.pages path)) h
  site_counts w v (site_edits.Move from to) said h =
      by_gives move_errors.Memory (world_moved w from to) w v said
      (move_counts (store_of w) from to (may_move_beside w.media (store_of w) from to)) h

  event_counts : (w v : World) (event : Event) (said : Said event) → Happens render w event v said → Counts w v
  event_counts w v events.Connect said h =
      by_gives connect_errors.Memory (connected w) w v said (connect_counts w (nat_lt w.given last_id)) h
  event_counts w v (events.On n call) said h = on_counts w v n.0 call said h
  event_counts w v (events.Site edit) said h = site_counts w v edit said h
  event_counts w v event said h = subst (OneMore w.puts) (sym (stand_beside render w v event said tt h).puts) (none_more w.puts)

pub counted : (render : Renders) (w v : World) (event : Event) (outcome : Outcome) → Leaves render w event v outcome → v.puts ≤ w.puts + 1
counted render w v event outcome (said, h, told) = event_counts render w v event said h

one_after_another : (a b c n : ℕ) → b ≤ a + 1 → c ≤ b + n → c ≤ a + suc n
one_after_another a b c n here rest = omega arith

pub puts_are_counted : PutsAreCounted
puts_are_counted render w v run (nothing x) = omega arith
puts_are_counted render w v run (first x y z event outcome rest leaves runs) =
    one_after_another x.puts y.puts z.puts (length rest) (counted render x y event outcome leaves)
    (puts_are_counted render y z rest runs)
