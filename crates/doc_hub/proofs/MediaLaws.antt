-- In any run the media stand until others are set, and no page comes to the path of one.
use Rattle.std.proofs.Common.{◌≡◌, ℕ, List, ◌∷◌, Bool, true, false, is_some, refl, ap, sym, ◌∙◌, subst}
use Rattle.std.specs.Prelude.{MatchBool, Option, Some, None, Result, Ok, Err, All, nat_lt}
use Rattle.std.specs.FinMap as map
use Rattle.std.specs.Cmp.Lexicographic.{slice_cmp}
use Rattle.std.specs.Ordering.{nat_cmp}
use Rattle.std.proofs.lemmas.List.Elements.{All-nil, All-cons, All-head, All-tail}
use Rattle.doc_store_readers.specs.Maps.{TextMap}
use Rattle.doc_store_readers.specs.Pages.{Page}
use Rattle.doc_store.specs.Store.{fits_in, moved_by, put_by}
use Rattle.doc_store.specs.declared.moving.MoveError.{MoveError}
use Rattle.doc_store.specs.declared.moving.MoveError.TheVariants as move_errors
use Rattle.doc_store.specs.declared.site_edit.SiteEdit.{SiteEdit}
use Rattle.doc_store.specs.declared.site_edit.SiteEdit.TheVariants as site_edits
use Rattle.doc_store.specs.declared.store.EditError.{EditError}
use Rattle.doc_store.specs.declared.store.EditError.TheVariants as edit_errors
use Rattle.doc_media.specs.Media.{Media}
use Rattle.doc_http.specs.declared.request.Next.{Next}
use Rattle.doc_http.specs.declared.request.Next.TheVariants as nexts
use Rattle.doc_hub_replies.specs.Edits.{CanBeMade}
use Rattle.doc_hub_replies.specs.Replies.{Renders}
use Rattle.doc_hub_replies.specs.Edit.{Edit}
use Rattle.doc_hub_replies.specs.Edit.TheVariants as edits
use Rattle.doc_hub_events.specs.Events.{Said, SaidOn, SaidSite}
use Rattle.doc_hub_events.specs.declared.event.ConnectionEvent.{ConnectionEvent}
use Rattle.doc_hub_events.specs.declared.event.ConnectionEvent.TheVariants as calls
use Rattle.doc_hub_events.specs.declared.event.Event.{Event}
use Rattle.doc_hub_events.specs.declared.event.Event.TheVariants as events
use Rattle.doc_hub_events.specs.declared.event.Step.{Step}
use Rattle.doc_hub_events.specs.declared.event.Step.TheVariants as steps
use Rattle.doc_hub_events.specs.declared.refusal.ConnectError.TheVariants as connect_errors
use Rattle.doc_hub_events.specs.declared.refusal.PushError.TheVariants as push_errors
use Rattle.doc_hub_events.specs.declared.refusal.StepError.{StepError}
use Rattle.doc_hub_events.specs.declared.refusal.StepError.TheVariants as step_errors
use Rattle.doc_hub_events.specs.declared.refusal.MediaSetError.TheVariants as media_errors
use Rattle.doc_hub.specs.MediaLaws.{KeepsMedia, MediaStandApart}
use Rattle.doc_hub.specs.Runs.{Happened, Happens, HappensOn, HappensSite, Runs, nothing, first}
use Rattle.doc_hub.specs.Worlds.{Answers, IsApart, Stays, StepsAt, World, answer_in, are_apart, asking_of, world_media_set, connected, disconnected, has_medium}
use Rattle.doc_hub.specs.Worlds.{last_id}
use Rattle.doc_hub.specs.Worlds.{may_move_beside, may_put, new_world, stepped_by, store_of, world_moved, world_pushed, world_put}
use Rattle.doc_hub.specs.Worlds.{world_removed}
use Rattle.doc_hub.specs.declared.connection.Connection.{Connection}
use Rattle.doc_hub.proofs.AnswerEdits.{answer_can_be_made}
use Rattle.doc_hub.proofs.AnswersFree.{answer_stays_free}
use Rattle.doc_hub.proofs.Apart.{StandsThere, apart_of, edit_apart, move_apart, move_is_free, put_apart, put_is_free, removed_apart}
use Rattle.doc_hub.proofs.KindSteps.{by_equation, by_gives, leaves_all_but_readers, media_set_if}
use Rattle.doc_hub.proofs.PutCounts.{connected_if}

-- the media are those of a first world, where none were set; and no path is both one of theirs and a page's or an alias, where that is so
-- there
record HasMedia (unset : Type 0) (start w : World) : Type 0 where
  stand : unset → w.media ≡ start.media
  apart : IsApart start.site start.media → IsApart w.site w.media

put_keeps : (w : World) (path : List ℕ) (page : Page) (stands : Bool) (said : Result (Unit {0}) EditError)
    → may_put w.media (store_of w) path page.text ≡ said → IsApart w.site w.media
    → IsApart (put_by (store_of w) path page stands said).0.site w.media
put_keeps w path page stands (Ok fine) is apart =
    put_apart w.media w.site path page (put_is_free (has_medium w.media path) (fits_in (store_of w) path page.text) is).0 apart
put_keeps w path page stands (Err e) is apart = apart

move_keeps : (w : World) (from to : List ℕ) (said : Result (Unit {0}) MoveError) → may_move_beside w.media (store_of w) from to ≡ said
    → IsApart w.site w.media
    → IsApart (moved_by (store_of w) from to said).0.site w.media
move_keeps w from to (Ok fine) is apart =
    let free = move_is_free (map.contains_key w.site.pages from) (map.contains_key w.site.pages to) (has_medium w.media to) _ w.puts is in
    move_apart w.media w.site from to free.0 free.1 apart
move_keeps w from to (Err e) is apart = apart

-- a page that is moved stands there
moved_stands : (w : World) (text : List ℕ) (edit : Option Edit) → CanBeMade (store_of w) text edit → StandsThere w.site edit
moved_stands w text None can = tt
moved_stands w text (Some (edits.Put path groups)) can = tt
moved_stands w text (Some (edits.Regroup path groups)) can = tt
moved_stands w text (Some (edits.Move from to)) can = can.stands
moved_stands w text (Some (edits.Remove path)) can = tt

module _ (render : Renders) (start : World) (unset : Type 0) where
  abbrev Has : World → Type 0
  Has w = HasMedia unset start w

  -- all but the site and the media is another's
  has_so : (w v : World) → v.media ≡ w.media → v.site ≡ w.site → Has w → Has v
  has_so w v same also has = record {
    stand = λ none. same ∙ has.stand none;
    apart = λ apart. subst (IsApart v.site) (sym same) (subst (λ site. IsApart site w.media) (sym also) (has.apart apart));
  }

  connect_keeps : (w : World) (t : Bool) → Has w → Has (connected_if w t).0
  connect_keeps w true has = has_so w _ refl refl has
  connect_keeps w false has = has

  front_keeps : (w : World) (n : ℕ) (k : Connection) (next : Next) → Has w → Has (stepped_by render w n k next).0
  front_keeps w n k nexts.More has = has
  front_keeps w n k (nexts.Fault code bare) has = has_so w _ refl refl has
  front_keeps w n k (nexts.Request used request) has =
      let edit = (answer_in render w request).edit in
      let can = answer_can_be_made w.takes_puts render w.settings w.media (store_of w) (asking_of w request) request in
      record {
        stand = has.stand;
        apart = λ apart. edit_apart w.media (store_of w) request.body edit (answer_stays_free render w request)
            (moved_stands w request.body edit can) (has.apart apart);
      }

  answers_keep : (w v : World) (n : ℕ) (k : Connection) (r : Result Step StepError) → Has w → Answers render w n v r k → Has v
  answers_keep w v n k (Ok said) has (next, is, e) =
      by_equation Has (stepped_by render w n k next) v (Ok said) (front_keeps w n k next has) e
  answers_keep w v n k (Err step_errors.NoConnection) has (next, is, e) =
      by_equation Has (stepped_by render w n k next) v (Err step_errors.NoConnection) (front_keeps w n k next has) e
  answers_keep w v n k (Err step_errors.Memory) has h = subst Has (sym h.0) has

  open_keeps : (w v : World) (n : ℕ) (k : Connection) (r : Result Step StepError) (closed : Bool) → Has w
      → MatchBool closed (Stays w (Ok steps.Closed) v r) (Answers render w n v r k) → Has v
  open_keeps w v n k r true has h = subst Has (sym h.0) has
  open_keeps w v n k r false has h = answers_keep w v n k r has h

  step_keeps : (w v : World) (n : ℕ) (k : Option Connection) (r : Result Step StepError) → Has w → StepsAt render w n v r k → Has v
  step_keeps w v n None r has h = subst Has (sym h.0) has
  step_keeps w v n (Some k) r has h = open_keeps w v n k r k.closed has h

  on_keeps : (w v : World) (n : ℕ) (call : ConnectionEvent) (said : SaidOn call) → Has w → HappensOn render w n call v said → Has v
  on_keeps w v n (calls.Push bytes) said has h =
      by_gives Has push_errors.Memory (world_pushed w n bytes) w v said has (has_so w (world_pushed w n bytes).0 refl refl has) h
  on_keeps w v n calls.Step said has h = step_keeps w v n (map.get w.connections n) said has h
  on_keeps w v n calls.Disconnect said has h =
      by_equation Has (disconnected w n) v said (has_so w (disconnected w n).0 refl refl has) h

  site_keeps : (w v : World) (edit : SiteEdit) (said : SaidSite edit) → Has w → HappensSite w edit v said → Has v
  site_keeps w v (site_edits.Put path groups text) said has h =
      by_gives Has edit_errors.Memory (world_put w path groups text) w v said has (record {
        stand = has.stand;
        apart = λ apart. put_keeps w path (record { groups = groups; text = text }) (map.contains_key w.site.pages path)
            (may_put w.media (store_of w) path text) refl (has.apart apart);
      }) h
  site_keeps w v (site_edits.Remove path) said has h =
      by_equation Has (world_removed w path) v said (record {
        stand = has.stand;
        apart = λ apart. removed_apart w.media (store_of w) path (map.contains_key w.site.pages path) (has.apart apart);
      }) h
  site_keeps w v (site_edits.Move from to) said has h =
      by_gives Has move_errors.Memory (world_moved w from to) w v said has (record {
        stand = has.stand;
        apart = λ apart. move_keeps w from to (may_move_beside w.media (store_of w) from to) refl (has.apart apart);
      }) h

  -- media are set that have no path of the site's
  set_keeps : (w : World) (media : Media) (apart : Bool) → are_apart w.site media ≡ apart → (unset → ⊥) → Has w
      → Has (media_set_if w media apart).0
  set_keeps w media true is set has = record { stand = λ none. absurd (set none); apart = λ _. apart_of w.site media is }
  set_keeps w media false is set has = has

  event_keeps : (w v : World) (event : Event) (said : Said event) → (unset → KeepsMedia event) → Has w → Happens render w event v said
      → Has v
  event_keeps w v events.Connect said none has h =
      by_gives Has connect_errors.Memory (connected w) w v said has (connect_keeps w (nat_lt w.given last_id) has) h
  event_keeps w v (events.On id call) said none has h = on_keeps w v id.0 call said has h
  event_keeps w v (events.Site edit) said none has h = site_keeps w v edit said has h
  event_keeps w v (events.Reader edit) said none has h =
      let same = leaves_all_but_readers w v edit said h in
      has_so w v (ap (λ (x : World). x.media) same) (ap (λ (x : World). x.site) same) has
  event_keeps w v (events.TakePuts takes) said none has h =
      has_so w v (ap (λ (x : World). x.media) h) (ap (λ (x : World). x.site) h) has
  event_keeps w v (events.SetMedia media) said none has h =
      by_gives Has media_errors.Memory (world_media_set w media) w v said has (set_keeps w media (are_apart w.site media) refl none has) h

  -- none of these events sets media, where none were set
  abbrev AreKeeping : List Happened → Type 0
  AreKeeping run = unset → All (λ h. KeepsMedia h.event) run

  first_keeps : (h : Happened) (rest : List Happened) → AreKeeping (h ∷ rest) → unset → KeepsMedia h.event
  first_keeps h rest all none = All-head (λ (x : Happened). KeepsMedia x.event) h rest (all none)

  rest_keeps : (h : Happened) (rest : List Happened) → AreKeeping (h ∷ rest) → AreKeeping rest
  rest_keeps h rest all none = All-tail (λ (x : Happened). KeepsMedia x.event) h rest (all none)

  run_keeps : (w v : World) (run : List Happened) → AreKeeping run → Has w → Runs render w run v → Has v
  run_keeps w v run all has (nothing x) = has
  run_keeps w v run all has (first x y z event outcome rest (said, h, told) runs) =
      let here : Happened = record { world = x; event = event; outcome = outcome } in
      run_keeps y z rest (rest_keeps here rest all) (event_keeps x y event said (first_keeps here rest all) has h) runs

  all_keep : (w v : World) (run : List Happened) → AreKeeping run → Has w → Runs render w run v → All (λ h. Has h.world) run
  all_keep w v run all has (nothing x) = All-nil (λ (h : Happened). Has h.world)
  all_keep w v run all has (first x y z event outcome rest (said, h, told) runs) =
      let here : Happened = record { world = x; event = event; outcome = outcome } in
      All-cons (λ (h : Happened). Has h.world) here rest has
      (all_keep y z rest (rest_keeps here rest all) (event_keeps x y event said (first_keeps here rest all) has h) runs)

at_start : (unset : Type 0) (w : World) → HasMedia unset w w
at_start unset w = record { stand = λ none. refl; apart = λ apart. apart }

-- of whether media are set nothing is asked
module _ (render : Renders) (w v : World) (run : List Happened) (runs : Runs render w run v) where
  stays_apart : IsApart w.site w.media → IsApart v.site v.media
  stays_apart apart = (run_keeps render w ⊥ w v run (λ none. absurd none) (at_start ⊥ w) runs).apart apart

-- in each world of a run it is so, where it is in the first
pub all_apart : (render : Renders) (w v : World) (run : List Happened) → IsApart w.site w.media → Runs render w run v
    → All (λ h. IsApart h.world.site h.world.media) run
all_apart render w v run apart runs =
    let all = all_keep render w ⊥ w v run (λ none. absurd none) (at_start ⊥ w) runs in
    λ k d lt. (all k d lt).apart apart

-- no medium stands under a path of no page
pub none_apart : (media : Media) → IsApart (record { pages = map.empty; aliases = map.empty }) media
none_apart media = record {
  pages = λ q medium. none q map.empty refl;
  aliases = λ q medium. none q map.empty refl;
}
  where
    none : {X : Type 0} (q : List ℕ) (m : TextMap X) → m ≡ map.empty → map.contains_key m q ≡ false
    none q m is = ap (λ e. map.contains_key e q) is ∙ ap is_some (map.get-empty (slice_cmp nat_cmp) q)

pub media_stand_apart : MediaStandApart
media_stand_apart = record {
  stand = λ render w v run runs all.
      let unset = All (λ h. KeepsMedia h.event) run in (run_keeps render w unset w v run (λ none. none) (at_start unset w) runs).stand all;
  apart = λ render w v run apart runs. stays_apart render w v run runs apart;
  new = λ render readers settings media v run runs.
      stays_apart render (new_world readers settings media) v run runs (none_apart media);
}
