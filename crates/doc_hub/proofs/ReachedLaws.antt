-- The worlds that a new hub comes to, and the fresh servers of their replies.
use Rattle.std.proofs.Common.{◌≡◌, ◌≤◌, ◌+◌, ◌-◌, ℕ, List, ◌++◌, Bool, true, false, cond, length, drop, refl, sym, ◌∙◌, subst, arith}
use Rattle.std.specs.Prelude.{nat_le, nat_lt, slice_index_or, All, Option, Some, None, Result, Ok, Err, MatchBool, if◌then◌else◌}
use Rattle.std.specs.FinMap as map
use Rattle.std.specs.Ordering.{nat_cmp, eq_by_cmp}
use Rattle.std.proofs.lemmas.Bool.Decides.{nat_tests}
use Rattle.std.proofs.lemmas.Cmp.{nat_cmp_total}
use Rattle.std.proofs.lemmas.List.{length-append, length-drop}
use Rattle.std.proofs.lemmas.List.Elements.{All-nil, All-cons}
use Rattle.doc_page_parts.specs.Refusals.{Gives}
use Rattle.doc_store_readers.specs.Pages.{Page}
use Rattle.doc_store_readers.specs.Readers.{ReaderTable}
use Rattle.doc_media.specs.Media.{Media}
use Rattle.doc_people.specs.declared.settings.Settings.{Settings}
use Rattle.doc_store.specs.Store.{StoreState, alias_limit, aliases_after, fits_in, may_move, moved_by, put_by, put_limit}
use Rattle.doc_store.specs.declared.moving.MoveError.{MoveError}
use Rattle.doc_store.specs.declared.moving.MoveError.TheVariants as move_errors
use Rattle.doc_store.specs.declared.store.EditError.{EditError}
use Rattle.doc_store.specs.declared.store.EditError.TheVariants as edit_errors
use Rattle.doc_store.proofs.StoreSteps.{taken_out}
use Rattle.doc_http.specs.declared.request.Next.{Next}
use Rattle.doc_http.specs.declared.request.Next.TheVariants as nexts
use Rattle.doc_hub_asking.specs.Asking.{known_of}
use Rattle.doc_hub.specs.Connections.{Connections, backlog_limit, finished, new_connection, pushed_at, with_pushed}
use Rattle.doc_hub_replies.specs.Edits.{CanBeMade, CanMove, CanRegroup, regrouped, store_after}
use Rattle.doc_hub_events.specs.Events.{Said, SaidOn, SaidSite}
use Rattle.doc_hub.specs.FreshLaws.{SendsAsFreshAlways}
use Rattle.doc_hub.specs.MadeLaws.{IsWithin, MadeReplies, SendsAsMade, makings}
use Rattle.doc_hub_replies.specs.Replies.{Renders}
use Rattle.doc_hub.specs.Runs.{Happens, HappensOn, HappensSite, Happened, Runs, nothing, first}
use Rattle.doc_hub.specs.StepLaws.{media_seen, open_with, site_seen}
use Rattle.doc_hub.specs.Worlds.{IsApart, World, Answers, Stays, StepsAt, answer_in, asking_of, connected, disconnected, has_medium}
use Rattle.doc_hub.specs.Worlds.{last_id, new_world}
use Rattle.doc_hub.specs.Worlds.{may_move_beside, may_put, reader_of, stepped_by, store_of, token_of, world_moved, world_pushed, world_put}
use Rattle.doc_hub.proofs.KindSteps.{stand_beside}
use Rattle.doc_hub.specs.declared.connection.Connection.{Connection}
use Rattle.doc_hub_events.specs.declared.event.ConnId.{ConnId}
use Rattle.doc_store.specs.declared.site_edit.SiteEdit.{SiteEdit}
use Rattle.doc_store.specs.declared.site_edit.SiteEdit.TheVariants as site_edits
use Rattle.doc_hub_events.specs.declared.event.ConnectionEvent.{ConnectionEvent}
use Rattle.doc_hub_events.specs.declared.event.ConnectionEvent.TheVariants as calls
use Rattle.doc_hub_events.specs.declared.event.Event.{Event}
use Rattle.doc_hub_events.specs.declared.event.Event.TheVariants as events
use Rattle.doc_hub_events.specs.declared.event.Step.{Step}
use Rattle.doc_hub_events.specs.declared.event.Step.TheVariants as steps
use Rattle.doc_hub_events.specs.declared.refusal.ConnectError.{ConnectError}
use Rattle.doc_hub_events.specs.declared.refusal.ConnectError.TheVariants as connect_errors
use Rattle.doc_hub_events.specs.declared.refusal.PushError.{PushError}
use Rattle.doc_hub_events.specs.declared.refusal.PushError.TheVariants as push_errors
use Rattle.doc_hub_events.specs.declared.refusal.StepError.{StepError}
use Rattle.doc_hub_events.specs.declared.refusal.StepError.TheVariants as step_errors
use Rattle.doc_hub_replies.specs.Edit.{Edit}
use Rattle.doc_hub_replies.specs.Edit.TheVariants as edits
use Rattle.doc_hub.proofs.AnswerEdits.{answer_can_be_made}
use Rattle.doc_hub.proofs.Apart.{move_is_free, put_is_free, seen_apart}
use Rattle.doc_hub.proofs.MediaLaws.{all_apart, none_apart}
use Rattle.doc_hub.proofs.FreshLaws.{new_replies_as_fresh}
use Rattle.doc_hub.proofs.MadeLaws.{fresh_is_made, move_fits_by}
use Rattle.doc_hub.proofs.StoredSteps.{Stored, cut_within, move_stored, nothing_stored, put_stored, remove_stored}

-- ---- connections

abbrev IsShort : Connections → Type 0
IsShort cs = (id : ℕ) (k : Connection) → map.get cs id ≡ Some k → length k.unread ≤ backlog_limit

not_none : {X : Type 0} (x : X) → None ≡ Some x → ⊥
not_none x e = cc

some_is : {X : Type 0} (x y : X) → Some x ≡ Some y → x ≡ y
some_is x y e = cc

none_short : IsShort map.empty
none_short id k e = absurd (not_none k (sym (map.get-empty nat_cmp id) ∙ e))

set_short : (cs : Connections) (n : ℕ) (new : Connection) → IsShort cs → length new.unread ≤ backlog_limit → IsShort (map.insert cs n new)
set_short cs n new short one id k e = by (eq_by_cmp nat_cmp id n) (sym (map.get-insert nat_cmp_total cs n new id) ∙ e)
  where
    by : (b : Bool) → cond b (Some new) (map.get cs id) ≡ Some k → length k.unread ≤ backlog_limit
    by true e = subst (λ (x : Connection). length x.unread ≤ backlog_limit) (some_is new k e) one
    by false e = short id k e

removed_short : (cs : Connections) (n : ℕ) → IsShort cs → IsShort (map.remove cs n)
removed_short cs n short id k e = by (eq_by_cmp nat_cmp id n) (sym (map.get-remove nat_cmp_total cs n id) ∙ e)
  where
    by : (b : Bool) → cond b None (map.get cs id) ≡ Some k → length k.unread ≤ backlog_limit
    by true e = absurd (not_none k e)
    by false e = short id k e

at_most : (a b : ℕ) → nat_lt b a ≡ false → a ≤ b
at_most a b e = grind (arith, nat_tests)

-- by the two tests of a push
onto_short : (cs : Connections) (n : ℕ) (k : Connection) (bytes : List ℕ) (closed full : Bool) → IsShort cs
    → (full ≡ false → length (k.unread ++ bytes) ≤ backlog_limit)
    → IsShort (let r : Connection × Result (Unit {0}) PushError = if closed then (k, Err push_errors.Closed)
    else (if full then (k, Err push_errors.Backlog) else (record { unread = k.unread ++ bytes; closed = false }, Ok tt)) in
    (with_pushed cs n r.0 r.1).0)
onto_short cs n k bytes true full short room = short
onto_short cs n k bytes false true short room = short
onto_short cs n k bytes false false short room = set_short cs n (record { unread = k.unread ++ bytes; closed = false }) short (room refl)

pushed_short : (cs : Connections) (n : ℕ) (bytes : List ℕ) (k : Option Connection) → IsShort cs → IsShort (pushed_at cs n bytes k).0
pushed_short cs n bytes None short = short
pushed_short cs n bytes (Some k) short =
    onto_short cs n k bytes k.closed (nat_lt backlog_limit (length k.unread + length bytes)) short
    (λ room. subst (λ a. a ≤ backlog_limit) (sym (length-append k.unread bytes)) (at_most
    (length k.unread + length bytes) backlog_limit room))

finished_length : (k : Connection) (used : ℕ) (last : Bool) → length k.unread ≤ backlog_limit
    → length (finished k used last).unread ≤ backlog_limit
finished_length k used true short = omega arith
finished_length k used false short = fewer (length (drop used k.unread)) (length k.unread) used (length-drop used k.unread) short
  where
    fewer : (a b n : ℕ) → a ≡ b - n → b ≤ backlog_limit → a ≤ backlog_limit
    fewer a b n e le = omega (arith, e, le)

-- ---- worlds

record CanBe (w : World) : Type 0 where
  stored : Stored w.site w.puts
  short : IsShort w.connections

abbrev StoredWorld : World → StoreState → Type 0
StoredWorld w store = Stored store.site store.puts

put_can : (w : World) (path : List ℕ) (page : Page) (stands : Bool) (said : Result (Unit {0}) EditError)
    → may_put w.media (store_of w) path page.text ≡ said
    → Stored w.site w.puts → StoredWorld w (put_by (store_of w) path page stands said).0
put_can w path page stands (Ok fine) is stored =
    put_stored w.site w.puts path page (put_is_free (has_medium w.media path) (fits_in (store_of w) path page.text) is).1 stored
put_can w path page stands (Err e) is stored = stored

move_can : (w : World) (from to : List ℕ) (said : Result (Unit {0}) MoveError) → may_move_beside w.media (store_of w) from to ≡ said
    → Stored w.site w.puts → StoredWorld w (moved_by (store_of w) from to said).0
move_can w from to (Ok fine) is stored =
    let free = move_is_free (map.contains_key w.site.pages from) (map.contains_key w.site.pages to) (has_medium w.media to)
    (map.len (aliases_after w.site.aliases from to)) w.puts is in
    move_stored w.site w.puts from to free.2 stored
move_can w from to (Err e) is stored = stored

remove_can : (w : World) (path : List ℕ) (stands : Bool) → Stored w.site w.puts
    → StoredWorld w (if stands then taken_out (store_of w) path else store_of w)
remove_can w path true stored = remove_stored w.site w.puts path stored
remove_can w path false stored = stored

regrouped_can : (w : World) (path : List ℕ) (groups : List (List ℕ)) (found : Option Page) → CanRegroup (store_of w) path found
    → Stored w.site w.puts → StoredWorld w (regrouped (store_of w) path groups found)
regrouped_can w path groups None can stored = absurd can
regrouped_can w path groups (Some page) can stored = put_stored w.site w.puts path (record page { groups = groups }) can stored

not_out : (puts limit : ℕ) → nat_lt puts limit ≡ true → nat_le limit puts ≡ false
not_out puts limit left = grind (arith, nat_tests)

-- a move that is possible isn't refused, since what is stored is a site
moves_so : (w : World) (from to : List ℕ) → CanMove (store_of w) from to → Stored w.site w.puts → may_move (store_of w) from to ≡ Ok tt
moves_so w from to can stored =
    move_fits_by (map.contains_key w.site.pages from) (map.contains_key w.site.pages to)
    (nat_lt alias_limit (map.len (aliases_after w.site.aliases from to))) (nat_le put_limit w.puts) can.stands can.free
    (can.room stored.store.site) (not_out w.puts put_limit can.left)

edit_can : (w : World) (text : List ℕ) (edit : Option Edit) → CanBeMade (store_of w) text edit → Stored w.site w.puts
    → StoredWorld w (store_after (store_of w) text edit)
edit_can w text None can stored = stored
edit_can w text (Some (edits.Put path groups)) can stored =
    put_stored w.site w.puts path (record { groups = groups; text = text }) can.1 stored
edit_can w text (Some (edits.Regroup path groups)) can stored = regrouped_can w path groups (map.get w.site.pages path) can stored
edit_can w text (Some (edits.Move from to)) can stored = move_stored w.site w.puts from to (moves_so w from to can stored) stored
edit_can w text (Some (edits.Remove path)) can stored = remove_can w path (map.contains_key w.site.pages path) stored

by_gives : {X E : Type 0} (memory : E) (given : World × Result X E) (w v : World) (r : Result X E) → CanBe w → CanBe given.0
    → Gives memory given w v r → CanBe v
by_gives {X = X} {E = E} memory given w v (Ok x) before after gives = subst (λ (q : World × Result X E). CanBe q.0) gives after
by_gives memory given w v (Err e) before after gives = subst CanBe (sym gives.1) before

by_equation : {S : Type 0} (given : World × S) (v : World) (said : S) → CanBe given.0 → ◌≡◌ {A = World × S} given (v, said) → CanBe v
by_equation {S = S} given v said after is = subst (λ (q : World × S). CanBe q.0) is after

abbrev connected_if : World → Bool → World × Result ConnId ConnectError
connected_if w t = if t then (
  record w { given = w.given + 1; connections = map.insert w.connections (w.given + 1) new_connection },
  Ok
      (record { 0 = w.given + 1 }),
) else (w, Err connect_errors.NoIds)

connect_can : (w : World) (t : Bool) → CanBe w → CanBe (connected_if w t).0
connect_can w true can = record {
  stored = can.stored;
  short = set_short w.connections (w.given + 1) new_connection can.short (omega arith);
}
connect_can w false can = can

module _ (render : Renders) where
  front_can : (w : World) (n : ℕ) (k : Connection) (next : Next) → map.get w.connections n ≡ Some k → CanBe w
      → CanBe (stepped_by render w n k next).0
  front_can w n k nexts.More found can = can
  front_can w n k (nexts.Fault code bare) found can = record {
    stored = can.stored;
    short = set_short w.connections n (finished k 0 true) can.short (finished_length k 0 true (can.short n k found));
  }
  front_can w n k (nexts.Request used request) found can =
      let a = answer_in render w request in
      record {
        stored = edit_can w request.body a.edit (answer_can_be_made w.takes_puts render w.settings w.media (store_of w)
            (asking_of w request) request) can.stored;
        short = set_short w.connections n (finished k used a.closes) can.short (finished_length k used a.closes (can.short n k found));
      }

  answers_can : (w v : World) (n : ℕ) (k : Connection) (r : Result Step StepError) → map.get w.connections n ≡ Some k → CanBe w
      → Answers render w n v r k → CanBe v
  answers_can w v n k (Ok said) found can (next, is, e) = by_equation (stepped_by render w n k next) v (Ok said)
      (front_can w n k next found can) e
  answers_can w v n k (Err step_errors.NoConnection) found can (next, is, e) =
      by_equation (stepped_by render w n k next) v (Err step_errors.NoConnection) (front_can w n k next found can) e
  answers_can w v n k (Err step_errors.Memory) found can h = subst CanBe (sym h.0) can

  open_can : (w v : World) (n : ℕ) (k : Connection) (r : Result Step StepError) (closed : Bool) → map.get w.connections n ≡ Some k → CanBe w
      → MatchBool closed (Stays w (Ok steps.Closed) v r) (Answers render w n v r k) → CanBe v
  open_can w v n k r true found can h = subst CanBe (sym h.0) can
  open_can w v n k r false found can h = answers_can w v n k r found can h

  step_can : (w v : World) (n : ℕ) (k : Option Connection) (r : Result Step StepError) → map.get w.connections n ≡ k → CanBe w
      → StepsAt render w n v r k → CanBe v
  step_can w v n None r found can h = subst CanBe (sym h.0) can
  step_can w v n (Some k) r found can h = open_can w v n k r k.closed found can h

  on_can : (w v : World) (n : ℕ) (call : ConnectionEvent) (said : SaidOn call) → CanBe w → HappensOn render w n call v said → CanBe v
  on_can w v n (calls.Push bytes) said can h =
      by_gives push_errors.Memory (world_pushed w n bytes) w v said can
      (record { stored = can.stored; short = pushed_short w.connections n bytes (map.get w.connections n) can.short }) h
  on_can w v n calls.Step said can h = step_can w v n (map.get w.connections n) said refl can h
  on_can w v n calls.Disconnect said can h =
      by_equation (disconnected w n) v said (record { stored = can.stored; short = removed_short w.connections n can.short }) h

  site_can : (w v : World) (edit : SiteEdit) (said : SaidSite edit) → CanBe w → HappensSite w edit v said → CanBe v
  site_can w v (site_edits.Put path groups text) said can h =
      by_gives edit_errors.Memory (world_put w path groups text) w v said can
      (record {
        stored = put_can w path (record { groups = groups; text = text }) (map.contains_key w.site.pages path)
            (may_put w.media (store_of w) path text) refl can.stored;
        short = can.short;
      }) h
  site_can w v (site_edits.Remove path) said can h =
      by_equation _ v said (record { stored = remove_can w path (map.contains_key w.site.pages path) can.stored; short = can.short }) h
  site_can w v (site_edits.Move from to) said can h =
      by_gives move_errors.Memory (world_moved w from to) w v said can
      (record { stored = move_can w from to (may_move_beside w.media (store_of w) from to) refl can.stored; short = can.short }) h

  event_can : (w v : World) (event : Event) (said : Said event) → CanBe w → Happens render w event v said → CanBe v
  event_can w v events.Connect said can h =
      by_gives connect_errors.Memory (connected w) w v said can (connect_can w (nat_lt w.given last_id) can) h
  event_can w v (events.On n call) said can h = on_can w v n.0 call said can h
  event_can w v (events.Site edit) said can h = site_can w v edit said can h
  event_can w v event said can h =
      let beside = stand_beside render w v event said tt h in
      record {
        stored = subst (λ site. Stored site v.puts) (sym beside.site) (subst (λ puts. Stored w.site puts) (sym beside.puts) can.stored);
        short = subst IsShort (sym beside.connections) can.short;
      }

  all_can : (w v : World) (run : List Happened) → CanBe w → Runs render w run v → All (λ h. CanBe h.world) run
  all_can w v run can (nothing x) = All-nil (λ (h : Happened). CanBe h.world)
  all_can w v run can (first x y z event outcome rest (said, h, told) runs) =
      All-cons (λ (h : Happened). CanBe h.world) (record { world = x; event = event; outcome = outcome }) rest can
      (all_can y z rest (event_can x y event said can h) runs)

-- ---- replies

within_limits : (w : World) → CanBe w → IsWithin w.site
within_limits w can = record {
  is_site = can.stored.store.site;
  pages = can.stored.pages;
  aliases = can.stored.aliases;
  texts = can.stored.texts;
}

made_one : (render : Renders) (h : Happened) → CanBe h.world → IsApart h.world.site h.world.media → SendsAsFreshAlways render h
    → SendsAsMade render h
made_one render h can apart replies unread used request said is takes =
    let site = site_seen h.world request in
    let media = media_seen h.world request in
    let reader = reader_of h.world request in
    let made = fresh_is_made render site media (token_of h.world request) (known_of (asking_of h.world request)) h.world.settings unread
    (cut_within h.world.site reader (within_limits h.world can)) (seen_apart h.world.site h.world.media reader apart)
    (can.short is.c.0 (open_with unread) is.stands) in
    (made, replies unread (nexts.Request used request) said is takes (makings site) made.left)

new_can : (readers : ReaderTable) (settings : Settings) (media : Media) → CanBe (new_world readers settings media)
new_can readers settings media = record { stored = nothing_stored; short = none_short }

pub made_replies : MadeReplies
made_replies render readers settings media v run runs few =
    let cans = all_can render (new_world readers settings media) v run (new_can readers settings media) runs in
    let aparts = all_apart render (new_world readers settings media) v run (none_apart media) runs in
    let replies = new_replies_as_fresh render readers settings media v run runs few in
    λ k d lt. made_one render (slice_index_or run k d) (cans k d lt) (aparts k d lt) (replies k d lt)
