-- The laws of a turn, event after event.
use Rattle.std.proofs.Common.{◌≡◌, ◌≤◌, All, List, [], ◌∷◌, ◌++◌, refl, ap, sym, ◌∙◌, subst}
use Rattle.std.specs.Prelude.{Option, Some, None, IfSome, Ok, option_to_list}
use Rattle.std.proofs.lemmas.List.Elements.{All-cons, All-head, All-nil, All-tail, All-weaker}
use Rattle.doc_store.specs.Store.{StoreState}
use Rattle.doc_store.specs.declared.site_edit.SiteEdit.{SiteEdit}
use Rattle.doc_hub.specs.Replies.{Renders}
use Rattle.doc_hub_events.specs.declared.event.Event.{Event}
use Rattle.doc_hub_events.specs.declared.event.Event.TheVariants as events
use Rattle.doc_hub_events.specs.declared.outcome.Outcome.{Outcome}
use Rattle.doc_hub.specs.MediaLaws.{KeepsMedia}
use Rattle.doc_hub.specs.Runs.{Happened, Leaves, Runs, nothing, first}
use Rattle.doc_hub.specs.Worlds.{IsApart, World, store_of}
use Rattle.doc_server_script.specs.PageLines.{lines_of}
use Rattle.doc_server_listen.specs.Edits.{AreMade, MakesIn, accepted, left_by}
use Rattle.doc_server_restore.proofs.LineLaws.{lines_are_read}
use Rattle.doc_server_restore.specs.Laws.{AreEdits, IsEdit}
use Rattle.doc_server_restore.specs.Restores.{all_made, made, restored, unstamped}
use Rattle.doc_media.specs.Media.{Media}
use Rattle.doc_hub.proofs.MediaLaws.{media_stand_apart}
use Rattle.doc_server_kept.specs.KeptTurns.{IsOfCalls, IsOfServer, QuietTurnIsRestored, TurnIsRestored, TurnStaysOfCalls}
use Rattle.doc_server_kept.proofs.EditsMade.{Follows, made_again}
use Rattle.doc_server_kept.proofs.Events.{EventMade, event_made, some_made}
use Rattle.doc_server_kept.proofs.FewerPuts.{made_with_fewer}
use Rattle.doc_server_kept.proofs.RecordSteps.{one_record_more}
use Rattle.doc_server_kept.proofs.SitesOfCalls.{left_of_calls}
use Rattle.doc_server_kept.proofs.ToldOfCalls.{told_is}

abbrev AreOfServer : List Happened → Type 0
AreOfServer run = All (λ h. IsOfServer h.event) run

-- none of them sets media
keeps_media : (event : Event) → IsOfServer event → KeepsMedia event
keeps_media events.Connect is = tt
keeps_media (events.On id call) is = tt
keeps_media (events.TakePuts takes) is = tt
keeps_media event is = absurd is

keep_media : (run : List Happened) → AreOfServer run → All (λ h. KeepsMedia h.event) run
keep_media run servers = All-weaker (λ h. IsOfServer h.event) (λ h. KeepsMedia h.event) (λ h is. keeps_media h.event is) run servers

starts : (render : Renders) (v u : World) (run : List Happened) → Runs render v run u → left_by run u ≡ v
starts render v u run (nothing x) = refl
starts render v u run (first x y z event outcome rest leaves runs) = refl

-- ---- one event

module _ (render : Renders) (w v : World) (edit : Option SiteEdit) (event : EventMade render w v edit) where
  follows : Follows w v edit
  follows = subst (Follows w v) (sym event.edit_is) (made_again w v event.told event.made)

  of_calls : IsOfCalls w.site → IsOfCalls v.site × IfSome edit IsEdit
  of_calls is =
      let both = left_of_calls w v is event.told (told_is render w is event.told event.connection event.tells) event.made in
      (both.0, subst (λ e. IfSome e IsEdit) (sym event.edit_is) both.1)

-- a store that has the site of a world, and no more puts
record Stands (s : StoreState) (w : World) : Type 0 where
  site : s.site ≡ w.site
  puts : s.puts ≤ w.puts

stands_too : (s : StoreState) (w v : World) → store_of v ≡ store_of w → Stands s w → Stands s v
stands_too s w v same stands = record {
  site = stands.site ∙ ap (λ (x : StoreState). x.site) (sym same);
  puts = subst (λ n. s.puts ≤ n) (ap (λ (x : StoreState). x.puts) (sym same)) stands.puts;
}

-- the edits lead from the store to one that has the site of the world
abbrev Lead : Media → List SiteEdit → StoreState → World → Type 0
Lead media edits s v = (t : StoreState) × (all_made media s edits ≡ Some t) × Stands t v

abbrev behind : Media → List SiteEdit → Option StoreState → Option StoreState
behind media edits None = None
behind media edits (Some next) = all_made media next edits

as_behind : (media : Media) (edits : List SiteEdit) (mid : Option StoreState)
    → ◌≡◌ {A = Option StoreState} (elim mid [ None ↦ None | Some next ↦ all_made media next edits ]) (behind media edits mid)
as_behind media edits None = refl
as_behind media edits (Some next) = refl

-- an edit in front of others, or none
lead_more : (media : Media) (w v u : World) (edit : Option SiteEdit) (edits : List SiteEdit) (s : StoreState) → w.media ≡ media
    → IsOfCalls w.site → IsApart w.site w.media → Follows w v edit
    → Stands s w → ((next : StoreState) → Stands next v → Lead media edits next u) → Lead media (option_to_list edit ++ edits) s u
lead_more media w v u None edits s same is apart follows stands rest = rest s (stands_too s w v follows stands)
lead_more media w v u (Some edit) edits s same is apart follows stands rest =
    let made_so = subst (λ m. made m (store_of w) edit ≡ Some (store_of v)) same (follows is.is_site apart) in
    let (next, one, site, puts) = made_with_fewer media (store_of w) s (store_of v) edit stands.site stands.puts made_so in
    let (last, all, there) = rest next (record { site = site; puts = puts }) in
    (last, as_behind media edits (made media s edit) ∙ ap (behind media edits) one ∙ all, there)

edits_more : (edit : Option SiteEdit) (edits : List SiteEdit) → IfSome edit IsEdit → AreEdits edits
    → AreEdits (option_to_list edit ++ edits)
edits_more None edits is are = are
edits_more (Some edit) edits is are = (is, are)

-- ---- the events of a turn

module _ (render : Renders) where
  one_event : (w v u : World) (run : List Happened) (event : Event) (outcome : Outcome) (edit : Option SiteEdit) → Runs render v run u
      → IsOfServer event → Leaves render w event v outcome → MakesIn render w event outcome (left_by run u) edit → EventMade render w v edit
  one_event w v u run event outcome edit runs of_server leaves makes =
      event_made render w v event outcome edit of_server leaves
      (subst (λ x. MakesIn render w event outcome x edit) (starts render v u run runs) makes)

  abbrev here : World → Event → Outcome → Happened
  here w event outcome = record { world = w; event = event; outcome = outcome }

  first_of : (w : World) (event : Event) (outcome : Outcome) (run : List Happened) → AreOfServer (here w event outcome ∷ run)
      → IsOfServer event
  first_of w event outcome run servers = All-head (λ h. IsOfServer h.event) (here w event outcome) run servers

  others_of : (w : World) (event : Event) (outcome : Outcome) (run : List Happened) → AreOfServer (here w event outcome ∷ run)
      → AreOfServer run
  others_of w event outcome run servers = All-tail (λ h. IsOfServer h.event) (here w event outcome) run servers

  -- what is written is as calls take it
  turn_edits : (w v : World) (run : List Happened) (edits : List (Option SiteEdit)) → IsOfCalls w.site → Runs render w run v
      → AreOfServer run → AreMade render run v edits → AreEdits (accepted edits)
  turn_edits w v run [] is (nothing x) servers made = tt
  turn_edits w v run (edit ∷ edits) is (nothing x) servers made = absurd made
  turn_edits w v run [] is (first x y z event outcome rest leaves runs) servers made = absurd made
  turn_edits w v run (edit ∷ edits) is (first x y z event outcome rest leaves runs) servers made =
      let one = one_event x y z rest event outcome edit runs (first_of x event outcome rest servers) leaves made.0 in
      let after = of_calls render x y edit one is in
      edits_more edit (accepted edits) after.1
      (turn_edits y z rest edits after.0 runs (others_of x event outcome rest servers) made.1)

  abbrev just : (w v : World) (event : Event) (outcome : Outcome) → Leaves render w event v outcome
      → Runs render w (here w event outcome ∷ []) v
  just w v event outcome leaves = first w v v event outcome [] leaves (nothing v)

  -- and leads to the site that is left
  turn_leads : (media : Media) (w v : World) (run : List Happened) (edits : List (Option SiteEdit)) (s : StoreState) → w.media ≡ media
      → IsOfCalls w.site → IsApart w.site w.media
      → Runs render w run v → AreOfServer run → AreMade render run v edits → Stands s w → Lead media (accepted edits) s v
  turn_leads media w v run [] s same is apart (nothing x) servers made stands = (s, refl, stands)
  turn_leads media w v run (edit ∷ edits) s same is apart (nothing x) servers made stands = absurd made
  turn_leads media w v run [] s same is apart (first x y z event outcome rest leaves runs) servers made stands = absurd made
  turn_leads media w v run (edit ∷ edits) s same is apart (first x y z event outcome rest leaves runs) servers made stands =
      let one = one_event x y z rest event outcome edit runs (first_of x event outcome rest servers) leaves made.0 in
      let after = of_calls render x y edit one is in
      let step = just x y event outcome leaves in
      let kept = All-cons (λ h. KeepsMedia h.event) (here x event outcome) []
      (keeps_media event (first_of x event outcome rest servers)) (All-nil (λ h. KeepsMedia h.event)) in
      lead_more media x y z edit (accepted edits) s same is apart (follows render x y edit one) stands
      (λ next there. turn_leads media y z rest edits next (media_stand_apart.stand render x y _ step kept ∙ same) after.0
      (media_stand_apart.apart render x y _ apart step) runs (others_of x event outcome rest servers) made.1 there)

  -- a turn without edits leaves the store
  quiet_leaves : (w v : World) (run : List Happened) (edits : List (Option SiteEdit)) → Runs render w run v → AreOfServer run
      → AreMade render run v edits → accepted edits ≡ [] → store_of v ≡ store_of w
  quiet_leaves w v run [] (nothing x) servers made none = refl
  quiet_leaves w v run (edit ∷ edits) (nothing x) servers made none = absurd made
  quiet_leaves w v run [] (first x y z event outcome rest leaves runs) servers made none = absurd made
  quiet_leaves w v run (Some edit ∷ edits) (first x y z event outcome rest leaves runs) servers made none = cc
  quiet_leaves w v run (None ∷ edits) (first x y z event outcome rest leaves runs) servers made none =
      let one = one_event x y z rest event outcome None runs (first_of x event outcome rest servers) leaves made.0 in
      quiet_leaves y z rest edits runs (others_of x event outcome rest servers) made.1 none ∙ follows render x y None one

pub turn_stays_of_calls : TurnStaysOfCalls
turn_stays_of_calls render w v run is (nothing x) servers = is
turn_stays_of_calls render w v run is (first x y z event outcome rest leaves runs) servers =
    let (edit, one) = some_made render x y event outcome (first_of render x event outcome rest servers) leaves in
    turn_stays_of_calls render y z rest (of_calls render x y edit one is).0 runs (others_of render x event outcome rest servers)

-- ---- the laws

pub turn_is_restored : TurnIsRestored
turn_is_restored render config w v run edits texts is apart runs servers made before =
    let (store, all, stands) = turn_leads render w.media w v run edits before.store refl is apart runs servers made
    (record { site = before.site; puts = before.puts }) in
    record {
      store = store;
      gives = subst (λ m. restored m (unstamped config) (texts ++ lines_of (accepted edits) ∷ []) ≡ Ok store)
          (sym (media_stand_apart.stand render w v run runs (keep_media run servers)))
          (one_record_more w.media (lines_of (accepted edits)) (accepted edits)
          (lines_are_read (accepted edits) (turn_edits render w v run edits is runs servers made))
          texts 1 (unstamped config) before.store store before.gives all);
      site = stands.site;
      puts = stands.puts;
    }

pub quiet_turn_is_restored : QuietTurnIsRestored
quiet_turn_is_restored render config w v run edits texts runs servers made none before =
    let stands = stands_too before.store w v (quiet_leaves render w v run edits runs servers made none)
    (record { site = before.site; puts = before.puts }) in
    record {
      store = before.store;
      gives = subst (λ m. restored m (unstamped config) texts ≡ Ok before.store)
          (sym (media_stand_apart.stand render w v run runs (keep_media run servers))) before.gives;
      site = stands.site;
      puts = stands.puts;
    }
