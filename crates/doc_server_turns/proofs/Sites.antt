-- What leaves a hub's site as it was, and so its journal settled.
use Rattle.std.proofs.Common.{◌≡◌, ◌≤◌, ℕ, List, Bool, true, false, refl, sym, subst, ◌∙◌}
use Rattle.std.specs.Prelude.{◌+◌, IfSome, Option, Some, None, Result, Ok, Err, nat_lt, if◌then◌else◌}
use Rattle.std.specs.FinMap as map
use Rattle.doc_page_parts.specs.Refusals.{Gives}
use Rattle.doc_hub.specs.Replies.{Renders}
use Rattle.doc_hub_events.specs.Events.{disconnect_on}
use Rattle.doc_hub_events.specs.declared.event.ConnId.{ConnId}
use Rattle.doc_hub_events.specs.declared.event.Event.TheVariants as events
use Rattle.doc_hub_events.specs.declared.event.ReaderEdit.TheVariants as reader_edits
use Rattle.doc_hub_events.specs.declared.refusal.ConnectError.{ConnectError}
use Rattle.doc_hub_events.specs.declared.refusal.ConnectError.TheVariants as connect_errors
use Rattle.doc_hub.specs.Connections.{new_connection}
use Rattle.doc_hub.specs.Runs.{Happens}
use Rattle.doc_hub.specs.Worlds.{World, connected, last_id}
use Rattle.doc_server_journal.specs.declared.journal.Journal.{Journal}
use Rattle.doc_server_network.specs.KeptTurns.{IsRestored}
use Rattle.doc_server_listen.specs.Edits.{Kept}
use Rattle.doc_server_restore.specs.Restores.{restored, unstamped}
use Rattle.doc_server_network.specs.Readers.{ReaderError, ReaderTable}
use Rattle.doc_server_network.specs.Saved.{HasAll, IsAllSaved, IsSavedIn, IsSettled, StaysSaved, TakesByRoom}
use Rattle.doc_server_network.specs.declared.saved_hub.SavedHub.{SavedHub}
use Rattle.doc_store.specs.Store.{StoreState}
use Rattle.doc_server_listen.specs.Sites.{IsSameSite}

pub same_site : (w : World) → IsSameSite w w
same_site w = record { site = refl; media = refl; puts = refl; readers = refl }

pub same_join : (w v u : World) → IsSameSite w v → IsSameSite v u → IsSameSite w u
same_join w v u a b = record {
  site = b.site ∙ a.site;
  media = b.media ∙ a.media;
  puts = b.puts ∙ a.puts;
  readers = b.readers ∙ a.readers;
}

pub same_back : (w v : World) → IsSameSite w v → IsSameSite v w
same_back w v a = record { site = sym a.site; media = sym a.media; puts = sym a.puts; readers = sym a.readers }

pub same_by : (w v : World) → v ≡ w → IsSameSite w v
same_by w v is = subst (IsSameSite w) (sym is) (same_site w)

-- ---- connecting and disconnecting

of_given : {X E : Type 0} (memory : E) (given : World × Result X E) (w v : World) (said : Result X E) → Gives memory given w v said
    → IsSameSite w given.0 → IsSameSite w v
of_given memory given w v (Ok x) gives same = subst (λ g. IsSameSite w g.0) gives same
of_given memory given w v (Err e) gives same = subst (IsSameSite w) (sym gives.1) (same_site w)

abbrev pub connected_if : World → Bool → World × Result ConnId ConnectError
connected_if w t = if t then (
  record w { given = w.given + 1; connections = map.insert w.connections (w.given + 1) new_connection },
  Ok
      (record { 0 = w.given + 1 }),
) else (w, Err connect_errors.NoIds)

connected_same : (w : World) (t : Bool) → IsSameSite w (connected_if w t).0
connected_same w true = record { site = refl; media = refl; puts = refl; readers = refl }
connected_same w false = same_site w

pub connects_same : (render : Renders) (w v : World) (said : Result ConnId ConnectError) → Happens render w events.Connect v said
    → IsSameSite w v
connects_same render w v said happens =
    of_given connect_errors.Memory (connected w) w v said happens (connected_same w (nat_lt w.given last_id))

pub disconnects_same : (render : Renders) (w v : World) (id : ConnId) (said : Bool) → Happens render w (disconnect_on id) v said
    → IsSameSite w v
disconnects_same render w v id said happens =
    subst (λ (g : World × Bool). IsSameSite w g.0) happens (record { site = refl; media = refl; puts = refl; readers = refl })

-- whether puts are taken is looked at
pub takes_same : {D : Type 0} (render : Renders) (o : Option (Journal D)) (w v : World) → TakesByRoom render o w v → IsSameSite w v
takes_same render None w v is = same_by w v is
takes_same render (Some journal) w v happens =
    subst (IsSameSite w) (sym happens) (record { site = refl; media = refl; puts = refl; readers = refl })

-- the readers are those that were set
pub readers_are : (render : Renders) (w v : World) (readers : ReaderTable)
    → Happens render w (events.Reader (reader_edits.All readers)) v (Ok tt) → v.readers ≡ readers
readers_are render w v readers happens = subst (λ (g : World × Result (Unit {0}) ReaderError). g.0.readers ≡ readers) happens refl

-- ---- what is settled stays so

pub restored_too : (config : StoreState) (texts : List (List ℕ)) (w v : World) → IsSameSite w v → IsRestored config texts w
    → IsRestored config texts v
restored_too config texts w v same is = record {
  store = is.store;
  gives = subst (λ m. restored m (unstamped config) texts ≡ Ok is.store) (sym same.media) is.gives;
  site = is.site ∙ sym same.site;
  puts = subst (λ n. is.store.puts ≤ n) (sym same.puts) is.puts;
}

module _ {D : Type 0} (seen : D → Option (List ℕ)) (may_leave : D → List ℕ → Type 0) (failed : D → Bool) (stale : D → ℕ → Type 0) where
  begun_here : (config : StoreState) (w v : World) (o : Option (Journal D)) (unsaved : Kept) → IsSameSite w v
      → IfSome o (λ j. IsSavedIn seen may_leave failed stale config w j unsaved v)
      → IfSome o (λ j. IsSavedIn seen may_leave failed stale config v j unsaved v)
  begun_here config w v None unsaved same is = tt
  begun_here config w v (Some journal) unsaved same is = record {
    texts = is.texts;
    is_open = is.is_open;
    began = restored_too config is.texts w v same is.began;
    waits = is.waits;
    of_calls = is.of_calls;
    apart = is.apart;
    limit = is.limit;
    most = is.most;
  }

  module _ {R : Type 0} where
    pub all_saved_too : (old new : SavedHub D R) → new.journal ≡ old.journal → new.unsaved ≡ old.unsaved → IsAllSaved old → IsAllSaved new
    all_saved_too old new journal unsaved all =
        subst (λ o. HasAll o new.unsaved) (sym journal) (subst (λ k. HasAll old.journal k) (sym unsaved) all)

    pub settled_too : (config : StoreState) (old new : SavedHub D R) → IsSameSite old.hub.1 new.hub.1
        → StaysSaved seen may_leave failed stale old new → new.journal ≡ old.journal → new.unsaved ≡ old.unsaved
        → IsSettled seen may_leave failed stale config old → IsSettled seen may_leave failed stale config new
    settled_too config old new same stays journal unsaved is = (
      begun_here config old.hub.1 new.hub.1 new.journal new.unsaved same (stays config old.hub.1 is.0),
      all_saved_too old new journal unsaved is.1,
    )
