-- Media stand until others are set, and no page comes to the path of one.
use Rattle.std.specs.Prelude.{◌≡◌, ⊤, All, List}
use Rattle.doc_store_readers.specs.Readers.{ReaderTable}
use Rattle.doc_media.specs.Media.{Media}
use Rattle.doc_people.specs.declared.settings.Settings.{Settings}
use Rattle.doc_hub_replies.specs.Replies.{Renders}
use Rattle.doc_hub_events.specs.declared.event.Event.{Event}
use Rattle.doc_hub_events.specs.declared.event.Event.TheVariants as events
use Rattle.doc_hub.specs.Runs.{Happened, Runs}
use Rattle.doc_hub.specs.Worlds.{IsApart, World, new_world}

-- an event that sets no media
abbrev pub KeepsMedia : Event → Type 0
KeepsMedia (events.SetMedia media) = ⊥
KeepsMedia event = ⊤

-- No event but the one for that changes the media; and where no path is both a medium's and a page's or an alias, so it is after any run.
-- From a new server it is always so.
pub record MediaStandApart : Type 0 where
  pub stand : (render : Renders) (w v : World) (run : List Happened) → Runs render w run v → All (λ h. KeepsMedia h.event) run
      → v.media ≡ w.media
  pub apart : (render : Renders) (w v : World) (run : List Happened) → IsApart w.site w.media → Runs render w run v
      → IsApart v.site v.media
  pub new : (render : Renders) (readers : ReaderTable) (settings : Settings) (media : Media) (v : World) (run : List Happened)
      → Runs render (new_world readers settings media) run v → IsApart v.site v.media
