-- A reload's edits, made on a hub. All of this is this project's choice.
use Rattle.std.specs.Prelude.{List, All, Contains}
use Rattle.doc_store.specs.declared.site_edit.SiteEdit.{SiteEdit}
use Rattle.doc_hub.specs.Replies.{Renders}
use Rattle.doc_hub_events.specs.declared.event.Event.{Event}
use Rattle.doc_hub_events.specs.declared.event.Event.TheVariants as events
use Rattle.doc_hub.specs.Runs.{Happened, Runs}
use Rattle.doc_hub.specs.Worlds.{World}

-- an event that is one of these edits of the site
abbrev pub IsOneOf : List SiteEdit → Event → Type 0
IsOneOf edits (events.Site edit) = Contains edits edit
IsOneOf edits event = ⊥

-- a run of some of these edits, and of nothing else, leads from one world to the other
pub record LeadsByEdits (render : Renders) (edits : List SiteEdit) (w v : World) : Type 0 where
  pub run : List Happened
  pub runs : Runs render w run v
  pub own : All (λ h. IsOneOf edits h.event) run
