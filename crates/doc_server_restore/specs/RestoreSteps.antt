-- Words in which the steps of a restoration are stated.
use Rattle.std.specs.Prelude.{◌≡◌, ℕ, ◌+◌, List, [], ◌∷◌, Bool, true, false, Option, Some, None, is_some}
use Rattle.doc_store.specs.Store.{StoreState}
use Rattle.doc_media.specs.Media.{Media}
use Rattle.doc_store.specs.declared.site_edit.SiteEdit.{SiteEdit}
use Rattle.doc_hub_events.specs.declared.event.Event.{Event}
use Rattle.doc_hub.specs.Replies.{Renders}
use Rattle.doc_hub.specs.Worlds.{World, store_of, with_store}
use Rattle.doc_server_restore.specs.Restores.{edit_in, edits_in, made}

-- whether a call was accepted, by the store that should be there after it
abbrev pub Tells : Bool → Option StoreState → StoreState → Type 0
Tells true given new = given ≡ Some new
Tells false given new = given ≡ None

-- the store after an edit, where there is one and it is accepted
abbrev pub made_by : Media → StoreState → Option SiteEdit → Option StoreState
made_by media store None = None
made_by media store (Some edit) = made media store edit

-- the store after some events that are edits and are accepted
abbrev pub made_of : Media → StoreState → List Event → Option StoreState
made_of media store [] = Some store
made_of media store (event ∷ events) = elim (made_by media store (edit_in event)) [ None ↦ None | Some next ↦ made_of media next events ]

-- the number of the first of some events that isn't an edit that is accepted, where the first of them has the number n
abbrev pub line_refused : Media → ℕ → StoreState → List Event → ℕ
line_refused media n store [] = n
line_refused media n store (event ∷ events) =
    elim (made_by media store (edit_in event)) [ None ↦ n | Some next ↦ line_refused media (n + 1) next events ]

-- which of some calls was refused, if one was, by the store that should be there after all of them
abbrev pub TellsLine : Option ℕ → Option StoreState → ℕ → StoreState → Type 0
TellsLine None given line new = given ≡ Some new
TellsLine (Some n) given line new = (given ≡ None) × (n ≡ line)

-- whether an event is an edit
abbrev pub is_edit : Event → Bool
is_edit event = is_some (edit_in event)

-- events that are all edits of a record, or none where not each line of it is an edit
abbrev pub Reads : Option (List SiteEdit) → Option (List Event) → Type 0
Reads given None = given ≡ None
Reads given (Some events) = (edits : List SiteEdit) × (edits_in events ≡ Some edits) × (given ≡ Some edits)

-- two hubs with the same renderer's page and the same but for their pages
pub record AreAlike (render drawn : Renders) (w v : World) : Type 0 where
  pub page : drawn ≡ render
  pub others : v ≡ with_store w (store_of v)
