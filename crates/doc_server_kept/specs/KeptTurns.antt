-- What is restored of the turns that a server wrote.
use Rattle.std.specs.Prelude.{◌≡◌, ◌≤◌, ◌++◌, ⊤, ℕ, All, List, [], ◌∷◌, Option, Some, Ok}
use Rattle.std.specs.FinMap as map
use Rattle.doc_store_readers.specs.Groups.{IsGroups}
use Rattle.doc_store_readers.specs.Pages.{Page}
use Rattle.doc_store_readers.specs.Sites.{Site, IsSite}
use Rattle.doc_store.specs.Store.{StoreState}
use Rattle.doc_store.specs.declared.site_edit.SiteEdit.{SiteEdit}
use Rattle.doc_hub.specs.Replies.{Renders}
use Rattle.doc_hub_events.specs.declared.event.Event.{Event}
use Rattle.doc_hub_events.specs.declared.event.Event.TheVariants as events
use Rattle.doc_hub.specs.Runs.{Happened, Runs}
use Rattle.doc_hub.specs.Worlds.{IsApart, World}
use Rattle.doc_server_script.specs.Laws.{IsText}
use Rattle.doc_server_script.specs.PageLines.{lines_of}
use Rattle.doc_server_listen.specs.Edits.{AreMade, accepted}
use Rattle.doc_server_restore.specs.Restores.{restored, unstamped}

-- an event of a server: a connection's, or whether puts are taken; never an edit from elsewhere
abbrev pub IsOfServer : Event → Type 0
IsOfServer events.Connect = ⊤
IsOfServer (events.On id call) = ⊤
IsOfServer (events.TakePuts takes) = ⊤
IsOfServer event = ⊥

-- a site as calls make it: its aliases lead to its pages, and each page is for groups and has a text
pub record IsOfCalls (site : Site) : Type 0 where
  pub is_site : IsSite site
  pub pages : (path : List ℕ) (page : Page) → map.get site.pages path ≡ Some page → IsGroups page.groups × IsText page.text

-- The records give the site of a world beside its media. Its puts are a bound: a hub may have spent some that no record tells, and what it
-- accepts after more of them is accepted after fewer, with the same effect.
pub record IsRestored (config : StoreState) (texts : List (List ℕ)) (w : World) : Type 0 where
  pub store : StoreState
  pub gives : restored w.media (unstamped config) texts ≡ Ok store
  pub site : store.site ≡ w.site
  pub puts : store.puts ≤ w.puts

-- what a turn adds to a journal is restored as what the turn made, where no path is both a medium's and a page's or an alias
abbrev pub TurnIsRestored : Type 0
TurnIsRestored = (render : Renders) (config : StoreState) (w v : World) (run : List Happened) (edits : List (Option SiteEdit))
    (texts : List (List ℕ))
    → IsOfCalls w.site → IsApart w.site w.media → Runs render w run v → All (λ h. IsOfServer h.event) run → AreMade render run v edits
    → IsRestored config texts w → IsRestored config (texts ++ lines_of (accepted edits) ∷ []) v

-- a turn that made no edit adds nothing
abbrev pub QuietTurnIsRestored : Type 0
QuietTurnIsRestored = (render : Renders) (config : StoreState) (w v : World) (run : List Happened) (edits : List (Option SiteEdit))
    (texts : List (List ℕ))
    → Runs render w run v → All (λ h. IsOfServer h.event) run → AreMade render run v edits → accepted edits ≡ []
    → IsRestored config texts w → IsRestored config texts v

-- and the site behind a turn is as calls make it, as the one before
abbrev pub TurnStaysOfCalls : Type 0
TurnStaysOfCalls = (render : Renders) (w v : World) (run : List Happened) → IsOfCalls w.site → Runs render w run v
    → All (λ h. IsOfServer h.event) run → IsOfCalls v.site
