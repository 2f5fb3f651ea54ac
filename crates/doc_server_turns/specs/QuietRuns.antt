-- Runs of events of some kind, and those that are told to nobody.
use Rattle.std.specs.Prelude.{◌≡◌, ⊤, ℕ, List, [], All}
use Rattle.doc_hub.specs.Replies.{Renders}
use Rattle.doc_hub.specs.Runs.{Happened, Runs, sent_on}
use Rattle.doc_hub.specs.RunParts.{pushed_on}
use Rattle.doc_hub_events.specs.declared.event.Event.{Event}
use Rattle.doc_hub_events.specs.declared.event.Event.TheVariants as events
use Rattle.doc_hub.specs.Worlds.{World}

-- a connect, a push, a step or a disconnect, or whether puts are taken
abbrev pub IsOfPeers : Event → Type 0
IsOfPeers events.Connect = ⊤
IsOfPeers (events.On id call) = ⊤
IsOfPeers (events.TakePuts takes) = ⊤
IsOfPeers event = ⊥

-- a run of such events alone leads from one world to the other
pub record LeadsBy (Own : Event → Type 0) (render : Renders) (w v : World) : Type 0 where
  pub run : List Happened
  pub runs : Runs render w run v
  pub own : All (λ h. Own h.event) run

abbrev pub Leads : Renders → World → World → Type 0
Leads render w v = LeadsBy IsOfPeers render w v

-- one that pushes nothing to anybody's connection, and sends nothing there
pub record LeadsQuietlyBy (own : Event → Type 0) (render : Renders) (w v : World) : Type 0 where
  pub leads : LeadsBy own render w v
  pub pushes : (k : ℕ) → pushed_on k leads.run ≡ []
  pub sends : (k : ℕ) → sent_on k leads.run ≡ []

abbrev pub LeadsQuietly : Renders → World → World → Type 0
LeadsQuietly render w v = LeadsQuietlyBy IsOfPeers render w v
