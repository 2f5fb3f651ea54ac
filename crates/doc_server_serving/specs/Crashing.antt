-- What a crash leaves while a server serves.
use Rattle.std.specs.Prelude.{◌≡◌, ◌++◌, ℕ, List, Option, IsSome}
use Rattle.doc_hub.specs.Replies.{Renders}
use Rattle.doc_hub.specs.Runs.{Happened, Runs}
use Rattle.doc_hub.specs.Worlds.{World}
use Rattle.doc_server_network.specs.Crashes.{Restores}
use Rattle.doc_store.specs.Store.{StoreState}

-- devices whose file is known at each moment, as those in memory are
abbrev pub AreKnown : {D : Type 0} → (D → Option (List ℕ)) → Type 0
AreKnown {D} seen = (device : D) → IsSome (seen device)

-- A file whose records, made again over the configuration's pages, give the site behind a front of a run.
pub record RestoresFront (config : StoreState) (render : Renders) (w : World) (run : List Happened) (file : List ℕ) : Type 0 where
  pub front : List Happened
  pub rest : List Happened
  pub is : run ≡ front ++ rest
  pub world : World
  pub runs : Runs render w front world
  pub restores : Restores config world file

-- The same over one of some configurations.
pub record RestoresFrontBy (in_force : StoreState → Type 0) (render : Renders) (w : World) (run : List Happened) (file : List ℕ)
    : Type 0 where
  pub config : StoreState
  pub is_in_force : in_force config
  pub restores : RestoresFront config render w run file
