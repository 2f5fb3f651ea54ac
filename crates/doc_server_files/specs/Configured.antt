-- The pages that a configuration gives. All of this is this project's choice.
use Rattle.std.specs.Prelude.{◌≡◌, ℕ, List, Option, Some, None, Result, Ok, Err}
use Rattle.doc_store.specs.Store.{StoreState}
use Rattle.doc_server_config.specs.declared.config.SiteConfig.{SiteConfig}
use Rattle.doc_server_config.specs.declared.readme.Move.{Move}
use Rattle.doc_server_streams.specs.declared.fault.Fault.{Fault}
use Rattle.doc_server_restore.specs.Restores.{all_made, unstamped}
use Rattle.doc_server.specs.Sites.{site_world}
use Rattle.doc_server_files.specs.Compacting.{store_in}
use Rattle.doc_server_files.specs.Moving.{edits_of_moves}

-- the pages of a site, where they stand, behind some moves, where all are accepted
abbrev pub moved_pages : List Move → Result StoreState Fault → Option StoreState
moved_pages moves (Err fault) = None
moved_pages moves (Ok store) = all_made None store (edits_of_moves moves)

-- the pages of a configuration with these texts of its files, behind some moves
abbrev pub configured_pages : SiteConfig → List (List ℕ) → List Move → Option StoreState
configured_pages config texts moves = moved_pages moves (store_in (site_world config texts))

-- the pages of some configuration: those of its rows, with the texts of its files, behind the moves of its READMEs
pub record IsConfigured (pages : StoreState) : Type 0 where
  pub config : SiteConfig
  pub texts : List (List ℕ)
  pub moves : List Move
  pub store : StoreState
  pub stands : store_in (site_world config texts) ≡ Ok store
  pub moved : all_made None store (edits_of_moves moves) ≡ Some (unstamped pages)
