-- What the command `listen` is of, and what stops it.
use Rattle.std.specs.Prelude.{◌≡◌, ℕ, List, Bool, Some, Ok}
use Rattle.doc_hub.specs.Worlds.{World, store_of, with_store}
use Rattle.doc_media.specs.Media.{Media}
use Rattle.doc_server.specs.Sites.{site_world_taking}
use Rattle.doc_server_config.specs.declared.config.SiteConfig.{SiteConfig}
use Rattle.doc_server_config.specs.declared.readme.Move.{Move}
use Rattle.doc_server_restore.specs.Restores.{all_made}
use Rattle.doc_server_files.specs.Moving.{edits_of_moves}

-- The world of a configured site beside media, which takes edits or none, behind the moves of its READMEs.
pub record IsReady (takes : Bool) (config : SiteConfig) (texts : List (List ℕ)) (media : Media) (moves : List Move)
    (world : World) : Type 0 where
  pub first : World
  pub stands : site_world_taking takes config texts media ≡ Ok first
  pub moved : all_made first.media (store_of first) (edits_of_moves moves) ≡ Some (store_of world)
  pub others : world ≡ with_store first (store_of world)
