-- The pages that a configuration gives are some configuration's.
use Rattle.std.proofs.Common.{◌≡◌, ℕ, List, refl, ap, sym, ◌∙◌}
use Rattle.std.specs.Prelude.{Some, None, Result, Ok, Err}
use Rattle.doc_store.specs.Store.{StoreState}
use Rattle.doc_server_config.specs.declared.config.SiteConfig.{SiteConfig}
use Rattle.doc_server_config.specs.declared.readme.Move.{Move}
use Rattle.doc_server_streams.specs.declared.fault.Fault.{Fault}
use Rattle.doc_server_restore.specs.Restores.{unstamped}
use Rattle.doc_server.specs.Sites.{site_world}
use Rattle.doc_server_files.specs.Compacting.{store_in}
use Rattle.doc_server_files.specs.Configured.{IsConfigured, configured_pages, moved_pages}

none_some : {X : Type 0} (x : X) → None ≡ Some x → ⊥
none_some x e = cc

-- what a configuration gives is some configuration's
pub as_configured : (config : SiteConfig) (texts : List (List ℕ)) (moves : List Move) (pages : StoreState)
    → configured_pages config texts moves ≡ Some (unstamped pages) → IsConfigured pages
as_configured config texts moves pages is = by (store_in (site_world config texts)) refl
  where
    by : (found : Result StoreState Fault) → store_in (site_world config texts) ≡ found → IsConfigured pages
    by (Err fault) none = absurd (none_some (unstamped pages) (ap (moved_pages moves) (sym none) ∙ is))
    by (Ok store) stands = record {
      config = config;
      texts = texts;
      moves = moves;
      store = store;
      stands = stands;
      moved = ap (moved_pages moves) (sym stands) ∙ is;
    }
