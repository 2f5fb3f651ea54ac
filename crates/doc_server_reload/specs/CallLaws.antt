-- Behind a reload a site is as calls make it; the proofs are in proofs/.
use Rattle.std.specs.Prelude.{◌≡◌, ℕ, List, Some, Ok}
use Rattle.doc_store_readers.specs.Sites.{IsSite}
use Rattle.doc_store.specs.Store.{StoreState}
use Rattle.doc_store.specs.declared.site_edit.SiteEdit.{SiteEdit}
use Rattle.doc_media.specs.Media.{Media}
use Rattle.doc_server_restore.specs.Laws.{AreEdits}
use Rattle.doc_server_restore.specs.Restores.{all_made, edits_of_all, restored, unstamped}
use Rattle.doc_server_kept.specs.KeptTurns.{IsOfCalls}
use Rattle.doc_server_reload.specs.Leads.{led}

-- Edits of paths, groups and texts as calls take them, where all are made, leave a site as calls make it so. What the records of a journal
-- restore over a configuration is such a site, where the configuration's is and the records' edits are such; and so is the site behind a
-- reload, all of whose edits are made, from whatever site.
pub record ReloadsStayOfCalls : Type 0 where
  pub made : (media : Media) (store after : StoreState) (edits : List SiteEdit) → IsOfCalls store.site → AreEdits edits
      → all_made media store edits ≡ Some after → IsOfCalls after.site
  pub restored : (media : Media) (config again : StoreState) (records : List (List ℕ)) (edits : List SiteEdit) → IsOfCalls config.site
      → edits_of_all records ≡ Some edits → AreEdits edits → restored media (unstamped config) records ≡ Ok again
      → IsOfCalls again.site
  pub reloaded : (media : Media) (old again after : StoreState) → IsSite old.site → IsOfCalls again.site
      → all_made media (unstamped old) (led old.site again.site) ≡ Some after → IsOfCalls after.site
