-- What the records of a journal restore behind a reload; the proofs are in proofs/.
use Rattle.std.specs.Prelude.{◌≡◌, ◌+◌, ◌≤◌, ℕ, List, Some, Ok}
use Rattle.std.specs.FinMap as map
use Rattle.doc_store_readers.specs.Sites.{IsSite}
use Rattle.doc_store.specs.Store.{StoreState}
use Rattle.doc_store.specs.declared.site_edit.SiteEdit.{SiteEdit}
use Rattle.doc_media.specs.Media.{Media}
use Rattle.doc_hub.specs.Worlds.{World, store_of, with_store}
use Rattle.doc_server_restore.specs.Laws.{AreEdits}
use Rattle.doc_server_restore.specs.Restores.{all_made, edits_of_all, restored, unstamped}
use Rattle.doc_server_kept.specs.KeptTurns.{IsOfCalls, IsRestored}
use Rattle.doc_server_reload.specs.Leads.{led}

-- a configuration's pages alone: how many puts made them isn't counted
abbrev pub pages_alone : StoreState → StoreState
pages_alone config = record { site = config.site; stamps = map.empty; puts = 0 }

-- Behind a reload all of whose edits are made, the records over the new configuration's pages give the site, and it is as calls make it.
abbrev pub WhatIsLedIsRestored : Type 0
WhatIsLedIsRestored = (config again : StoreState) (texts : List (List ℕ)) (w v : World) → IsSite w.site → IsOfCalls again.site
    → restored w.media (unstamped config) texts ≡ Ok (unstamped again) → again.puts ≤ config.puts + w.puts
    → all_made w.media (store_of w) (led w.site again.site) ≡ Some (store_of v) → v ≡ with_store w (store_of v)
    → IsRestored (pages_alone config) texts v × IsOfCalls v.site

-- what records are read as are edits of paths, groups and texts as calls take them
abbrev pub ReadEditsAreEdits : Type 0
ReadEditsAreEdits = (texts : List (List ℕ)) (edits : List SiteEdit) → edits_of_all texts ≡ Some edits → AreEdits edits

-- so what records restore over a site as calls make it is such a site
abbrev pub RestoredSitesAreOfCalls : Type 0
RestoredSitesAreOfCalls = (media : Media) (config again : StoreState) (texts : List (List ℕ)) → IsOfCalls config.site
    → restored media (unstamped config) texts ≡ Ok again → IsOfCalls again.site
