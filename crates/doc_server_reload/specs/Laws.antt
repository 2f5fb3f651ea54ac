-- Laws of the edits that lead a site to another; the proofs are in proofs/.
use Rattle.std.specs.Prelude.{◌≡◌, ◌+◌, ◌≤◌, ℕ, List, [], length, None, Some, Ok}
use Rattle.std.specs.FinMap as map
use Rattle.doc_store_readers.specs.Pages.{Page}
use Rattle.doc_store_readers.specs.Sites.{Site, IsSite}
use Rattle.doc_store.specs.Store.{StoreState, page_limit, alias_limit, text_limit, put_limit}
use Rattle.doc_media.specs.Media.{Media}
use Rattle.doc_hub.specs.Worlds.{IsApart}
use Rattle.doc_server_script.specs.Compactions.{effects}
use Rattle.doc_server_restore.specs.Restores.{all_made, restored, unstamped}
use Rattle.doc_server_reload.specs.Leads.{led}

-- the edits make the one site the other
abbrev pub LedGivesTheSite : Type 0
LedGivesTheSite = (old new : Site) → IsSite old → IsSite new → effects old (led old new) ≡ new

-- no edit leads a site to itself
abbrev pub NothingLeadsToItself : Type 0
NothingLeadsToItself = (site : Site) → led site site ≡ []

-- A site is no larger than a store may be, and stamps are left for the edits that lead to it.
pub record HasRoomToLead (store : StoreState) (new : Site) : Type 0 where
  pub pages : map.len new.pages ≤ page_limit
  pub aliases : map.len new.aliases ≤ alias_limit
  pub texts : (path : List ℕ) (page : Page) → map.get new.pages path ≡ Some page → length page.text ≤ text_limit
  pub puts : store.puts + length (led store.site new) ≤ put_limit

-- a store refuses none of them, and has the other site afterwards
abbrev pub LedIsMade : Type 0
LedIsMade = (store : StoreState) (new : Site) → IsSite store.site → IsSite new → HasRoomToLead store new
    → (after : StoreState) × (all_made None (unstamped store) (led store.site new) ≡ Some after) × (after.site ≡ new)

-- the same beside media, on none of whose paths the other site has a name
abbrev pub LedIsMadeBeside : Type 0
LedIsMadeBeside = (media : Media) (store : StoreState) (new : Site) → IsSite store.site → IsSite new → IsApart new media
    → HasRoomToLead store new
    → (after : StoreState) × (all_made media (unstamped store) (led store.site new) ≡ Some after) × (after.site ≡ new)

-- where they are all made, beside whatever media, the store has the other site afterwards
abbrev pub WhatIsMadeGivesTheSite : Type 0
WhatIsMadeGivesTheSite = (media : Media) (store after : StoreState) (new : Site) → IsSite store.site → IsSite new
    → all_made media store (led store.site new) ≡ Some after → after.site ≡ new

-- A reload is a restart: a served store is led to the site that a start would restore now, from the records of the journal over the
-- configuration as it stands, and has this site afterwards.
abbrev pub ReloadIsARestart : Type 0
ReloadIsARestart = (old config again : StoreState) (records : List (List ℕ)) → IsSite old.site → IsSite config.site
    → restored None (unstamped config) records ≡ Ok again → HasRoomToLead old again.site
    → (after : StoreState) × (all_made None (unstamped old) (led old.site again.site) ≡ Some after) × (after.site ≡ again.site)

-- the same beside media, on none of whose paths what is restored has a name
abbrev pub AReloadIsARestartBeside : Type 0
AReloadIsARestartBeside = (media : Media) (old config again : StoreState) (records : List (List ℕ)) → IsSite old.site → IsSite config.site
    → restored media (unstamped config) records ≡ Ok again → IsApart again.site media → HasRoomToLead old again.site
    → (after : StoreState) × (all_made media (unstamped old) (led old.site again.site) ≡ Some after) × (after.site ≡ again.site)
