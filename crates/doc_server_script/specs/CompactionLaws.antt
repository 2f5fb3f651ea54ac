-- Laws of compaction; the proofs are in proofs/.
use Rattle.std.specs.Prelude.{◌≡◌, Some, option_map}
use Rattle.doc_store_readers.specs.Sites.{Site, IsSite}
use Rattle.doc_store.specs.Store.{StoreState}
use Rattle.doc_server_script.specs.Compactions.{compacted, effects}
use Rattle.doc_server_script.specs.Replays.{HasRoom, replayed}

-- the edits lead from the one site to the other
abbrev pub GivesTheSite : Type 0
GivesTheSite = (config site : Site) → IsSite config → IsSite site → effects config (compacted config site) ≡ site

-- a store refuses none of them, and has the other site afterwards
abbrev pub ReplayGivesTheSite : Type 0
ReplayGivesTheSite = (store : StoreState) (site : Site) → IsSite store.site → IsSite site → HasRoom store site
    → option_map (λ after. after.site) (replayed (Some store) (compacted store.site site)) ≡ Some site
