-- Laws of a restoration; the proofs are in proofs/.
use Rattle.std.specs.Prelude.{◌≡◌, ℕ, List, [], ◌∷◌, ⊤, None, Some, Ok}
use Rattle.doc_store_readers.specs.Groups.{IsGroups}
use Rattle.doc_store_readers.specs.Sites.{Site, IsSite}
use Rattle.doc_store.specs.Store.{StoreState}
use Rattle.doc_store.specs.declared.site_edit.SiteEdit.{SiteEdit}
use Rattle.doc_store.specs.declared.site_edit.SiteEdit.TheVariants as site_edits
use Rattle.doc_server_script.specs.Laws.{IsText, IsPathText}
use Rattle.doc_server_script.specs.Compactions.{compacted}
use Rattle.doc_server_script.specs.PageLines.{lines_of}
use Rattle.doc_server_script.specs.Replays.{HasRoom}
use Rattle.doc_server_restore.specs.Written.{AreLines}
use Rattle.doc_server_restore.specs.Restores.{edits_of, restored, unstamped}

-- an edit of paths, groups and a text as every call takes them
abbrev pub IsEdit : SiteEdit → Type 0
IsEdit (site_edits.Put path groups text) = IsPathText path × IsGroups groups × IsText text
IsEdit (site_edits.Remove path) = IsPathText path
IsEdit (site_edits.Move from to) = IsPathText from × IsPathText to

abbrev pub AreEdits : List SiteEdit → Type 0
AreEdits [] = ⊤
AreEdits (edit ∷ edits) = IsEdit edit × AreEdits edits

-- what is written of edits, one line for each, reads as these edits
abbrev pub LinesAreRead : Type 0
LinesAreRead = (edits : List SiteEdit) → AreEdits edits → edits_of (lines_of edits) ≡ Some edits

-- what a compaction writes, restored on the configuration's site, gives the other site
abbrev pub CompactionIsRestored : Type 0
CompactionIsRestored = (store : StoreState) (site : Site) (records : List (List ℕ)) → IsSite store.site → IsSite site → HasRoom store site
    → AreEdits (compacted store.site site) → AreLines records (compacted store.site site)
    → (after : StoreState) × (restored None (unstamped store) records ≡ Ok after) × (after.site ≡ site)
