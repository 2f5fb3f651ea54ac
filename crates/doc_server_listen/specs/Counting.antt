-- How many pages stand behind a run of peers' events, and how long the lines of its edits are.
use Rattle.std.specs.Prelude.{◌≡◌, ◌≤◌, ◌+◌, ◌*◌, ℕ, List, length, All, Option, Some, false}
use Rattle.std.specs.FinMap as map
use Rattle.doc_store.specs.Store.{page_limit}
use Rattle.doc_store.specs.declared.site_edit.SiteEdit.{SiteEdit}
use Rattle.doc_hub.specs.Replies.{Renders}
use Rattle.doc_hub.specs.RunParts.{served_by}
use Rattle.doc_hub.specs.Runs.{Happened, Runs}
use Rattle.doc_hub.specs.Worlds.{World}
use Rattle.doc_server_script.specs.PageLines.{lines_of}
use Rattle.doc_server_listen.specs.Edits.{AreMade, accepted, longest_removal}

abbrev pub count_in : World → ℕ
count_in w = map.len w.site.pages

-- No more pages stand than may, and whether puts are taken is as before. Where none is taken each edit removes a page, by a short line.
pub record Counts (w v : World) (edits : List SiteEdit) : Type 0 where
  pub limit : count_in w ≤ page_limit → count_in v ≤ page_limit
  pub taking : v.takes_puts ≡ w.takes_puts
  pub removes : w.takes_puts ≡ false → count_in v + length edits ≡ count_in w
  pub short : w.takes_puts ≡ false → length (lines_of edits) ≤ longest_removal * length edits

-- a push, a step or a disconnect of some connection
abbrev pub IsOfPeer : Happened → Type 0
IsOfPeer h = (c : ℕ) × (served_by h.event ≡ Some c)

abbrev pub EditsAreCounted : Type 0
EditsAreCounted = (render : Renders) (w v : World) (run : List Happened) (edits : List (Option SiteEdit)) → Runs render w run v
    → All IsOfPeer run → AreMade render run v edits → Counts w v (accepted edits)
