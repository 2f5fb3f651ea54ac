use Rattle.std.proofs.Common.{◌≡◌, ◌++◌, drop, map as mapped}
use Rattle.doc_index.specs.Held.{entries_of, slot_at}
use Rattle.doc_shelf_pages.specs.RenderingSteps.{flagged_lines, texts_of}
use Rattle.doc_shelf_pages.proofs.lined.flagged_lines.Given as goal

-- the lines of the slots so far, with those of the slots that are left by the flags that are left, are all
abbrev pub invariant-slots : goal.invariant-slots
invariant-slots l =
    texts_of l.lines.items ++ flagged_lines l.left (entries_of (mapped (slot_at l.pages) (drop l.slot-index l.slots)))
    ≡ flagged_lines l.flags (entries_of (mapped (slot_at l.pages) l.slots))
