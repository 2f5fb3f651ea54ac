use Rattle.std.proofs.lemmas.List.{drop_all}
use Rattle.std.proofs.Common.{◌+◌, drop, map as mapped}
use Rattle.doc_index.specs.Held.{slot_at}
use Rattle.doc_shelf_pages.proofs.LinedSteps.{slot_more, slots_end}
use Rattle.doc_shelf_pages.proofs.lined.flagged_lines.Goals as goal

pub slots-preserved : goal.slots-preserved
slots-preserved c =
    slot_more c.args.pages.now c.args.slots.now c.slots.slot-index _ _ _ c.slots.left.now c.in_ok-left.left.now c.slots-test.true
    (c.in_ok-left.ensures (mapped (slot_at c.args.pages.now) (drop (c.slots.slot-index + 1) c.args.slots.now)))
    c.slots.invariant

pub returns : goal.returns
returns c =
    slots_end c.args.pages.now c.args.slots.now c.slots.slot-index _ _ c.slots.left.now
    (drop_all c.slots.slot-index c.args.slots.now c.slots-test.false) c.slots.invariant
