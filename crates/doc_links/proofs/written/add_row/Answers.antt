use Rattle.std.proofs.Common.{◌∙◌}
use Rattle.std.specs.FinMap as map
use Rattle.std.specs.Ordering.{nat_cmp}
use Rattle.doc_page_parts.proofs.Maps.{is_sorted_keys}
use Rattle.doc_links.proofs.WrittenSteps.{all_added, to_add_first, to_add_next}
use Rattle.doc_links.proofs.written.add_row.Goals as goal

pub loop-slot-init : goal.loop-slot-init
loop-slot-init c =
    to_add_first (map.entries c.args.row.now) _ c.args.counts.now.items
    (is_sorted_keys nat_cmp (map.entries c.args.row.now) (map.entries_sorted c.args.row.now))
    (c.into_iter-slot-iterator.ensures.into_iter_gives ∙ c.iter-slot-items.ensures)

pub loop-slot-preserved : goal.loop-slot-preserved
loop-slot-preserved c =
    to_add_next (map.entries c.args.row.now) c.loop-slot.slot-iterator c.next.new.self (c.in-Some.slot, c.in-Some.count)
    c.args.counts.now.items c.loop-slot.counts.items c.add_count.new.counts.items c.in-Some.ensures.steps c.in_ok-add_count.ensures
    c.loop-slot.invariant

pub returns : goal.returns
returns c =
    all_added c.args.row.now c.loop-slot.slot-iterator c.args.counts.now.items c.loop-slot.counts.items
    c.in-None.ensures.steps.0 c.loop-slot.invariant
