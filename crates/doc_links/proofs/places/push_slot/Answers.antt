use Rattle.doc_links_seen.specs.SeenSteps.{pages_at}
use Rattle.doc_links.proofs.PlaceSteps.{nothing_at, one_at}
use Rattle.doc_links.proofs.places.push_slot.Goals as goal

pub returns-in_default : goal.returns-in_default
returns-in_default c =
    nothing_at c.args.pages.now c.args.path.now c.args.stamp (pages_at c.args.pages.now c.args.slots.now.items) c.in_default.ensures.held

pub returns : goal.returns
returns c =
    let there = c.in-Some.ensures.slot in
    one_at c.args.pages.now c.args.path.now c.args.stamp c.len-apart.ensures.apart c.args.slots.now.items _ c.in-Some.slot there.0
    there.1 there.2 there.3 c.in_ok-push.ensures.items
