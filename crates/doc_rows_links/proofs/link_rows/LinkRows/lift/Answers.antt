use Rattle.doc_rows_links.proofs.LinkLaws.{lifted_links}
use Rattle.doc_rows_links.proofs.PlaceSteps.{lifted_all, lifted_next, nothing_lifted}
use Rattle.doc_rows_links.proofs.link_rows.LinkRows.lift.Goals as goal

pub loop-link-init : goal.loop-link-init
loop-link-init c = nothing_lifted c.args.self.now c.args.path.now c.args.groups.now

pub loop-link-preserved : goal.loop-link-preserved
loop-link-preserved c =
    lifted_next c.args.self.now c.loop-link.self c.leave_link.new.self c.args.path.now c.args.groups.now c.args.links.now
    c.loop-link.link-index c.link-item.result c.loop-link-test.true c.link-item.is c.loop-link.invariant c.leave_link.ensures

pub returns : goal.returns
returns c = λ linking pages page stood has linked are.
    lifted_links linking pages c.args.path.now page c.args.groups.now c.args.links.now stood has linked c.args.self.now c.loop-link.self are
    (lifted_all c.args.self.now c.loop-link.self c.args.path.now c.args.groups.now c.args.links.now c.loop-link.link-index
    c.loop-link-test.false c.loop-link.invariant)
