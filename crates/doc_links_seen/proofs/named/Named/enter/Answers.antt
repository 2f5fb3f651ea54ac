use Rattle.std.proofs.Common.{◌∙◌}
use Rattle.doc_links_seen.proofs.WholeSteps.{entries_in, next_in}
use Rattle.doc_links_seen.proofs.named.Named.enter.Goals as goal

pub loop-number-init : goal.loop-number-init
loop-number-init c = (
  entries_in c.args.page.now.anchors c.into_iter-number-iterator.result
      (c.into_iter-number-iterator.ensures.into_iter_gives ∙ c.iter-number-items.ensures),
  λ numbers at are. are,
)

pub loop-number-preserved : goal.loop-number-preserved
loop-number-preserved c =
    let so_far = c.loop-number.invariant in
    let here = next_in c.args.page.now.anchors c.loop-number.number-iterator c.next.new.self (c.in-Some-2.number, c.in-Some-2.field-0-1)
    c.in-Some-2.ensures.steps so_far.0 in (
      here.1,
      λ numbers at are.
          c.set.ensures numbers c.args.slot c.args.page.now at c.in-Some.ensures.1 here.0 (so_far.1 numbers at are),
    )
