use Rattle.std.proofs.Common.{ap, ◌∙◌}
use Rattle.std.specs.Prelude.{map as mapped}
use Rattle.std.specs.List.{list_any}
use Rattle.std.specs.Ordering.{eq_by_cmp, nat_cmp}
use Rattle.doc_links_seen.proofs.NamedSteps.{fewer, gone_first, gone_next}
use Rattle.doc_links_seen.proofs.named.Named.leave.Goals as goal

pub loop-number-init : goal.loop-number-init
loop-number-init c = (
  λ n stand e. e,
  gone_first c.args.page.now.anchors c.args.self.now.slots.items c.args.slot c.into_iter-number-iterator.result
      (c.into_iter-number-iterator.ensures.into_iter_gives ∙ c.iter-number-items.ensures),
)

pub loop-number-preserved : goal.loop-number-preserved
loop-number-preserved c = (
  λ n stand e. c.loop-number.invariant.0 n stand (c.clear.ensures.kept n stand e),
  gone_next c.args.page.now.anchors c.loop-number.self.slots.items c.clear.new.self.slots.items c.args.slot c.loop-number.number-iterator
      c.next.new.self (c.in-Some.number, c.in-Some.field-0-1) c.in-Some.ensures.steps c.clear.ensures.kept c.clear.ensures.gone
      c.loop-number.invariant.1,
)

pub returns-clause-kept : goal.returns-clause-kept
returns-clause-kept c = λ numbers are. fewer numbers _ _ c.loop-number.invariant.0 are

pub returns-clause-gone : goal.returns-clause-gone
returns-clause-gone c = λ n has.
    c.loop-number.invariant.1 n has (ap (λ es. list_any (eq_by_cmp nat_cmp n) (mapped (λ e. e.0) es)) c.in-None.ensures.steps.0)
