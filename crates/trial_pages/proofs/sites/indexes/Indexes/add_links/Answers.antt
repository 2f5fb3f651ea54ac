use Rattle.doc_links.proofs.StampSteps.{free, removed}
use Rattle.trial_pages.proofs.HoldSteps.{held_then}
use Rattle.trial_pages.proofs.sites.indexes.Indexes.add_links.Goals as goal

pub add-requires : goal.add-requires
add-requires c = record { free = rw c.drop_page.ensures.rest (free _ 7 (c.args.path.now, 7)) }

pub invariant_of-self : goal.invariant_of-self
invariant_of-self c = (
  held_then 7 _ _ _ _ c.add.result c.add.ensures.ok c.add.ensures.err
      (rw c.drop_page.ensures.rest (removed _ 7 c.self.invariant.0 (c.args.path.now, 7))),
  c.self.invariant.1,
)
