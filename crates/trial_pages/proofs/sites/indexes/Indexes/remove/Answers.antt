use Rattle.doc_links.proofs.StampSteps.{removed}
use Rattle.trial_pages.proofs.sites.indexes.Indexes.remove.Goals as goal

pub invariant_of-self : goal.invariant_of-self
invariant_of-self c = (
  rw c.drop_page.ensures.rest (removed _ 7 c.self.invariant.0 (c.args.path.now, 7)),
  rw c.drop_page-2.ensures.rest (removed _ 7 c.self.invariant.1 (c.args.path.now, 7)),
)
