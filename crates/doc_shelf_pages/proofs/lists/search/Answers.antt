use Rattle.std.proofs.Common.{ap, ◌∙◌}
use Rattle.doc_listings.specs.Listings.{hits_text}
use Rattle.doc_shelf_pages.proofs.ListSteps.{made}
use Rattle.doc_shelf_pages.proofs.lists.search.Goals as goal

pub returns : goal.returns
returns c render k =
    made c.new.result _ _ _ c.new.ensures c.in_ok-push_hits.ensures.ok c.new-out.ensures.bytes
    ∙ ap hits_text (c.get.ensures ∙ c.in_ok-hits.ensures render k)
