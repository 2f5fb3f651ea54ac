use Rattle.doc_links_pages.proofs.HeadingSteps.{copied}
use Rattle.doc_links_pages.proofs.page_links.copy_of.Goals as goal

pub returns : goal.returns
returns c = copied c.args.heading.now c.in_ok-copy.field-0 c.in_ok-copy-2.field-0 c.in_ok-copy.ensures c.in_ok-copy-2.ensures
