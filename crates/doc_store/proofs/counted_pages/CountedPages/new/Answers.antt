use Rattle.doc_store.proofs.PageCounts.{none_numbered}
use Rattle.doc_store.proofs.counted_pages.CountedPages.new.Goals as goal

pub invariant_of-result : goal.invariant_of-result
invariant_of-result c = rw (c.new.ensures, c.new-2.ensures, c.new-3.ensures) none_numbered
