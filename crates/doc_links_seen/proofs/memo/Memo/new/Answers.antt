use Rattle.doc_links_seen.proofs.MemoSteps.{nothing_known}
use Rattle.doc_links_seen.proofs.memo.Memo.new.Goals as goal

pub returns : goal.returns
returns c = λ goals pages. nothing_known goals pages (record { known = c.new.result }) c.new.ensures.empty
