use Rattle.doc_http.proofs.HeadLemmas.{came_nowhere}
use Rattle.doc_http.proofs.head.HeadSearch.new.Goals as goal

pub returns : goal.returns
returns c = came_nowhere
