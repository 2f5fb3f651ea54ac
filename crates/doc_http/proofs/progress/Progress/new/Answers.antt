use Rattle.doc_http.proofs.ProgressLemmas.{knows_head}
use Rattle.doc_http.proofs.progress.Progress.new.Goals as goal

pub returns : goal.returns
returns c = λ bytes. knows_head _ bytes (λ more. c.new.ensures _)
