use Rattle.doc_http.proofs.ProgressLemmas.{knows_head}
use Rattle.doc_http.proofs.progress.Progress.from_head.Goals as goal

pub returns-in-Unfinished-clause-knows : goal.returns-in-Unfinished-clause-knows
returns-in-Unfinished-clause-knows c = knows_head _ c.args.bytes.now (λ more. c.find_head-span.ensures.search c.in-Unfinished.is more)
