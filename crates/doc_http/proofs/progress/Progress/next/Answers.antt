use Rattle.std.proofs.Common.{subst}
use Rattle.doc_http.specs.declared.progress.Progress.TheVariants.{Head, Body}
use Rattle.doc_http.specs.KnowledgeSteps.{Knows}
use Rattle.doc_http.proofs.ProgressLemmas.{holds_now}
use Rattle.doc_http.proofs.progress.Progress.next.Goals as goal

pub from_head-requires-clause-came : goal.from_head-requires-clause-came
from_head-requires-clause-came c =
    holds_now (Head c.in-Head.search) c.args.bytes.now (subst (λ p. Knows p c.args.bytes.now) c.in-Head.is c.requires)

pub from_body-requires-clause-at : goal.from_body-requires-clause-at
from_body-requires-clause-at c =
    holds_now (Body c.in-Body.start c.in-Body.end c.in-Body.reader) c.args.bytes.now
    (subst (λ p. Knows p c.args.bytes.now) c.in-Body.is c.requires)
