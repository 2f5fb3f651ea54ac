use Rattle.std.proofs.Common.{◌-◌, length}
use Rattle.doc_http_bodies.specs.KnowledgeSteps.{Knows}
use Rattle.doc_http_bodies.specs.StageSteps.{start_of}
use Rattle.doc_http_bodies.proofs.stage.advance.Given as goal

abbrev pub invariant-stages : goal.invariant-stages
invariant-stages l = Knows l.stage l.window

abbrev pub decreases-stages : goal.decreases-stages
decreases-stages l = length l.window - start_of l.stage
