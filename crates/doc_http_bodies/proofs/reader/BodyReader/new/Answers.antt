use Rattle.std.proofs.Common.{take}
use Rattle.doc_http_bodies.specs.KnowledgeSteps.{KnowsOf}
use Rattle.doc_http_bodies.specs.Readings.{encoded_limit}
use Rattle.doc_http_bodies.proofs.StageLemmas.{knows_first}
use Rattle.doc_http_bodies.proofs.reader.BodyReader.new.Goals as goal

pub returns-clause-knows : goal.returns-clause-knows
unfolding KnowsOf
returns-clause-knows c = λ bytes. knows_first (take encoded_limit bytes)
