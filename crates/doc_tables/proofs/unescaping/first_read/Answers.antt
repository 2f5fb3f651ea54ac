use Rattle.doc_tables.proofs.UnescapeLaws.{pair_read, one_read, pair_shorter}
use Rattle.doc_tables.proofs.unescaping.first_read.Goals as goal

pub returns-in-Some-clause-value : goal.returns-in-Some-clause-value
returns-in-Some-clause-value c = pair_read _ _ _ c.in-Some.ensures

pub returns-in-Some-clause-size : goal.returns-in-Some-clause-size
returns-in-Some-clause-size c = pair_shorter _ _ _ c.in-Some.ensures

pub returns-in-None-clause-value : goal.returns-in-None-clause-value
returns-in-None-clause-value c = one_read _ _ c.in-None.ensures
