use Rattle.doc_rules.proofs.ParserLaws.{is_rest_again}
use Rattle.doc_lines.proofs.scan.run.some.Goals as goal

pub returns-clause-end : goal.returns-clause-end
returns-clause-end g c = is_rest_again _ _ _ c.many.ensures.end c.in_ok-rest.ensures.end
