use Rattle.doc_rules.proofs.ParserLaws.{is_rest_again}
use Rattle.doc_lines.proofs.escapes.reference.named_reference.Goals as goal
use Rattle.doc_lines.proofs.Rests.{is_rest}

pub returns-clause-end : goal.returns-clause-end
returns-clause-end c = is_rest_again _ _ _ (is_rest 59 _ _ c.in_ok-behind.ensures) c.in_ok-end.ensures.end
