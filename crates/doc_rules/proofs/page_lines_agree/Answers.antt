use Rattle.doc_rules.proofs.PageLineLaws.{page_lines_agree}
use Rattle.doc_rules.proofs.page_lines_agree.Goals as goal

pub returns : goal.returns
returns c = page_lines_agree
