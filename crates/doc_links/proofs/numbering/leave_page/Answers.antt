use Rattle.doc_links.proofs.NumberingSteps.{none_there}
use Rattle.doc_links.proofs.numbering.leave_page.Goals as goal

pub returns-in_default-clause-gone : goal.returns-in_default-clause-gone
returns-in_default-clause-gone c =
    none_there c.args.pages.now c.len-apart.ensures.apart c.args.numbering.now.numbers.items c.args.path.now c.args.stamp
    c.in_default.ensures.held

pub returns-clause-numbered : goal.returns-clause-numbered
returns-clause-numbered c are = c.leave.ensures.numbered c.args.pages.now are
