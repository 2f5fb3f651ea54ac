use Rattle.std.proofs.Common.{sym}
use Rattle.doc_links.proofs.numbering.enter_page.Goals as goal

pub returns-clause-numbered : goal.returns-clause-numbered
returns-clause-numbered c are = c.enter.ensures.numbered c.args.pages.now (sym c.in-Some-slot.ensures.page) are
