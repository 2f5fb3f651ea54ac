use Rattle.doc_shelf_pages.proofs.CutAnswers.{stores_answer_alike}
use Rattle.doc_shelf_pages.proofs.view_laws.stores_that_look_alike_answer_alike.Goals as goal

pub returns : goal.returns
returns c = stores_answer_alike
