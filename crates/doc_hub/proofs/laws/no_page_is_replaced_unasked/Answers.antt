use Rattle.doc_hub.proofs.EditingLaws.{no_page_is_replaced_unasked}
use Rattle.doc_hub.proofs.laws.no_page_is_replaced_unasked.Goals as goal

pub returns : goal.returns
returns c = no_page_is_replaced_unasked
