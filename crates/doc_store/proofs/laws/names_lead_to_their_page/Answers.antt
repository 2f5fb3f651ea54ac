use Rattle.doc_store.proofs.NamesLaw.{names_lead}
use Rattle.doc_store.proofs.laws.names_lead_to_their_page.Goals as goal

pub returns : goal.returns
returns c = names_lead
