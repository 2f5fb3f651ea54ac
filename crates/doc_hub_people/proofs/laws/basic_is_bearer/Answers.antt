use Rattle.doc_hub_people.proofs.AskingLaws.{basic_is_bearer}
use Rattle.doc_hub_people.proofs.laws.basic_is_bearer.Goals as goal

pub returns : goal.returns
returns c = basic_is_bearer
