use Rattle.doc_hub.proofs.ReachedLaws.{made_replies}
use Rattle.doc_hub.proofs.laws.replies_are_those_of_a_hub_of_the_view.Goals as goal

pub returns : goal.returns
returns c = made_replies
