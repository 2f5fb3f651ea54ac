use Rattle.doc_hub.proofs.FreshLaws.{new_replies_as_fresh}
use Rattle.doc_hub.proofs.laws.replies_of_a_new_hub_are_a_fresh_servers.Goals as goal

pub returns : goal.returns
returns c = new_replies_as_fresh
