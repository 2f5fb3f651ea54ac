use Rattle.doc_hub.proofs.FreshLaws.{replies_as_fresh}
use Rattle.doc_hub.proofs.laws.replies_are_a_fresh_servers.Goals as goal

pub returns : goal.returns
returns c = replies_as_fresh
