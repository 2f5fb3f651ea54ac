use Rattle.doc_store_tags.proofs.DigestLaws.{equal_digests}
use Rattle.doc_store_tags.proofs.laws.equal_tags_are_equal_digests.Goals as goal

pub returns : goal.returns
returns c = equal_digests
