use Rattle.doc_store_tags.proofs.TagLaws.{pages_apart}
use Rattle.doc_store_tags.proofs.laws.tags_tell_pages_apart.Goals as goal

pub returns : goal.returns
returns c = pages_apart
