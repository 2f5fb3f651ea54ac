use Rattle.doc_cache.proofs.CacheLaws.{kept_texts_are_found}
use Rattle.doc_cache.proofs.laws.kept_texts_are_found.Goals as goal

pub returns : goal.returns
returns c = kept_texts_are_found
