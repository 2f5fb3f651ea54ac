use Rattle.doc_refs_parts.proofs.MapLaws.{finds_the_reference}
use Rattle.doc_refs_parts.proofs.laws.targets_are_found_by_label.Goals as goal

pub returns : goal.returns
returns c = finds_the_reference
