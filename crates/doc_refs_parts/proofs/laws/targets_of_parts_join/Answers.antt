use Rattle.doc_refs_parts.proofs.MapLaws.{joins_definitions}
use Rattle.doc_refs_parts.proofs.laws.targets_of_parts_join.Goals as goal

pub returns : goal.returns
returns c = joins_definitions
