use Rattle.doc_tables.proofs.PartLaws.{first_part_is}
use Rattle.doc_tables.proofs.parts.first_part.Goals as goal

pub returns : goal.returns
returns c = first_part_is _ _ _ _ c.front.ensures.joins c.end_of_part-end.ensures.value c.is.ensures
