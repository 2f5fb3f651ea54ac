use Rattle.doc_lines.proofs.TableLaws.{either_some, either_none}
use Rattle.doc_lines.proofs.entities.table.find_either.Goals as goal

pub returns-in-Some : goal.returns-in-Some
returns-in-Some c = either_some _ _ _ _ _ c.find_built_in.ensures c.in-Some.is

pub returns : goal.returns
returns c = either_none _ _ _ _ _ c.find_built_in.ensures c.in_default.is c.find_added.ensures
