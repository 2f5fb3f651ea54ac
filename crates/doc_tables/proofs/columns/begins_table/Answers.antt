use Rattle.doc_tables.proofs.TextLaws.{counted, uncounted}
use Rattle.doc_tables.proofs.columns.begins_table.Goals as goal

pub returns-in-Some : goal.returns-in-Some
returns-in-Some c = counted _ _ _ _ c.in-Some.ensures c.has_cells.ensures

pub returns-in-None : goal.returns-in-None
returns-in-None c = uncounted _ _ c.in-None.ensures
