use Rattle.doc_tables.proofs.LineLaws.{first_line_is, rest_of_cut}
use Rattle.doc_tables.proofs.lines.first_line.Goals as goal

pub front-requires : goal.front-requires
front-requires c = rest_of_cut _ _ c.line_end-end.ensures

pub returns : goal.returns
returns c = first_line_is _ _ _ _ c.line_end-end.ensures c.front.ensures.joins c.is.ensures
