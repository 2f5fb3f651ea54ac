use Rattle.doc_lines.proofs.LineLaws.{lines_are_lines}
use Rattle.doc_lines.proofs.lines.characters_of_lines_are_lines.Goals as goal

pub returns : goal.returns
returns c = lines_are_lines
