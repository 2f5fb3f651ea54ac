use Rattle.std.proofs.Common.{chars}
use Rattle.doc_html.proofs.TableSteps.{stands}
use Rattle.doc_html.proofs.tables.cell_text.Goals as goal

pub returns-then-not-cell : goal.returns-then-not-cell
returns-then-not-cell c = stands c.args.cell.is_escaped (chars c.args.cell.source.now) c.if-not-cell.true c.requires
