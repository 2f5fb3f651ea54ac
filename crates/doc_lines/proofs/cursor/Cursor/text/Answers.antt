use Rattle.doc_lines.specs.Cursors.{position_at}
use Rattle.doc_lines.proofs.AheadLaws.{text_is}
use Rattle.doc_lines.proofs.cursor.Cursor.text.Goals as goal

pub returns : goal.returns
returns c = text_is c.self.inside.line_length c.self.inside.text.now c.self.inside.text_column (position_at c.self.inside.line_length
    c.self.inside.rest.now c.self.inside.column c.self.inside.in_tab) c.args.self.now c.self.view_is c.self.invariant.1
    c.self.invariant.2
