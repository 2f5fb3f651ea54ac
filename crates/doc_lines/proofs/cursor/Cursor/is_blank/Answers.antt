use Rattle.std.proofs.Common.{rules, ◌∙◌}
use Rattle.doc_lines.specs.Cursors.{position_at}
use Rattle.doc_lines.proofs.AheadLaws.{blank_by_chars}
use Rattle.doc_lines.proofs.Ends.{empty_is_nothing}
use Rattle.doc_lines.proofs.cursor.Cursor.is_blank.Goals as goal

pub returns : goal.returns
returns c = c.is_empty.ensures ∙ empty_is_nothing c.self.inside.text.now (search rules) ∙ blank_by_chars
    c.self.inside.line_length c.self.inside.text.now c.self.inside.text_column (position_at c.self.inside.line_length
    c.self.inside.rest.now c.self.inside.column c.self.inside.in_tab) c.args.self.now c.self.view_is c.self.invariant.1
    c.self.invariant.2
