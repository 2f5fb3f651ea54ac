use Rattle.doc_lines.specs.Cursors.{position_at}
use Rattle.doc_lines.proofs.AheadLaws.{line_behind, sound_at_text, ahead_at_text}
use Rattle.doc_lines.proofs.cursor.Cursor.pass_indent.Goals as goal

pub invariant_of-self : goal.invariant_of-self
invariant_of-self c =
    let from = position_at c.self.inside.line_length c.self.inside.rest.now c.self.inside.column c.self.inside.in_tab in (
      (c.self.invariant.2.0, c.self.invariant.0.1),
      sound_at_text c.self.inside.line_length c.self.inside.text.now c.self.inside.text_column from c.self.invariant.1 c.self.invariant.2,
      ahead_at_text c.self.inside.line_length c.self.inside.text.now c.self.inside.text_column from c.self.invariant.2,
    )

pub returns-clause-line : goal.returns-clause-line
returns-clause-line c = line_behind c.self.inside.line_length c.self.inside.text.now c.self.inside.text_column
    (position_at c.self.inside.line_length c.self.inside.rest.now c.self.inside.column c.self.inside.in_tab) c.args.self.now
    c.self.view_is c.self.invariant.1 c.self.invariant.2
