use Rattle.std.proofs.Common.{◌≡◌, ◌+◌, ◌≤◌, min, arith}
use Rattle.std.proofs.Math.Nat.{min-eq_left, min-eq_right}
use Rattle.doc_rules.specs.Columns.{indent}
use Rattle.doc_lines.specs.Cursors.{position_at, left_of}
use Rattle.doc_lines.proofs.AheadLaws.{text_column_is}
use Rattle.doc_lines.proofs.cursor.Cursor.indent_up_to.Goals as goal

pub overflow_sub-columns : goal.overflow_sub-columns
overflow_sub-columns c =
    let known : c.self.inside.text_column ≡ c.self.inside.column + indent (left_of c.args.self.now) = text_column_is
    c.self.inside.line_length c.self.inside.text.now c.self.inside.text_column (position_at c.self.inside.line_length
    c.self.inside.rest.now c.self.inside.column c.self.inside.in_tab) c.args.self.now c.self.view_is c.self.invariant.1
    c.self.invariant.2 in
    omega (arith, known)

pub returns-then-columns-most : goal.returns-then-columns-most
returns-then-columns-most c =
    let known : c.self.inside.text_column ≡ c.self.inside.column + indent (left_of c.args.self.now) = text_column_is
    c.self.inside.line_length c.self.inside.text.now c.self.inside.text_column (position_at c.self.inside.line_length
    c.self.inside.rest.now c.self.inside.column c.self.inside.in_tab) c.args.self.now c.self.view_is c.self.invariant.1
    c.self.invariant.2 in
    let few : indent (left_of c.args.self.now) ≤ c.args.most = omega (arith, known, c.if-columns-most.true) in
    let least : min c.args.most (indent (left_of c.args.self.now)) ≡ indent (left_of c.args.self.now) = min-eq_right few in
    omega (arith, known, least)

pub returns-else-columns-most : goal.returns-else-columns-most
returns-else-columns-most c =
    let known : c.self.inside.text_column ≡ c.self.inside.column + indent (left_of c.args.self.now) = text_column_is
    c.self.inside.line_length c.self.inside.text.now c.self.inside.text_column (position_at c.self.inside.line_length
    c.self.inside.rest.now c.self.inside.column c.self.inside.in_tab) c.args.self.now c.self.view_is c.self.invariant.1
    c.self.invariant.2 in
    let many : c.args.most ≤ indent (left_of c.args.self.now) = omega (arith, known, c.if-columns-most.false) in
    let least : min c.args.most (indent (left_of c.args.self.now)) ≡ c.args.most = min-eq_left many in
    omega (arith, least)
