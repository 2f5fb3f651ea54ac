use Rattle.std.proofs.Common.{◌≡◌, ◌+◌, ◌≤◌, min, ap, sym, ◌∙◌, subst, arith}
use Rattle.std.proofs.Math.Nat.{min-eq_right}
use Rattle.doc_rules.specs.Columns.{indent}
use Rattle.doc_lines.specs.Cursors.{IsSound, skipped, position_at, left_of}
use Rattle.doc_lines.proofs.AheadLaws.{text_column_is, all_skipped}
use Rattle.doc_lines.proofs.CursorLaws.{skipped_none, skip_ends, left_of_skipped}
use Rattle.doc_lines.proofs.cursor.Cursor.skip.Goals as goal

pub returns-then-taken-eq0-clause-line : goal.returns-then-taken-eq0-clause-line
returns-then-taken-eq0-clause-line c =
    let sound : IsSound c.args.self.now = subst IsSound c.self.view_is c.self.invariant.1 in
    let there : c.skip_one-taken.new.self ≡ skipped c.args.columns c.args.self.now = c.skip_one-taken.ensures.stop c.if-taken-eq0.true
    ∙ c.loop-left.invariant.1 in
    (skip_ends c.args.columns c.loop-left.left c.args.self.now c.skip_one-taken.new.self sound c.loop-left.invariant.0 there
    (omega (arith, c.skip_one-taken.ensures.column, c.loop-left.invariant.2))).0

pub returns-then-taken-eq0-clause-columns : goal.returns-then-taken-eq0-clause-columns
returns-then-taken-eq0-clause-columns c =
    let sound : IsSound c.args.self.now = subst IsSound c.self.view_is c.self.invariant.1 in
    let there : c.skip_one-taken.new.self ≡ skipped c.args.columns c.args.self.now = c.skip_one-taken.ensures.stop c.if-taken-eq0.true
    ∙ c.loop-left.invariant.1 in
    (skip_ends c.args.columns c.loop-left.left c.args.self.now c.skip_one-taken.new.self sound c.loop-left.invariant.0 there
    (omega (arith, c.skip_one-taken.ensures.column, c.loop-left.invariant.2))).1

pub returns-clause-place : goal.returns-clause-place
returns-clause-place c =
    let none : 0 ≡ c.loop-left.left = omega arith in
    sym (skipped_none c.loop-left.self) ∙ ap (λ n. skipped n c.loop-left.self) none ∙ c.loop-left.invariant.1

pub returns-clause-line : goal.returns-clause-line
returns-clause-line c =
    let sound : IsSound c.args.self.now = subst IsSound c.self.view_is c.self.invariant.1 in
    let none : 0 ≡ c.loop-left.left = omega arith in
    let there : c.loop-left.self ≡ skipped c.args.columns c.args.self.now = sym (skipped_none c.loop-left.self)
    ∙ ap (λ n. skipped n c.loop-left.self) none ∙ c.loop-left.invariant.1 in
    (skip_ends c.args.columns c.loop-left.left c.args.self.now c.loop-left.self sound c.loop-left.invariant.0 there
    c.loop-left.invariant.2).0

pub returns-clause-columns : goal.returns-clause-columns
returns-clause-columns c =
    let sound : IsSound c.args.self.now = subst IsSound c.self.view_is c.self.invariant.1 in
    let none : 0 ≡ c.loop-left.left = omega arith in
    let there : c.loop-left.self ≡ skipped c.args.columns c.args.self.now = sym (skipped_none c.loop-left.self)
    ∙ ap (λ n. skipped n c.loop-left.self) none ∙ c.loop-left.invariant.1 in
    let taken = (skip_ends c.args.columns c.loop-left.left c.args.self.now c.loop-left.self sound c.loop-left.invariant.0 there
    c.loop-left.invariant.2).1 in
    omega (arith, taken, none)

pub overflow_sub-all : goal.overflow_sub-all
overflow_sub-all c =
    let known : c.self.inside.text_column ≡ c.self.inside.column + indent (left_of c.args.self.now) = text_column_is
    c.self.inside.line_length c.self.inside.text.now c.self.inside.text_column (position_at c.self.inside.line_length
    c.self.inside.rest.now c.self.inside.column c.self.inside.in_tab) c.args.self.now c.self.view_is c.self.invariant.1
    c.self.invariant.2 in
    omega (arith, known)

pub returns-then-all-columns-clause-place : goal.returns-then-all-columns-clause-place
returns-then-all-columns-clause-place c =
    let known : c.self.inside.text_column ≡ c.self.inside.column + indent (left_of c.args.self.now) = text_column_is
    c.self.inside.line_length c.self.inside.text.now c.self.inside.text_column (position_at c.self.inside.line_length
    c.self.inside.rest.now c.self.inside.column c.self.inside.in_tab) c.args.self.now c.self.view_is c.self.invariant.1
    c.self.invariant.2 in
    let sound : IsSound c.args.self.now = subst IsSound c.self.view_is c.self.invariant.1 in
    c.pass_indent.ensures.place ∙ all_skipped c.args.columns c.args.self.now sound (omega (arith, known, c.if-all-columns.true))

pub returns-then-all-columns-clause-line : goal.returns-then-all-columns-clause-line
returns-then-all-columns-clause-line c =
    let known : c.self.inside.text_column ≡ c.self.inside.column + indent (left_of c.args.self.now) = text_column_is
    c.self.inside.line_length c.self.inside.text.now c.self.inside.text_column (position_at c.self.inside.line_length
    c.self.inside.rest.now c.self.inside.column c.self.inside.in_tab) c.args.self.now c.self.view_is c.self.invariant.1
    c.self.invariant.2 in
    let sound : IsSound c.args.self.now = subst IsSound c.self.view_is c.self.invariant.1 in
    ap left_of (c.pass_indent.ensures.place ∙ all_skipped c.args.columns c.args.self.now sound
    (omega (arith, known, c.if-all-columns.true)))
    ∙ left_of_skipped c.args.columns c.args.self.now sound

pub returns-then-all-columns-clause-columns : goal.returns-then-all-columns-clause-columns
returns-then-all-columns-clause-columns c =
    let known : c.self.inside.text_column ≡ c.self.inside.column + indent (left_of c.args.self.now) = text_column_is
    c.self.inside.line_length c.self.inside.text.now c.self.inside.text_column (position_at c.self.inside.line_length
    c.self.inside.rest.now c.self.inside.column c.self.inside.in_tab) c.args.self.now c.self.view_is c.self.invariant.1
    c.self.invariant.2 in
    let few : indent (left_of c.args.self.now) ≤ c.args.columns = omega (arith, known, c.if-all-columns.true) in
    let least : min c.args.columns (indent (left_of c.args.self.now)) ≡ indent (left_of c.args.self.now) = min-eq_right few in
    omega (arith, known, least)
