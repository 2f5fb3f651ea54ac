use Rattle.std.proofs.Common.{◌≡◌, ◌+◌, ◌-◌, ◌≤◌, ◌<◌, ℕ, true, false, chars, ap, sym, ◌∙◌, arith}
use Rattle.doc_rules.specs.Characters.{is_space_or_tab}
use Rattle.doc_rules.specs.Columns.{width_at}
use Rattle.doc_lines.specs.Cursors.{Position, position_at, skipped}
use Rattle.doc_lines.proofs.AheadLaws.{sound_part, ahead_part, ahead_behind, within_behind}
use Rattle.doc_lines.proofs.CursorLaws.{skipped_at_end, skipped_at_other, skipped_part, skipped_whole, behind_is}
use Rattle.doc_lines.proofs.cursor.Cursor.skip_one.Goals as goal

pub returns-in_default-clause-stop : goal.returns-in_default-clause-stop
returns-in_default-clause-stop c = λ _. skipped_at_end c.args.columns c.args.self.now (ap (λ (p : Position). p.rest) (sym c.self.view_is)
    ∙ c.in_default.ensures.characters)

pub returns-then-not-is_space_or_tab-clause-stop : goal.returns-then-not-is_space_or_tab-clause-stop
returns-then-not-is_space_or_tab-clause-stop c =
    let other : is_space_or_tab c.in-Some.c ≡ false = sym c.is_space_or_tab.ensures ∙ c.if-not-is_space_or_tab.true in
    λ _. skipped_at_other c.args.columns c.in-Some.c (chars c.in-Some.rest.now) c.args.self.now
    (ap (λ (p : Position). p.rest) (sym c.self.view_is) ∙ c.in-Some.ensures.characters) other

pub returns-then-columns-width-clause-place : goal.returns-then-columns-width-clause-place
returns-then-columns-width-clause-place c =
    let from : Position = position_at c.self.inside.line_length c.self.inside.rest.now c.self.inside.column c.self.inside.in_tab in
    let gap : is_space_or_tab c.in-Some.c ≡ true = sym c.is_space_or_tab.ensures ∙ c.if-not-is_space_or_tab.false in
    let less : c.args.columns < width_at c.in-Some.c c.self.inside.column = omega
    (arith, c.width_at-width.ensures, c.if-columns-width.true) in
    ap (skipped c.args.columns) (sym c.self.view_is) ∙ skipped_part c.args.columns c.in-Some.c (chars c.in-Some.rest.now) from
    c.in-Some.ensures.characters gap c.requires less

pub returns-clause-place : goal.returns-clause-place
returns-clause-place c =
    let from : Position = position_at c.self.inside.line_length c.self.inside.rest.now c.self.inside.column c.self.inside.in_tab in
    let gap : is_space_or_tab c.in-Some.c ≡ true = sym c.is_space_or_tab.ensures ∙ c.if-not-is_space_or_tab.false in
    let fits : width_at c.in-Some.c c.self.inside.column ≤ c.args.columns = omega
    (arith, c.width_at-width.ensures, c.if-columns-width.false) in
    ap (skipped c.args.columns) (sym c.self.view_is)
    ∙ skipped_whole c.args.columns c.in-Some.c (chars c.in-Some.rest.now) from c.in-Some.ensures.characters gap c.requires fits
    ∙ ap (skipped (c.args.columns - width_at c.in-Some.c c.self.inside.column))
    (sym (behind_is c.self.inside.line_length c.self.inside.rest.now c.in-Some.rest.now c.self.inside.column c.in-Some.c
    c.self.inside.in_tab c.self.invariant.0.0 c.in-Some.ensures.bytes))
    ∙ ap (λ (w : ℕ). skipped (c.args.columns - w) (position_at c.self.inside.line_length c.in-Some.rest.now (c.self.inside.column + w)
    false)) (sym c.width_at-width.ensures)

pub invariant_of-self : goal.invariant_of-self
invariant_of-self c =
    let from : Position = position_at c.self.inside.line_length c.self.inside.rest.now c.self.inside.column c.self.inside.in_tab in
    let gap : is_space_or_tab c.in-Some.c ≡ true = sym c.is_space_or_tab.ensures ∙ c.if-not-is_space_or_tab.false in
    let less : c.args.columns < width_at c.in-Some.c c.self.inside.column = omega
    (arith, c.width_at-width.ensures, c.if-columns-width.true) in (
      c.self.invariant.0,
      sound_part c.self.inside.in_tab from.place c.self.inside.column c.args.columns c.in-Some.c from.rest (chars c.in-Some.rest.now)
          c.self.invariant.1 c.in-Some.ensures.characters gap c.requires less,
      ahead_part c.self.inside.line_length c.self.inside.text.now c.self.inside.text_column from c.args.columns c.in-Some.c
          (chars c.in-Some.rest.now) c.in-Some.ensures.characters gap c.requires less c.self.invariant.2,
    )

pub invariant_of-self-2 : goal.invariant_of-self-2
invariant_of-self-2 c =
    let gap : is_space_or_tab c.in-Some.c ≡ true = sym c.is_space_or_tab.ensures ∙ c.if-not-is_space_or_tab.false in
    let there = within_behind c.self.inside.line_length c.self.inside.rest.now c.in-Some.rest.now c.self.inside.column c.in-Some.c
    c.width_at-width.result c.self.inside.in_tab c.self.invariant.0 c.self.invariant.1 c.in-Some.ensures.bytes
    c.in-Some.ensures.characters c.width_at-width.ensures in (
      there.0,
      there.1,
      ahead_behind c.self.inside.line_length c.self.inside.rest.now c.in-Some.rest.now c.self.inside.text.now c.self.inside.column
          c.self.inside.text_column c.in-Some.c c.width_at-width.result c.self.inside.in_tab c.self.invariant.0.0 c.in-Some.ensures.bytes
          c.in-Some.ensures.characters c.width_at-width.ensures gap c.self.invariant.2,
    )
