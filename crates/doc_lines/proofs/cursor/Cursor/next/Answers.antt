use Rattle.std.proofs.Common.{◌≡◌, ◌+◌, ◌-◌, ℕ, true, false, length, chars, ap, sym, ◌∙◌, arith}
use Rattle.doc_rules.specs.Characters.{is_space_or_tab}
use Rattle.doc_lines.specs.Cursors.{position_at, behind_first, after_next}
use Rattle.doc_lines.proofs.AheadLaws.{ahead_behind, within_behind}
use Rattle.doc_lines.proofs.CursorLaws.{behind_is}
use Rattle.doc_lines.proofs.cursor.Cursor.next.Goals as goal

pub invariant_of-self : goal.invariant_of-self
invariant_of-self c =
    let there = within_behind c.self.inside.line_length c.self.inside.rest.now c.in_ok-c.rest.now c.self.inside.column c.in_ok-c.c
    c.width_at.result c.self.inside.in_tab c.self.invariant.0 c.self.invariant.1 c.in_ok-c.ensures.bytes c.in_ok-c.ensures.characters
    c.width_at.ensures in
    let gap : is_space_or_tab c.in_ok-c.c ≡ true = sym c.is_space_or_tab.ensures ∙ c.if-is_space_or_tab.true in (
      there.0,
      there.1,
      ahead_behind c.self.inside.line_length c.self.inside.rest.now c.in_ok-c.rest.now c.self.inside.text.now c.self.inside.column
          c.self.inside.text_column c.in_ok-c.c c.width_at.result c.self.inside.in_tab c.self.invariant.0.0 c.in_ok-c.ensures.bytes
          c.in_ok-c.ensures.characters c.width_at.ensures gap c.self.invariant.2,
    )

pub invariant_of-self-2 : goal.invariant_of-self-2
invariant_of-self-2 c =
    let there = within_behind c.self.inside.line_length c.self.inside.rest.now c.in_ok-c.rest.now c.self.inside.column c.in_ok-c.c
    c.width_at.result c.self.inside.in_tab c.self.invariant.0 c.self.invariant.1 c.in_ok-c.ensures.bytes c.in_ok-c.ensures.characters
    c.width_at.ensures in (
      there.0,
      there.1,
      (
        omega (arith, there.0.0, c.behind_gap-text_column.ensures.within),
        c.behind_gap-text_column.ensures.place
            c.self.inside.line_length there.0.0,
      ),
    )

pub returns-clause-place : goal.returns-clause-place
returns-clause-place c =
    ap (λ (n : ℕ). record {
      place = c.self.inside.line_length - length c.in_ok-c.rest.now;
      column = c.self.inside.column + n;
      in_tab = false;
      rest = chars c.in_ok-c.rest.now;
    }) c.width_at.ensures
    ∙ behind_is c.self.inside.line_length c.self.inside.rest.now c.in_ok-c.rest.now c.self.inside.column c.in_ok-c.c c.self.inside.in_tab
    c.self.invariant.0.0 c.in_ok-c.ensures.bytes
    ∙ sym (ap (behind_first (position_at c.self.inside.line_length c.self.inside.rest.now c.self.inside.column c.self.inside.in_tab))
    c.in_ok-c.ensures.characters)
    ∙ ap after_next c.self.view_is
