use Rattle.std.proofs.Common.{rules, ◌≡◌, true, false, chars, sym, ◌∙◌, arith}
use Rattle.doc_rules.specs.Characters.{is_space_or_tab}
use Rattle.doc_lines.proofs.AheadLaws.{text_here, text_at_end, text_further, fewer_left}
use Rattle.doc_lines.proofs.cursor.behind_gap.Goals as goal

pub characters-preserved : goal.characters-preserved
characters-preserved c =
    let gap : is_space_or_tab c.in-Some.c ≡ true = sym c.is_space_or_tab.ensures ∙ c.if-not-is_space_or_tab.false in
    let fewer = fewer_left c.characters.rest.now c.in-Some.behind.now c.characters.at c.in-Some.c c.width_at.result c.in-Some.ensures.bytes
    c.width_at.ensures in
    record {
      is_text = search rules;
      within = omega (arith, fewer.0, c.characters.invariant.within);
      small = omega (arith, fewer.1, c.characters.invariant.small);
      same = λ n h. text_further n c.characters.rest.now c.in-Some.behind.now c.characters.at c.in-Some.c c.width_at.result
          (omega (arith, h, c.characters.invariant.within)) c.in-Some.ensures.bytes c.in-Some.ensures.characters c.width_at.ensures gap
          ∙ c.characters.invariant.same n h;
    }

pub characters-smaller : goal.characters-smaller
characters-smaller c = (fewer_left c.characters.rest.now c.in-Some.behind.now c.characters.at c.in-Some.c c.width_at.result
    c.in-Some.ensures.bytes c.width_at.ensures).0

pub returns-then-not-is_space_or_tab-clause-place : goal.returns-then-not-is_space_or_tab-clause-place
returns-then-not-is_space_or_tab-clause-place c =
    let other : is_space_or_tab c.in-Some.c ≡ false = sym c.is_space_or_tab.ensures ∙ c.if-not-is_space_or_tab.true in
    λ n h. text_here n c.characters.rest.now c.characters.at c.in-Some.c (chars c.in-Some.behind.now) c.in-Some.ensures.characters other
    ∙ c.characters.invariant.same n h

pub returns-clause-place : goal.returns-clause-place
returns-clause-place c = λ n h. text_at_end n c.characters.rest.now c.characters.at c.in_default.ensures.characters
    ∙ c.characters.invariant.same n h
