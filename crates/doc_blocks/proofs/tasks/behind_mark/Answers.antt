use Rattle.std.proofs.Common.{rules, ◌≡◌, ◌==◌, true, false}
use Rattle.doc_rules.specs.Characters.{is_space_or_tab}
use Rattle.doc_blocks_starts.proofs.StripLaws.{front_goes}
use Rattle.doc_blocks.proofs.TaskLaws.{nothing_behind, line_behind, text_behind}
use Rattle.doc_blocks.proofs.tasks.behind_mark.Goals as goal

pub returns-in_err-c : goal.returns-in_err-c
returns-in_err-c c =
    rw c.from_residual.ensures (nothing_behind _ _ (front_goes is_space_or_tab _ _ (c.many-rest.ensures.value is_space_or_tab (λ d b h. h)))
    c.in_err-c.ensures.characters)

pub returns-then-c-eq10 : goal.returns-then-c-eq10
returns-then-c-eq10 c =
    let feed : (c.in_ok-c.c == 10) ≡ true = search rules in
    line_behind _ _ _ _ (front_goes is_space_or_tab _ _ (c.many-rest.ensures.value is_space_or_tab (λ d b h. h)))
    c.in_ok-c.ensures.characters feed

pub returns-else-c-eq10 : goal.returns-else-c-eq10
returns-else-c-eq10 c =
    let other : (c.in_ok-c.c == 10) ≡ false = search rules in
    text_behind _ _ _ _ (front_goes is_space_or_tab _ _ (c.many-rest.ensures.value is_space_or_tab (λ d b h. h)))
    c.in_ok-c.ensures.characters other
