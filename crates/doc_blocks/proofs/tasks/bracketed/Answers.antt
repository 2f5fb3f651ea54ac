use Rattle.std.proofs.Common.{chars, Some, None}
use Rattle.doc_rules.specs.Characters.{is_space_or_tab}
use Rattle.doc_blocks.proofs.TaskLaws.{no_bracket, nothing_inside, never_closed, in_brackets_is}
use Rattle.doc_blocks.proofs.tasks.bracketed.Goals as goal

pub returns-in_err-inside : goal.returns-in_err-inside
returns-in_err-inside c = rw c.from_residual.ensures (no_bracket _ c.in_err-inside.ensures)

pub returns-in_err-mark : goal.returns-in_err-mark
returns-in_err-mark c =
    rw c.from_residual-in_err-mark.ensures (nothing_inside _ _ c.in_ok-inside.ensures c.in_err-mark.ensures.characters)

pub returns-in_err-behind : goal.returns-in_err-behind
returns-in_err-behind c =
    rw c.from_residual-in_err-behind.ensures (never_closed _ _ _ _ c.in_ok-inside.ensures c.in_ok-mark.ensures.characters
    c.in_err-behind.ensures)

pub returns-in_err-text : goal.returns-in_err-text
returns-in_err-text c =
    rw c.from_residual-in_err-text.ensures (in_brackets_is _ _ _ _ c.in_ok-mark.mark None c.in_ok-inside.ensures
    c.in_ok-mark.ensures.characters c.in_ok-behind.ensures (c.in_err-text.ensures.value is_space_or_tab (λ d b h. h)))

pub returns : goal.returns
returns c =
    in_brackets_is _ _ _ _ c.in_ok-mark.mark (Some (chars c.in_ok-text.text.now)) c.in_ok-inside.ensures c.in_ok-mark.ensures.characters
    c.in_ok-behind.ensures (c.in_ok-text.ensures.value is_space_or_tab (λ d b h. h))
