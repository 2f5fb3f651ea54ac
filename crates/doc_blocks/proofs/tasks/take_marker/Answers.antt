use Rattle.doc_blocks.proofs.TaskLaws.{no_brackets, no_mark, no_more, marked_is}
use Rattle.doc_blocks.proofs.tasks.take_marker.Goals as goal

pub returns-in_err-mark : goal.returns-in_err-mark
returns-in_err-mark c = rw c.from_residual.ensures (no_brackets _ c.in_err-mark.ensures)

pub returns-in_err-done : goal.returns-in_err-done
returns-in_err-done c =
    rw c.from_residual-in_err-done.ensures (no_mark _ _ _ c.in_ok-mark.ensures c.in_err-done.ensures)

pub returns-in_err-text : goal.returns-in_err-text
returns-in_err-text c =
    rw c.from_residual-in_err-text.ensures (no_more _ _ _ _ c.in_ok-mark.ensures c.in_ok-done.ensures c.in_err-text.ensures)

pub returns : goal.returns
returns c = marked_is _ _ _ _ _ c.in_ok-mark.ensures c.in_ok-done.ensures c.in_ok-text.ensures
