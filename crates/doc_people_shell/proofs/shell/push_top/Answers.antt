use Rattle.doc_people_shell.proofs.WriteSteps.{three_written}
use Rattle.doc_people_shell.proofs.shell.push_top.Goals as goal

pub returns : goal.returns
returns c =
    three_written _ _ _ _ _ _ _
    c.in_ok-push_head.ensures
    c.in_ok-push_bar.ensures
    c.in_ok-push_str.ensures.bytes
