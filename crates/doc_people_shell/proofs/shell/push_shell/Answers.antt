use Rattle.doc_people.specs.Shell.{shell}
use Rattle.doc_people_shell.proofs.WriteSteps.{eight_written}
use Rattle.doc_people_shell.proofs.shell.push_shell.Goals as goal

pub returns : goal.returns
unfolding shell
returns g c =
    eight_written _ _ _ _ _ _ _ _ _ _ _ _ _ _ _ _ _
    c.in_ok-push_top.ensures
    c.in_ok-push_over.ensures
    c.in_ok-push_main.ensures
    c.in_ok-push_aside.ensures
    c.in_ok-push_tree.ensures
    c.in_ok-push_str.ensures.bytes
    c.in_ok-push_foot.ensures
    c.in_ok-push_str-2.ensures.bytes
