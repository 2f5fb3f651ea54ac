use Rattle.doc_people.specs.Shell.{bare}
use Rattle.doc_page_parts.proofs.BufferSteps.{five_written}
use Rattle.doc_people_shell.proofs.shell.push_bare.Goals as goal

pub returns : goal.returns
unfolding bare
returns c =
    five_written _ _ _ _ _ _ _ _ _ _ _
    c.in_ok-push_head.ensures
    c.in_ok-push_str.ensures.bytes
    c.in_ok-push_main.ensures
    c.in_ok-push_str-2.ensures.bytes
    c.in_ok-push_str-3.ensures.bytes
