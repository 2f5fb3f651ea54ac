use Rattle.doc_page_parts.proofs.BufferSteps.{five_written}
use Rattle.doc_people_shell.proofs.crumbs.push_over_at.Goals as goal

pub returns : goal.returns
returns g c =
    five_written _ _ _ _ _ _ _ _ _ _ _
    c.in_ok-push_str.ensures.bytes
    c.in_ok-push_crumbs.ensures
    c.in_ok-push_str-2.ensures.bytes
    c.in_ok-push_tools.ensures
    c.in_ok-push_str-3.ensures.bytes
