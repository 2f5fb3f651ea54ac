use Rattle.doc_page_parts.proofs.BufferSteps.{five_written}
use Rattle.doc_people_statuses.proofs.statuses.push_location.Goals as goal

pub returns : goal.returns
returns c =
    five_written _ _ _ _ _ _ _ _ _ _ _
    c.in_ok-push_str.ensures.bytes
    c.in_ok-push_escaped.ensures.ok
    c.in_ok-push_str-2.ensures.bytes
    c.in_ok-push_escaped-2.ensures.ok
    c.in_ok-push_str-3.ensures.bytes
