use Rattle.std.proofs.Common.{refl}
use Rattle.doc_page_parts.proofs.BufferSteps.{front_more, front_same}
use Rattle.doc_listings.proofs.WriteSteps.{framed, on_err}
use Rattle.doc_listings.proofs.contents.push_heading_start.Goals as goal

pub returns-clause-ok : goal.returns-clause-ok
returns-clause-ok c =
    framed _ _ _ _ _ _ _ _ refl c.in_ok-push_str.ensures.bytes c.in_ok-push_level.ensures.ok c.in_ok-push_str-2.ensures.bytes

pub returns-in_err-push_str-clause-err : goal.returns-in_err-push_str-clause-err
returns-in_err-push_str-clause-err c = on_err _ (front_same _ _ c.in_err-push_str.ensures.bytes)

pub returns-in_err-push_level-clause-err : goal.returns-in_err-push_level-clause-err
returns-in_err-push_level-clause-err c = on_err _ (front_more _ _ _ _ c.in_ok-push_str.ensures.bytes c.in_err-push_level.ensures.err)

pub returns-in_err-push_str-2-clause-err : goal.returns-in_err-push_str-2-clause-err
returns-in_err-push_str-2-clause-err c =
    on_err _ (front_more _ _ _ _ c.in_ok-push_str.ensures.bytes (front_more _ _ _ _ c.in_ok-push_level.ensures.ok (front_same _ _
    c.in_err-push_str-2.ensures.bytes)))
