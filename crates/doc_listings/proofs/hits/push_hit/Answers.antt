use Rattle.std.proofs.Common.{◌++◌, ◌∙◌, ap, codes, decimal, string_bytes}
use Rattle.doc_page_parts.proofs.BufferSteps.{front_more, front_same}
use Rattle.doc_listings.proofs.WriteSteps.{fourfold, on_err}
use Rattle.doc_listings.proofs.hits.push_hit.Goals as goal

pub returns-clause-ok : goal.returns-clause-ok
returns-clause-ok c =
    fourfold _ _ _ _ _ (decimal c.args.hit.now.score) (codes "\t") c.args.hit.now.path (codes "\n")
    c.in_ok-push_number.ensures.ok c.in_ok-push_str.ensures.bytes (c.in_ok-push_str-2.ensures.bytes ∙ ap (λ t. string_bytes
    c.push_str.new.self ++ t) c.text.ensures) c.in_ok-push_str-3.ensures.bytes

pub returns-in_err-push_number-clause-err : goal.returns-in_err-push_number-clause-err
returns-in_err-push_number-clause-err c = on_err _ c.in_err-push_number.ensures.err

pub returns-in_err-push_str-clause-err : goal.returns-in_err-push_str-clause-err
returns-in_err-push_str-clause-err c =
    on_err _ (front_more _ _ _ _ c.in_ok-push_number.ensures.ok (front_same _ _ c.in_err-push_str.ensures.bytes))

pub returns-in_err-push_str-2-clause-err : goal.returns-in_err-push_str-2-clause-err
returns-in_err-push_str-2-clause-err c =
    on_err _ (front_more _ _ _ _ c.in_ok-push_number.ensures.ok (front_more _ _ _ _ c.in_ok-push_str.ensures.bytes (front_same _ _
    c.in_err-push_str-2.ensures.bytes)))

pub returns-in_err-push_str-3-clause-err : goal.returns-in_err-push_str-3-clause-err
returns-in_err-push_str-3-clause-err c =
    on_err _ (front_more _ _ _ _ c.in_ok-push_number.ensures.ok (front_more _ _ _ _ c.in_ok-push_str.ensures.bytes (front_more _ _ _ _
    c.in_ok-push_str-2.ensures.bytes (front_same _ _ c.in_err-push_str-3.ensures.bytes))))
