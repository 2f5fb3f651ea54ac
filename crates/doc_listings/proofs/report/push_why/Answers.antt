use Rattle.std.proofs.Common.{◌++◌, ◌∙◌, ap, codes, string_bytes}
use Rattle.doc_page_parts.proofs.BufferSteps.{front_more, front_same}
use Rattle.doc_listings.specs.Listings.{reason_name}
use Rattle.doc_listings.proofs.WriteSteps.{fourfold, on_err}
use Rattle.doc_listings.proofs.report.push_why.Goals as goal

pub returns-clause-ok : goal.returns-clause-ok
returns-clause-ok c =
    fourfold _ _ _ _ _ (reason_name c.args.link.now.reason) (codes "\t") c.args.link.now.target (codes "\n")
    (c.in_ok-push_str.ensures.bytes ∙ ap (λ t. string_bytes c.args.out.now ++ t) c.reason_name.ensures)
    c.in_ok-push_str-2.ensures.bytes (c.in_ok-push_str-3.ensures.bytes ∙ ap (λ t. string_bytes c.push_str-2.new.self ++ t) c.get.ensures)
    c.in_ok-push_str-4.ensures.bytes

pub returns-in_err-push_str-clause-err : goal.returns-in_err-push_str-clause-err
returns-in_err-push_str-clause-err c = on_err _ (front_same _ _ c.in_err-push_str.ensures.bytes)

pub returns-in_err-push_str-2-clause-err : goal.returns-in_err-push_str-2-clause-err
returns-in_err-push_str-2-clause-err c =
    on_err _ (front_more _ _ _ _ c.in_ok-push_str.ensures.bytes (front_same _ _ c.in_err-push_str-2.ensures.bytes))

pub returns-in_err-push_str-3-clause-err : goal.returns-in_err-push_str-3-clause-err
returns-in_err-push_str-3-clause-err c =
    on_err _ (front_more _ _ _ _ c.in_ok-push_str.ensures.bytes (front_more _ _ _ _ c.in_ok-push_str-2.ensures.bytes (front_same _ _
    c.in_err-push_str-3.ensures.bytes)))

pub returns-in_err-push_str-4-clause-err : goal.returns-in_err-push_str-4-clause-err
returns-in_err-push_str-4-clause-err c =
    on_err _ (front_more _ _ _ _ c.in_ok-push_str.ensures.bytes (front_more _ _ _ _ c.in_ok-push_str-2.ensures.bytes (front_more _ _ _ _
    c.in_ok-push_str-3.ensures.bytes (front_same _ _ c.in_err-push_str-4.ensures.bytes))))
