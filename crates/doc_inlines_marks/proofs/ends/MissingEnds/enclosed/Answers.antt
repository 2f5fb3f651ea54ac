use Rattle.std.proofs.Common.{[], refl, ap, ◌∙◌}
use Rattle.doc_rules.proofs.ParserLaws.{is_rest_again}
use Rattle.doc_inlines_marks.specs.FoundSteps.{enclosed_found}
use Rattle.doc_inlines_marks.proofs.Addresses.{is_splits, nothing_at, uri_at, mail_at, raw_at, none_at, behind_one, stands_behind_one}
use Rattle.doc_inlines_marks.proofs.ends.MissingEnds.enclosed.Goals as goal

pub returns-in_err-inside-clause-value : goal.returns-in_err-inside-clause-value
returns-in_err-inside-clause-value c = λ whole told rest. ap enclosed_found c.from_residual.ensures ∙ nothing_at _ c.in_err-inside.ensures

pub returns-in-Some-clause-value : goal.returns-in-Some-clause-value
returns-in-Some-clause-value c = λ whole told rest. uri_at _ _ _ _ c.in_ok-inside.ensures c.in-Some.ensures

pub returns-in-Some-clause-slice : goal.returns-in-Some-clause-slice
returns-in-Some-clause-slice c = stands_behind_one 60 _ _ _ _ c.in_ok-inside.ensures c.in-Some.ensures.stands

pub returns-in-Some-clause-end : goal.returns-in-Some-clause-end
returns-in-Some-clause-end c = is_rest_again _ _ _ c.in-Some.ensures.end (behind_one 60 _ _ c.in_ok-inside.ensures)

pub returns-in-Some-mail_address-clause-value : goal.returns-in-Some-mail_address-clause-value
returns-in-Some-mail_address-clause-value c = λ whole told rest. mail_at _ _ _ _ c.in_ok-inside.ensures c.in_default.ensures
    c.in-Some-mail_address.ensures

pub returns-in-Some-mail_address-clause-slice : goal.returns-in-Some-mail_address-clause-slice
returns-in-Some-mail_address-clause-slice c = stands_behind_one 60 _ _ _ _ c.in_ok-inside.ensures c.in-Some-mail_address.ensures.stands

pub returns-in-Some-mail_address-clause-end : goal.returns-in-Some-mail_address-clause-end
returns-in-Some-mail_address-clause-end c = is_rest_again _ _ _ c.in-Some-mail_address.ensures.end
    (behind_one 60 _ _ c.in_ok-inside.ensures)

pub returns-in_err-after-clause-value : goal.returns-in_err-after-clause-value
returns-in_err-after-clause-value c = λ whole told rest.
    ap enclosed_found c.from_residual-in_err-after.ensures
    ∙ none_at _ _ c.in_ok-inside.ensures c.in_default.ensures c.in_default-mail_address.ensures
    (c.in_err-after.ensures.value whole told rest)

pub front-requires : goal.front-requires
front-requires c = c.in_ok-after.ensures.rest _ refl

pub returns-clause-value : goal.returns-clause-value
returns-clause-value c = λ whole told rest.
    raw_at _ _ _ _ c.in_ok-inside.ensures c.in_default.ensures c.in_default-mail_address.ensures
    (c.in_ok-after.ensures.value whole told rest) c.front.ensures.value

pub returns-clause-slice : goal.returns-clause-slice
returns-clause-slice c = record { front = []; between = []; split = c.front.ensures.joins }

pub raw_html-requires : goal.raw_html-requires
raw_html-requires c = is_splits 60 _ _ c.in_ok-inside.ensures

pub returns-in_err-after-clause-told : goal.returns-in_err-after-clause-told
returns-in_err-after-clause-told c = c.in_err-after.ensures.told

pub returns-clause-told : goal.returns-clause-told
returns-clause-told c = c.in_ok-after.ensures.told

pub returns-clause-end : goal.returns-clause-end
returns-clause-end c = c.in_ok-after.ensures.rest _ refl
