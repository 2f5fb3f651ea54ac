use Rattle.std.specs.Prelude.{None}
use Rattle.std.proofs.Common.{rules, ◌≡◌, ◌∙◌, ap, arith}
use Rattle.std.specs.Char.{is_ascii_digit}
use Rattle.doc_rules.specs.Escapes.{number, code_point}
use Rattle.doc_lines.specs.MeaningSteps.{behind_of}
use Rattle.doc_rules.proofs.ParserLaws.{is_rest_again}
use Rattle.doc_lines.proofs.Digits.{decimal_is, digits_before, number_is_inside}
use Rattle.doc_lines.proofs.escapes.reference.decimal_reference.Goals as goal
use Rattle.doc_lines.proofs.Rests.{is_rest}

pub front-requires : goal.front-requires
front-requires c = is_rest_again _ _ _ c.at_most-end.ensures.end c.in_ok-second.ensures.end

pub decimal_number-requires : goal.decimal_number-requires
decimal_number-requires c =
    digits_before is_ascii_digit 6 7 _ _ _ _ (omega arith) (c.in_ok-second.ensures.value is_ascii_digit (λ d b h. h))
    (c.at_most-end.ensures.value is_ascii_digit (λ d b h. h)) c.front.ensures.joins

pub returns-clause-behind : goal.returns-clause-behind
returns-clause-behind c =
    decimal_is _ _ _ _ _ c.in_ok-digits.ensures (c.in_ok-second.ensures.value is_ascii_digit (λ d b h. h))
    (c.at_most-end.ensures.value is_ascii_digit (λ d b h. h)) c.in_ok-rest.ensures

pub returns-in_err-rest-clause-behind : goal.returns-in_err-rest-clause-behind
returns-in_err-rest-clause-behind c =
    let none : behind_of c.from_residual-in_err-rest.result ≡ None = search rules in
    none
    ∙ decimal_is _ _ _ _ _ c.in_ok-digits.ensures (c.in_ok-second.ensures.value is_ascii_digit (λ d b h. h))
    (c.at_most-end.ensures.value is_ascii_digit (λ d b h. h)) c.in_err-rest.ensures

pub returns-clause-value : goal.returns-clause-value
returns-clause-value c =
    c.code_point.ensures ∙ ap code_point (c.decimal_number.ensures
    ∙ ap (number 10) (number_is_inside 35 59 _ _ _ _ _ c.in_ok-digits.ensures c.in_ok-rest.ensures c.front.ensures.joins))

pub returns-clause-end : goal.returns-clause-end
returns-clause-end c =
    is_rest_again _ _ _ (is_rest_again _ _ _ (is_rest 59 _ _ c.in_ok-rest.ensures)
    (is_rest_again _ _ _ c.at_most-end.ensures.end c.in_ok-second.ensures.end)) (is_rest 35 _ _ c.in_ok-digits.ensures)
