use Rattle.std.proofs.Common.{rules, ◌≡◌, ◌∙◌, ap, arith}
use Rattle.std.specs.Prelude.{codes, None}
use Rattle.std.specs.Char.{is_ascii_hexdigit}
use Rattle.doc_rules.specs.Characters.{one_of}
use Rattle.doc_rules.specs.Escapes.{number, code_point}
use Rattle.doc_lines.specs.MeaningSteps.{behind_of}
use Rattle.doc_rules.proofs.ParserLaws.{is_rest_again}
use Rattle.doc_lines.proofs.Digits.{hexadecimal_is, digits_before, number_is_inside_mark}
use Rattle.doc_lines.proofs.escapes.reference.hexadecimal_reference.Goals as goal
use Rattle.doc_lines.proofs.Rests.{is_rest}

pub front-requires : goal.front-requires
front-requires c = is_rest_again _ _ _ c.at_most-end.ensures.end c.in_ok-second.ensures.end

pub hexadecimal_number-requires : goal.hexadecimal_number-requires
hexadecimal_number-requires c =
    digits_before is_ascii_hexdigit 5 6 _ _ _ _ (omega arith) (c.in_ok-second.ensures.value is_ascii_hexdigit (λ d b h. h))
    (c.at_most-end.ensures.value is_ascii_hexdigit (λ d b h. h)) c.front.ensures.joins

pub returns-clause-behind : goal.returns-clause-behind
returns-clause-behind c =
    hexadecimal_is _ _ _ _ _ _ c.in_ok-mark.ensures (c.in_ok-digits.ensures.value (one_of (codes "xX")) (λ d b h. h))
    (c.in_ok-second.ensures.value is_ascii_hexdigit (λ d b h. h))
    (c.at_most-end.ensures.value is_ascii_hexdigit (λ d b h. h)) c.in_ok-rest.ensures

pub returns-in_err-rest-clause-behind : goal.returns-in_err-rest-clause-behind
returns-in_err-rest-clause-behind c =
    let none : behind_of c.from_residual-in_err-rest.result ≡ None = search rules in
    none
    ∙ hexadecimal_is _ _ _ _ _ _ c.in_ok-mark.ensures (c.in_ok-digits.ensures.value (one_of (codes "xX")) (λ d b h. h))
    (c.in_ok-second.ensures.value is_ascii_hexdigit (λ d b h. h))
    (c.at_most-end.ensures.value is_ascii_hexdigit (λ d b h. h)) c.in_err-rest.ensures

pub returns-clause-value : goal.returns-clause-value
returns-clause-value c =
    c.code_point.ensures
    ∙ ap code_point (c.hexadecimal_number.ensures
    ∙ ap (number 16) (number_is_inside_mark 35 59 (one_of (codes "xX")) _ _ _ _ _ _ c.in_ok-mark.ensures
    (c.in_ok-digits.ensures.value (one_of (codes "xX")) (λ d b h. h)) c.in_ok-rest.ensures c.front.ensures.joins))

pub returns-clause-end : goal.returns-clause-end
returns-clause-end c =
    is_rest_again _ _ _ (is_rest_again _ _ _ (is_rest_again _ _ _ (is_rest 59 _ _ c.in_ok-rest.ensures)
    (is_rest_again _ _ _ c.at_most-end.ensures.end c.in_ok-second.ensures.end)) c.in_ok-digits.ensures.end)
    (is_rest 35 _ _ c.in_ok-mark.ensures)
