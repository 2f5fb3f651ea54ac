use Rattle.std.proofs.Common.{chars}
use Rattle.std.specs.Char.{is_ascii_alphabetic}
use Rattle.doc_rules.specs.Parsers.{one, ◌then◌, at_most}
use Rattle.doc_rules.specs.Autolinks.{is_scheme_char, scheme}
use Rattle.doc_lines.proofs.Steps.{then_is}
use Rattle.doc_lines.proofs.scan.autolink.scheme.Goals as goal

pub returns : goal.returns
unfolding scheme
returns c =
    then_is (one is_ascii_alphabetic then one is_scheme_char) (at_most 30 (one is_scheme_char)) (chars c.args.text.now) _ _
    (then_is (one is_ascii_alphabetic) (one is_scheme_char) (chars c.args.text.now) _ _
    (c.in_ok-rest.ensures.value is_ascii_alphabetic (λ d b h. h)) (c.in_ok-rest-2.ensures.value is_scheme_char (λ d b h. h)))
    (c.at_most.ensures.value is_scheme_char (λ d b h. h))
