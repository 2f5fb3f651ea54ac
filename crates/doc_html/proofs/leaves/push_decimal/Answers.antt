use Rattle.std.proofs.Common.{◌≡◌, ◌∙◌, ap, chars, subst, rules, arith}
use Rattle.std.specs.Prelude.{decimal}
use Rattle.doc_rules.specs.Html.{characters}
use Rattle.doc_html.specs.ProgressSteps.{Writes}
use Rattle.doc_html.proofs.TellingSteps.{decimal_chars}
use Rattle.doc_html.proofs.leaves.push_decimal.Goals as goal

pub returns : goal.returns
returns g c =
    let bytes : c.as_str.result.now ≡ decimal c.args.n = search rules in
    let same : chars c.as_str.result.now ≡ decimal c.args.n = ap chars bytes ∙ decimal_chars c.args.n (omega arith) in
    subst (λ t. Writes g.W.Writer.holds c.args.writer.now c.text.new.self (characters t)) same c.in_ok-text.ensures
