use Rattle.std.proofs.Common.{◌≡◌, ◌∙◌, ◌++◌, ap, subst, chars, length}
use Rattle.doc_lines.proofs.Ends.{empty_chars}
use Rattle.doc_lines.specs.Entities.{characters as both}
use Rattle.doc_rules.specs.Escaping.{html_escape}
use Rattle.doc_rules.specs.Html.{characters}
use Rattle.doc_html.specs.ProgressSteps.{Writes}
use Rattle.doc_html.proofs.inlines.push_reference.Goals as goal

pub returns : goal.returns
returns g c =
    let text : chars c.as_str.result.now ≡ both c.args.those = ap chars c.as_str.ensures.value
    ∙ (c.in_ok-push_characters.ensures.ok ∙ ap (λ t. t ++ both c.args.those) (empty_chars _ (ap length c.new-text.ensures.bytes))) in
    subst (λ t. Writes g.W.Writer.holds c.args.writer.now c.escaped.new.self (characters (html_escape t))) text c.in_ok-escaped.ensures
