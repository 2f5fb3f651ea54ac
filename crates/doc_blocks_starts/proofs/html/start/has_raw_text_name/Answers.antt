use Rattle.std.proofs.Common.{rules, true, ◌∙◌, chars}
use Rattle.doc_rules.specs.HtmlStarts.{is_named, raw_text_names}
use Rattle.doc_rules.specs.Parsers.{is}
use Rattle.doc_blocks_starts.proofs.HtmlNames.{begins_before_is}
use Rattle.doc_blocks_starts.proofs.html.start.has_raw_text_name.Goals as goal

pub returns-in-Some : goal.returns-in-Some
unfolding raw_text_names
returns-in-Some c =
    c.is_named.ensures (λ rest. true) (λ rest b h. search rules)
    ∙ begins_before_is (is_named raw_text_names (λ rest. true)) (is 60) (chars c.args.text.now) (chars c.in-Some.rest.now) c.in-Some.ensures
