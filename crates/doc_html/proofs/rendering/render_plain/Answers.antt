use Rattle.std.proofs.Common.{◌∙◌, ap, chars}
use Rattle.std.specs.Prelude.{[], encode_utf8_all}
use Rattle.doc_rules.specs.Blocks.{document_of}
use Rattle.doc_rules.specs.Html.{plain_linker}
use Rattle.doc_blocks_starts.specs.Tags.{tags_shown}
use Rattle.doc_html.specs.PlainLinks.{plain_shown}
use Rattle.doc_html.proofs.ByteLaws.{html_by_bytes}
use Rattle.doc_html.proofs.PlainLinkSteps.{plain_alike, plain_told}
use Rattle.doc_html.proofs.rendering.render_plain.Goals as goal

pub returns : goal.returns
returns c =
    c.in_ok-html.ensures (document_of c.args.entities.now (chars c.args.text.now)).refs _ c.in_ok-tagged.ensures.refs
    (ap tags_shown c.as_slice.ensures.value ∙ c.in_ok-tagged.ensures.tags)
    ∙ (html_by_bytes c.args.entities.now [] (document_of c.args.entities.now (chars c.args.text.now)) plain_linker plain_shown plain_alike
    ∙ ap encode_utf8_all (plain_told c.args.entities.now (chars c.args.text.now)))
