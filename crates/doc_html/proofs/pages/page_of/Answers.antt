use Rattle.std.proofs.Common.{◌∙◌, ap, chars}
use Rattle.doc_rules.specs.Blocks.{document_of}
use Rattle.doc_blocks_starts.specs.Tags.{tags_shown}
use Rattle.doc_html.proofs.PageLaws.{text_page}
use Rattle.doc_html.proofs.pages.page_of.Goals as goal

pub returns : goal.returns
returns c =
    c.in_ok-page.ensures (document_of c.args.entities.now (chars c.args.text.now)).refs _ c.in_ok-tagged.ensures.refs
    (ap tags_shown c.as_slice.ensures.value ∙ c.in_ok-tagged.ensures.tags)
    ∙ text_page c.args.entities.now (chars c.args.text.now)
