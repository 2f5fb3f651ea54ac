use Rattle.std.proofs.Common.{◌∙◌, subst}
use Rattle.std.specs.Prelude.{string_bytes, Some, [], false}
use Rattle.doc_html.specs.PlainLinks.{plain_shown}
use Rattle.doc_html.specs.ProgressSteps.{Progress, begun}
use Rattle.doc_html.specs.TellingSteps.{blocks_told}
use Rattle.doc_html.specs.WrittenPageSteps.{HoldsPage}
use Rattle.doc_html.proofs.PageLaws.{page_is}
use Rattle.doc_html.proofs.pages.page_of_tags.Goals as goal

pub returns : goal.returns
returns c = λ definitions blocks is flat.
    let w = c.new-writer.result in
    let first : Progress = begun plain_shown c.args.entities.now.images (Some []) in
    let held : HoldsPage w.pieces.items (string_bytes w.html) w.fresh w.anchors w.headings.items w.texts.items w.tells_images
    w.images.items first
    = subst (λ tells. HoldsPage w.pieces.items (string_bytes w.html) w.fresh w.anchors w.headings.items w.texts.items w.tells_images
    w.images.items (begun plain_shown tells (Some []))) c.images.ensures c.new-writer.ensures in
    c.in_ok-page.ensures (blocks_told c.args.entities.now definitions false blocks first)
    (c.in_ok-push_all.ensures definitions blocks first is flat held)
    ∙ page_is c.args.entities.now definitions blocks plain_shown
