use Rattle.std.proofs.Common.{◌∙◌}
use Rattle.std.specs.Prelude.{string_bytes, None, false}
use Rattle.doc_html.specs.ProgressSteps.{begun}
use Rattle.doc_html.specs.TellingSteps.{blocks_told}
use Rattle.doc_html.specs.WrittenSteps.{HoldsHtml}
use Rattle.doc_html.proofs.TellingLaws.{html_told}
use Rattle.doc_html.proofs.document.write_html.Goals as goal

pub returns : goal.returns
returns g c = λ definitions blocks is flat.
    let held : HoldsHtml (g.K.Links.shown c.push_all.new.writer.links.now) (string_bytes c.push_all.new.writer.out)
    c.push_all.new.writer.fresh
    (blocks_told c.args.entities.now definitions false blocks (begun (g.K.Links.shown c.args.links.now) false None))
    = c.in_ok-push_all.ensures definitions blocks (begun (g.K.Links.shown c.args.links.now) false None) is flat c.in_ok-writer.ensures in
    c.into_text.ensures
    ∙ html_told c.args.entities.now definitions blocks (g.K.Links.shown c.args.links.now)
    (g.K.Links.shown c.push_all.new.writer.links.now) _
    c.push_all.new.writer.fresh held
