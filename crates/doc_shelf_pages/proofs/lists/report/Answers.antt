use Rattle.std.proofs.Common.{◌∙◌}
use Rattle.std.specs.Prelude.{Some}
use Rattle.doc_media.specs.Media.{beside_of}
use Rattle.doc_shelf_pages.proofs.FlagSteps.{links_flagged}
use Rattle.doc_shelf_pages.proofs.ImageSteps.{images_told}
use Rattle.doc_shelf_pages.proofs.ListSteps.{is_once, made, report_is}
use Rattle.doc_shelf_pages.proofs.lists.report.Goals as goal
use Rattle.doc_shelf_pages.specs.Images.{images_behind}

pub broken_flagged-requires : goal.broken_flagged-requires
broken_flagged-requires c =
    let render = c.requires.kept.0 in
    let store = c.args.store.now in
    let kept = c.args.kept.now in
    let reader = c.args.reader.now in
    let is = c.requires.kept.1 in
    let k = c.requires.kept.2 in
    record {
      once = is_once render store kept reader is k c.sight.result c.sight.ensures c.links.result.now c.links.ensures;
      seen = links_flagged render store kept reader is k c.deref.result.now (c.deref.ensures.value ∙ c.in_ok-flags.ensures)
          c.sight.result c.sight.ensures c.links.result.now c.links.ensures;
    }

pub returns : goal.returns
returns c render k =
    let store = c.args.store.now in
    let kept = c.args.kept.now in
    let media = beside_of c.args.media.now (Some c.args.reader.now) in
    made c.new.result _ _ _ c.new.ensures c.in_ok-push_report.ensures.ok c.new-out.ensures.bytes
    ∙ report_is render store kept c.args.reader.now c.requires.kept.1 k c.sight.result c.sight.ensures
    c.links.result.now c.links.ensures media _ _
    (c.in_ok-broken.ensures (images_behind render store media) (images_told render store kept k media c.links.result.now c.links.ensures))
    (c.get.ensures ∙ c.in_ok-told.ensures)
