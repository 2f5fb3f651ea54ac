use Rattle.std.proofs.Common.{rules, ap, filter, not, ◌∙◌}
use Rattle.std.proofs.lemmas.Fn.{filter_same}
use Rattle.std.specs.List.{flat_map}
use Rattle.std.specs.Prelude.{Some}
use Rattle.doc_media.specs.Media.{beside_of}
use Rattle.doc_people.specs.Navigation.{is_before}
use Rattle.doc_shelf_pages.proofs.ImageSteps.{images_told}
use Rattle.doc_shelf_pages.specs.Images.{images_behind}
use Rattle.doc_shelf_views.proofs.LinkSteps.{broken_are, pages_are, pages_in_order}
use Rattle.doc_shelf_views.proofs.links.broken_from.Goals as goal
use Rattle.doc_shelf_views.specs.Sources.{stamped_at}

pub returns : goal.returns
returns c render k rows =
    let store = c.args.store.now in
    let kept = c.args.kept.now in
    let reader = c.args.reader.now in
    let media = beside_of c.args.media.now (Some reader) in
    let found = c.in_ok-texts.ensures store.site rows in
    let at = c.deref.ensures.value ∙ c.in_ok-places.ensures ∙ ap (flat_map (stamped_at store)) c.get.ensures in
    let pages = pages_are render store kept reader c.requires.kept.1 k c.in_ok-texts.texts c.deref.result.now found at
    c.links.result.now c.links.ensures in
    c.new.ensures
    ∙ filter_same _ (λ link. not (is_before link.source c.args.from.now)) _ (λ x b f t. search rules) c.into_inner-links.result.items
    c.retain.new.self.items c.retain.ensures.filtered
    ∙ ap (filter (λ link. not (is_before link.source c.args.from.now))) (c.into_inner-links.ensures
    ∙ broken_are render store reader media c.sight.result c.sight.ensures _ pages _ _
    (c.in_ok-broken.ensures (images_behind render store media) (images_told render store kept k media c.links.result.now c.links.ensures)
    (pages_in_order render store reader _ pages))
    c.in_ok-unbroken.ensures)
