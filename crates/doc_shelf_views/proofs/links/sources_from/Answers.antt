use Rattle.std.proofs.Common.{ap, ◌∙◌}
use Rattle.std.specs.Prelude.{map as mapped}
use Rattle.std.specs.List.{flat_map}
use Rattle.doc_shelf_pages.specs.ViewLaws.{seen_in}
use Rattle.doc_shelf_views.proofs.LinkSteps.{none_leads, sources_are, there_is}
use Rattle.doc_shelf_views.proofs.links.sources_from.Goals as goal
use Rattle.doc_shelf_views.specs.Linking.{linking}
use Rattle.doc_shelf_views.specs.Sources.{counted_at, stamped_at}
use Rattle.doc_store_readers.specs.Groups.{texts_of}
use Rattle.doc_store_readers.specs.Sites.{goal_in}

pub returns-then-is_none : goal.returns-then-is_none
returns-then-is_none c render k rows =
    none_leads render (seen_in c.args.store.now c.args.reader.now) c.args.path.now c.args.from.now c.args.most c.new-then-is_none.result
    c.new.result.items c.visible_page.result _ c.new-then-is_none.ensures c.new.ensures.items c.visible_page.ensures.page
    c.if-is_none.ensures

pub returns : goal.returns
returns c render k rows =
    c.new-2.ensures
    ∙ sources_are render c.args.store.now c.args.kept.now c.args.reader.now c.requires.kept.1 k c.args.path.now
    (there_is _ c.visible_page.result _ c.visible_page.ensures.page c.if-is_none.ensures) c.args.from.now c.args.most
    (mapped (λ name. name.now) c.deref.result.now) c.in_ok-texts.texts.items c.in_ok-places.places.items c.in_ok-sources.sources.items
    (ap texts_of c.deref.ensures.value ∙ c.in_ok-names.ensures)
    (c.in_ok-texts.ensures (linking render) c.args.store.now.site rows)
    (c.in_ok-places.ensures ∙ ap (flat_map (stamped_at c.args.store.now)) c.deref-2.ensures.value)
    (c.in_ok-sources.ensures
    ∙ (λ i. mapped (counted_at (goal_in (c.sight-sight.ensures i)) c.args.path.now (c.links.ensures i)) (c.deref-3.ensures.value i)))
