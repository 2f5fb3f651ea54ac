use Rattle.std.proofs.Common.{ap, sym, ◌∙◌}
use Rattle.std.specs.Prelude.{None, Some, option_map}
use Rattle.std.specs.FinMap as map
use Rattle.doc_links_pages.specs.declared.page_links.PageLinks.{PageLinks}
use Rattle.doc_shelf_views.specs.Linking.{linking}
use Rattle.doc_store_readers.proofs.KeySteps.{not_none, some_is}
use Rattle.doc_shelf.proofs.LinkLaws.{links_known, stands_at}
use Rattle.doc_shelf.proofs.StepLaws.{none_removed, one_removed}
use Rattle.doc_shelf.proofs.in_step.lift_page.Goals as goal

pub returns-in_default : goal.returns-in_default
returns-in_default c render kept are =
    none_removed (linking render) c.args.store.now c.args.path.now c.args.rows.now are c.in_default.ensures.page

pub returns-in_default-links_of : goal.returns-in_default-links_of
returns-in_default-links_of c render kept are =
    let page = c.in-Some.page.now in
    let store = c.args.store.now in
    let path = c.args.path.now in
    let stands = stands_at store path page.page page.stamp c.stamp.result c.in-Some.ensures.page c.in-Some.ensures.stamp c.stamp.ensures in
    absurd (not_none _ (links_known render store c.args.kept.now kept path page.page c.stamp.result stands None
    (c.in_default-links_of.ensures
    ∙ ap (λ held. option_map (λ (known : PageLinks). known.links) (map.get held (path, c.stamp.result))) c.links.ensures)))

pub returns : goal.returns
returns c render kept are =
    let page = c.in-Some.page.now in
    let store = c.args.store.now in
    let path = c.args.path.now in
    let stands = stands_at store path page.page page.stamp c.stamp.result c.in-Some.ensures.page c.in-Some.ensures.stamp c.stamp.ensures in
    one_removed (linking render) store path c.args.rows.now are page.page c.lift.new.self c.in-Some.ensures.page
    (c.lift.ensures (linking render) store.site.pages page.page (sym c.in-Some.ensures.page) (sym c.groups.ensures)
    (sym (some_is _ _ (links_known render store c.args.kept.now kept path page.page c.stamp.result stands
    (Some c.in-Some-links_of.links.now) (c.in-Some-links_of.ensures
    ∙ ap (λ held. option_map (λ (known : PageLinks). known.links) (map.get held (path, c.stamp.result))) c.links.ensures)))) are)
