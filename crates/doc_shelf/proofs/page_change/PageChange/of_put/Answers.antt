use Rattle.std.proofs.Common.{ap, sym, subst, ◌∙◌}
use Rattle.std.specs.Prelude.{Some}
use Rattle.doc_rows_links.specs.LinkRows.{AreTargets}
use Rattle.doc_shelf_pages.specs.Views.{links_in}
use Rattle.doc_shelf_views.specs.Linking.{linking}
use Rattle.doc_shelf.proofs.LinkLaws.{new_known, old_known, stands_at}
use Rattle.doc_shelf.proofs.StepLaws.{none_stands, one_stands}
use Rattle.doc_shelf.proofs.page_change.PageChange.of_put.Goals as goal

pub returns-in_default-clause-stands : goal.returns-in_default-clause-stands
returns-in_default-clause-stands c render text is put =
    none_stands (linking render) c.args.store.now.site.pages c.args.path.now c.to_none.result
    (ap (λ change. change.before) c.to_none.ensures) (ap (λ change. change.old) c.to_none.ensures) c.in_default.ensures.page

pub returns-in_default-clause-writes : goal.returns-in_default-clause-writes
returns-in_default-clause-writes c render text is put =
    subst (AreTargets (links_in c.args.path.now (render text)).links) (sym (ap (λ change. change.new) c.to_none.ensures))
    (c.in_ok-new.ensures (links_in c.args.path.now (render text))
    (new_known render c.args.store.now is c.args.path.now text c.args.kept.now put c.args.stamp c.requires.next))

pub returns-clause-stands : goal.returns-clause-stands
returns-clause-stands c render text is put =
    let page = c.in-Some.page.now in
    let store = c.args.store.now in
    let path = c.args.path.now in
    one_stands (linking render) store.site.pages path _ page.page c.in-Some.ensures.page
    (ap Some (c.in_ok-copy.ensures ∙ c.groups.ensures))
    (c.in_ok-targets_at.ensures (links_in path (render page.page.text))
    (old_known render store is path text c.args.kept.now put c.stamp.result page.page
    (stands_at store path page.page page.stamp c.stamp.result c.in-Some.ensures.page c.in-Some.ensures.stamp c.stamp.ensures)))

pub returns-clause-writes : goal.returns-clause-writes
returns-clause-writes c render text is put =
    c.in_ok-new.ensures (links_in c.args.path.now (render text))
    (new_known render c.args.store.now is c.args.path.now text c.args.kept.now put c.args.stamp c.requires.next)
