use Rattle.std.proofs.Common.{ap, sym, subst, ◌∙◌}
use Rattle.doc_rows_links.specs.LinkRows.{AreTargets}
use Rattle.doc_shelf_views.specs.Linking.{linking}
use Rattle.doc_shelf.proofs.LinkLaws.{links_at, stands_at}
use Rattle.doc_shelf.proofs.moving.moving_page.Goals as goal

pub returns-clause-known : goal.returns-clause-known
returns-clause-known c render kept =
    let page = c.in-Some.page.now in
    let store = c.args.store.now in
    let from = c.args.from.now in
    let to = c.args.to.now in
    let stamp = c.stamp-stamp.result in
    let stands = stands_at store from page.page page.stamp stamp c.in-Some.ensures.page c.in-Some.ensures.stamp c.stamp-stamp.ensures in
    record {
      page = page.page;
      stands = sym c.in-Some.ensures.page;
      groups = sym (c.in_ok-copy.ensures ∙ c.groups.ensures);
      links = sym (links_at render store c.args.kept.now kept from page.page stamp stands from c.in_ok-links.links c.in_ok-links.ensures);
      none = (ap (λ change. change.before) c.to_none.ensures, ap (λ change. change.old) c.to_none.ensures);
      writes = subst (AreTargets (linking render to page.page)) (sym (ap (λ change. change.new) c.to_none.ensures))
          (subst (λ links. AreTargets links c.in_ok-writes.writes) (c.get-2.ensures
          ∙ links_at render store c.args.kept.now kept from page.page stamp stands to c.in_ok-new.new c.in_ok-new.ensures)
          c.in_ok-writes.ensures);
    }
