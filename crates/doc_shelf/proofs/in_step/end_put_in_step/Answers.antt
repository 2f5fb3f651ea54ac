use Rattle.std.proofs.Common.{refl, subst, sym}
use Rattle.doc_shelf.specs.Shelves.{ArePeopleRows}
use Rattle.doc_shelf_pages.proofs.EditSteps.{refused_after}
use Rattle.doc_shelf_views.specs.Linking.{linking}
use Rattle.doc_shelf.proofs.in_step.end_put_in_step.Goals as goal

pub returns-in_default-clause-kept : goal.returns-in_default-clause-kept
returns-in_default-clause-kept c render is put =
    refused_after render c.args.store.now c.args.store.now is c.args.kept.now c.drop_page.new.self c.args.path.now c.args.page.text.now
    c.args.page.stamp put refl c.requires.next c.drop_page.ensures.rest

pub returns-in_default-clause-rows : goal.returns-in_default-clause-rows
returns-in_default-clause-rows c render is put stood people = c.in_default.ensures.err render is put people (stood people)

pub returns-in_default-end_put-clause-rows : goal.returns-in_default-end_put-clause-rows
returns-in_default-end_put-clause-rows c render is put stood people =
    subst (λ s. ArePeopleRows (linking render) s.site.pages c.narrow_back.new.self) (sym c.in_default-end_put.ensures.refused)
    (c.narrow_back.ensures (linking render) c.args.store.now.site.pages (c.in-Ok.ensures.ok render is put people (stood people)).wider)

pub returns-clause-rows : goal.returns-clause-rows
returns-clause-rows c render is put stood people =
    let set = c.in-Ok.ensures.ok render is put people (stood people) in
    subst (λ s. ArePeopleRows (linking render) s.site.pages c.narrow.new.self) (sym c.in-Ok-end_put.ensures.put)
    (c.narrow.ensures (linking render) c.args.store.now.site.pages
    (record { groups = c.args.page.groups.now; text = c.args.page.text.now }) refl set.writes set.wider)
