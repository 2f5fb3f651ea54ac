use Rattle.std.proofs.Common.{◌≡◌, ap, subst, ◌∙◌}
use Rattle.std.specs.FinMap as map
use Rattle.std.specs.Prelude.{IfOk, OnErr, OnOk}
use Rattle.doc_shelf_pages.specs.Shelves.{let_go}
use Rattle.doc_store.specs.Store.{with_page}
use Rattle.doc_shelf_pages.proofs.EditSteps.{put_after, refused_after}
use Rattle.doc_shelf_pages.proofs.edits.end_put.Goals as goal
use Rattle.doc_shelf_pages.proofs.edits.end_put.Goals.{in-Ok, in-Err}

pub returns-clause-kept : goal.returns-clause-kept
returns-clause-kept c render is put =
    let old = c.args.store.now in
    let path = c.args.path.now in
    let page = c.args.page in
    let new = c.put_fitting-put.new.self in
    elim c.match-put.branch [
      | in-Ok w ↦ put_after render old new is c.args.kept.now c.let_go.new.kept path page.text.now page.groups.now put
          (subst (λ r. OnOk r (new ≡ with_page old path (record { groups = page.groups.now; text = page.text.now }))) w.in-Ok.is
          c.put_fitting-put.ensures.put)
          (c.let_go.ensures ∙ ap (let_go c.args.kept.now path) (w.over-is
          ∙ subst (λ r. IfOk r (λ stamp. stamp ≡ map.get old.stamps path)) w.in-Ok.is c.put_fitting-put.ensures.stamp))
      | in-Err w ↦ refused_after render old new is c.args.kept.now c.let_go.new.kept path page.text.now page.stamp put
          (subst (λ r. OnErr r (new ≡ old)) w.in-Err.is c.put_fitting-put.ensures.refused) c.requires.next
          (c.let_go.ensures ∙ ap (let_go c.args.kept.now path) w.over-is)
    ]
