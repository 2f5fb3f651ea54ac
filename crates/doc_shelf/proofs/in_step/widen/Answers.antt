use Rattle.doc_shelf.proofs.StepLaws.{also_on_err}
use Rattle.doc_shelf_views.specs.Linking.{linking}
use Rattle.doc_shelf.proofs.in_step.widen.Goals as goal

pub returns-clause-ok : goal.returns-clause-ok
returns-clause-ok c render is put people are = record {
  writes = c.in_ok-change.ensures.writes render c.args.page.text.now is put;
  wider = c.in_ok-widen.ensures.ok (linking render) c.args.store.now.site.pages
      (c.in_ok-change.ensures.stands render c.args.page.text.now is put) are;
}

pub returns-in_err-widen-clause-err : goal.returns-in_err-widen-clause-err
returns-in_err-widen-clause-err c = also_on_err c.from_residual-in_err-widen.result (λ render is put people are.
    c.in_err-widen.ensures.err (linking render) c.args.store.now.site.pages
    (c.in_ok-change.ensures.stands render c.args.page.text.now is put) are)
