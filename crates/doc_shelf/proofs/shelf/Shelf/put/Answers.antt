use Rattle.std.proofs.Common.{ap}
use Rattle.doc_shelf.proofs.ShelfSteps.{counted_once, edited_whole, is_being_put, is_free, put_answers}
use Rattle.doc_shelf.proofs.shelf.Shelf.put.Goals as goal

pub begin_put-requires : goal.begin_put-requires
begin_put-requires g c =
    record {
      free = is_free (g.R.Renderer.page c.self.inside.renderer) c.self.inside.store c.self.inside.kept c.self.inside.cache c.args.path.now
          c.in_ok-stamp.stamp c.self.invariant.shelf c.in_ok-stamp.ensures.next;
    }

pub invariant_of-self-2 : goal.invariant_of-self-2
invariant_of-self-2 g c =
    let render = g.R.Renderer.page c.self.inside.renderer in
    let store = c.self.inside.store in
    let begun = c.begin_put.new.kept in
    let new = c.end_put_in_step.new in
    let put = is_being_put render store c.self.inside.kept begun c.self.inside.cache c.args.path.now c.args.text.now c.in_ok-stamp.stamp
    c.self.invariant.shelf c.in_ok-stamp.ensures.next c.in_ok-begin_put.ensures.ok in
    edited_whole render (g.R.Renderer.page c.begin_put.new.renderer) store new.store c.self.inside.kept begun new.kept c.self.inside.cache
    c.self.inside.rows new.rows c.self.inside.bodies c.clear.new.self c.clear.ensures c.in_ok-begin_put.ensures.same c.self.invariant
    (ap (λ k. k.with_texts) c.in_ok-begin_put.ensures.ok) c.end_put_in_step.ensures.texts
    (c.end_put_in_step.ensures.kept render c.self.invariant.shelf.is_store put)
    (c.end_put_in_step.ensures.rows render c.self.invariant.shelf.is_store put)

pub invariant_of-self-in_err-end_put_in_step : goal.invariant_of-self-in_err-end_put_in_step
invariant_of-self-in_err-end_put_in_step g c =
    let render = g.R.Renderer.page c.self.inside.renderer in
    let store = c.self.inside.store in
    let begun = c.begin_put.new.kept in
    let new = c.end_put_in_step.new in
    let put = is_being_put render store c.self.inside.kept begun c.self.inside.cache c.args.path.now c.args.text.now c.in_ok-stamp.stamp
    c.self.invariant.shelf c.in_ok-stamp.ensures.next c.in_ok-begin_put.ensures.ok in
    edited_whole render (g.R.Renderer.page c.begin_put.new.renderer) store new.store c.self.inside.kept begun new.kept c.self.inside.cache
    c.self.inside.rows new.rows c.self.inside.bodies c.clear.new.self c.clear.ensures c.in_ok-begin_put.ensures.same c.self.invariant
    (ap (λ k. k.with_texts) c.in_ok-begin_put.ensures.ok) c.end_put_in_step.ensures.texts
    (c.end_put_in_step.ensures.kept render c.self.invariant.shelf.is_store put)
    (c.end_put_in_step.ensures.rows render c.self.invariant.shelf.is_store put)

pub returns-in_err-end_put_in_step-clause-counted : goal.returns-in_err-end_put_in_step-clause-counted
returns-in_err-end_put_in_step-clause-counted g c =
    counted_once g.R.Renderer.count c.self.inside.renderer c.begin_put.new.renderer c.self.inside.store c.args.self.now c.args.path.now
    c.args.text.now c.self.view_is c.in_ok-stamp.ensures.fits c.in_ok-begin_put.ensures.counted

pub returns-clause-store : goal.returns-clause-store
returns-clause-store g c =
    put_answers c.self.inside.renderer c.self.inside.store c.end_put_in_step.new.store c.args.self.now c.args.path.now c.args.text.now
    c.args.groups.now c.in_ok-end_put_in_step.field-0 c.put_over.result c.self.view_is c.in_ok-stamp.ensures.fits
    c.in_ok-end_put_in_step.ensures.put c.in_ok-end_put_in_step.ensures.stood c.put_over.ensures

pub returns-clause-counted : goal.returns-clause-counted
returns-clause-counted g c =
    counted_once g.R.Renderer.count c.self.inside.renderer c.begin_put.new.renderer c.self.inside.store c.args.self.now c.args.path.now
    c.args.text.now c.self.view_is c.in_ok-stamp.ensures.fits c.in_ok-begin_put.ensures.counted
