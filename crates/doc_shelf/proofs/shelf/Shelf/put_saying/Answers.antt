use Rattle.std.proofs.Common.{◌+◌, ap, ◌∙◌}
use Rattle.doc_shelf_pages.proofs.EditSteps.{no_stamp}
use Rattle.doc_store.specs.Store.{fits_in}
use Rattle.doc_shelf.proofs.ShelfSteps.{edited_whole, is_being_put, is_free}
use Rattle.doc_shelf.proofs.shelf.Shelf.put_saying.Goals as goal

pub invariant_of-self-2 : goal.invariant_of-self-2
invariant_of-self-2 g c =
    let render = g.R.Renderer.page c.self.inside.renderer in
    let store = c.self.inside.store in
    let begun = c.begin_put.new.kept in
    let new = c.end_put_saying_in_step.new in
    let put = is_being_put render store c.self.inside.kept begun c.self.inside.cache c.args.path.now c.args.text.now c.in-Some.stamp
    c.self.invariant.shelf c.in-Some.ensures.next c.in_ok-begin_put.ensures.ok in
    edited_whole render (g.R.Renderer.page c.begin_put.new.renderer) store new.store c.self.inside.kept begun new.kept c.self.inside.cache
    c.self.inside.rows new.rows c.self.inside.bodies c.clear.new.self c.clear.ensures c.in_ok-begin_put.ensures.same c.self.invariant
    (ap (λ k. k.with_texts) c.in_ok-begin_put.ensures.ok) c.end_put_saying_in_step.ensures.texts
    (c.end_put_saying_in_step.ensures.kept render c.self.invariant.shelf.is_store put)
    (c.end_put_saying_in_step.ensures.rows render c.self.invariant.shelf.is_store put)

pub returns-in_default-clause-counted : goal.returns-in_default-clause-counted
returns-in_default-clause-counted g c =
    absurd (no_stamp _ _ c.self.inside.store.puts c.args.text.now
    (ap (λ s. fits_in s.1 c.args.path.now c.args.text.now) c.self.view_is ∙ c.requires.fits) c.in_default.ensures.left)

pub begin_put-requires : goal.begin_put-requires
begin_put-requires g c =
    record {
      free = is_free (g.R.Renderer.page c.self.inside.renderer) c.self.inside.store c.self.inside.kept c.self.inside.cache c.args.path.now
          c.in-Some.stamp c.self.invariant.shelf c.in-Some.ensures.next;
    }

pub returns-in_err-begin_put-clause-counted : goal.returns-in_err-begin_put-clause-counted
returns-in_err-begin_put-clause-counted g c =
    c.in_err-begin_put.ensures.counted ∙ ap (λ s. g.R.Renderer.count s.0 + 1) c.self.view_is

pub end_put_saying_in_step-requires-clause-fits : goal.end_put_saying_in_step-requires-clause-fits
end_put_saying_in_step-requires-clause-fits g c =
    ap (λ s. fits_in s.1 c.args.path.now c.args.text.now) c.self.view_is ∙ c.requires.fits

pub returns-clause-counted : goal.returns-clause-counted
returns-clause-counted g c = c.in_ok-begin_put.ensures.counted ∙ ap (λ s. g.R.Renderer.count s.0 + 1) c.self.view_is
