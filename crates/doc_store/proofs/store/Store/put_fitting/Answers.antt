use Rattle.std.proofs.Common.{ap, ◌∙◌, arith}
use Rattle.doc_store.proofs.StateSteps.{stamp_before, stamp_left, state_put, stood_before, store_put}
use Rattle.doc_store.specs.Store.{fits_in}
use Rattle.doc_store.proofs.store.Store.put_fitting.Goals as goal

pub overflow_add-self : goal.overflow_add-self
overflow_add-self c =
    omega (
      arith,
      stamp_left _ _ c.self.inside.puts c.args.text.now
          (ap (λ s. fits_in s c.args.path.now c.args.text.now) c.self.view_is ∙ c.requires.fits),
    )

pub invariant_of-self-2 : goal.invariant_of-self-2
invariant_of-self-2 c =
    store_put c.self.inside.pages c.set.new.self c.self.inside.aliases c.remove.new.self c.self.inside.puts c.args.self.now c.args.path.now
    (record { groups = c.args.groups.now; text = c.args.text.now }) c.in_ok-page.page c.self.view_is c.in_ok-page.ensures
    c.in_ok-before.ensures.ok c.remove.ensures c.self.invariant

pub returns-clause-put : goal.returns-clause-put
returns-clause-put c =
    state_put c.self.inside.pages c.set.new.self c.self.inside.aliases c.remove.new.self c.self.inside.puts c.args.self.now c.args.path.now
    (record { groups = c.args.groups.now; text = c.args.text.now }) c.in_ok-page.page c.self.view_is c.in_ok-page.ensures
    c.in_ok-before.ensures.ok c.remove.ensures

pub returns-clause-stamp : goal.returns-clause-stamp
returns-clause-stamp c =
    stamp_before c.self.inside.pages c.set.new.self c.self.inside.aliases c.remove.new.self c.self.inside.puts c.args.self.now
    c.args.path.now
    (record { groups = c.args.groups.now; text = c.args.text.now }) c.in_ok-page.page c.self.view_is c.in_ok-page.ensures
    c.in_ok-before.ensures.ok c.remove.ensures c.in_ok-before.before c.in_ok-before.ensures.before

pub returns-clause-stood : goal.returns-clause-stood
returns-clause-stood c =
    stood_before c.self.inside.pages c.set.new.self c.self.inside.aliases c.remove.new.self c.self.inside.puts c.args.self.now
    c.args.path.now
    (record { groups = c.args.groups.now; text = c.args.text.now }) c.in_ok-page.page c.self.view_is c.in_ok-page.ensures
    c.in_ok-before.ensures.ok c.remove.ensures c.in_ok-before.before c.in_ok-before.ensures.before
