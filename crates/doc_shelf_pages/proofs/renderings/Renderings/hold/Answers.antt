use Rattle.std.proofs.Common.{ℕ, List, ap, ◌∙◌}
use Rattle.std.specs.FinMap as map
use Rattle.doc_shelf_pages.specs.declared.lined.Lined.{Lined}
use Rattle.doc_shelf_pages.proofs.HeldSteps.{added, free}
use Rattle.doc_shelf_pages.proofs.ImagedSteps.{imaged_after, none_found}
use Rattle.doc_shelf_pages.proofs.LinedSteps.{lined_after}
use Rattle.doc_shelf_pages.proofs.renderings.Renderings.hold.Goals as goal

pub add-requires : goal.add-requires
add-requires c =
    let k : List ℕ × ℕ = (c.args.path.now, c.args.stamp) in
    record { free = free c.self.inside.pages k (ap (λ m. map.get m k) c.self.view_is ∙ c.requires.free) }

pub returns-clause-ok : goal.returns-clause-ok
returns-clause-ok c =
    added c.self.inside.pages c.in_ok-lined.lined _ c.add.new.self (c.args.path.now, c.args.stamp) c.add.result c.self.view_is
    (ap (λ (it : Lined). it.page) c.in_ok-lined.ensures) c.add.ensures.ok

pub invariant_of-self : goal.invariant_of-self
invariant_of-self c =
    let k : List ℕ × ℕ = (c.args.path.now, c.args.stamp) in (
      lined_after c.self.inside.pages c.add.new.self k c.self.invariant.0 c.add.result c.in_ok-lined.lined
          c.args.page _ c.in_ok-lined.ensures c.add.ensures.ok c.add.ensures.err,
      imaged_after c.self.inside.pages c.add.new.self k c.self.inside.imaged c.self.invariant.1 c.add.result c.in_ok-lined.lined
          c.args.page _ c.in_ok-lined.ensures c.add.ensures.ok c.add.ensures.err _
          (none_found c.images.result.now c.args.page.images _ c.images.ensures c.is_empty-bare.ensures),
    )
