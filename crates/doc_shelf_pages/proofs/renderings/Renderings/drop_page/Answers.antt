use Rattle.std.proofs.Common.{ℕ, List, ap, ◌∙◌}
use Rattle.std.specs.FinMap as map
use Rattle.doc_shelf_pages.proofs.HeldSteps.{has_key, removed}
use Rattle.doc_shelf_pages.proofs.ImagedSteps.{imaged_removed}
use Rattle.doc_shelf_pages.proofs.LinedSteps.{lined_removed}
use Rattle.doc_shelf_pages.proofs.renderings.Renderings.drop_page.Goals as goal

pub returns-clause-answer : goal.returns-clause-answer
returns-clause-answer c =
    let k : List ℕ × ℕ = (c.args.path.now, c.args.stamp) in
    c.drop_page.ensures.answer ∙ has_key c.self.inside.pages k ∙ ap (λ m. map.contains_key m k) c.self.view_is

pub returns-clause-rest : goal.returns-clause-rest
returns-clause-rest c =
    let k : List ℕ × ℕ = (c.args.path.now, c.args.stamp) in
    removed c.self.inside.pages c.drop_page.new.self k c.drop_page.ensures.rest ∙ ap (λ m. map.remove m k) c.self.view_is

pub invariant_of-self : goal.invariant_of-self
invariant_of-self c =
    let k : List ℕ × ℕ = (c.args.path.now, c.args.stamp) in (
      lined_removed c.self.inside.pages c.drop_page.new.self k c.self.invariant.0 c.drop_page.ensures.rest,
      imaged_removed c.self.inside.pages c.drop_page.new.self k c.self.inside.imaged c.self.invariant.1 c.drop_page.ensures.rest,
    )
