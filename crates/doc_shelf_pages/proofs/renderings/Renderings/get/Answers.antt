use Rattle.std.proofs.Common.{ℕ, List, ap, ◌∙◌}
use Rattle.std.specs.Prelude.{None, Some}
use Rattle.std.specs.FinMap as map
use Rattle.doc_shelf_pages.proofs.HeldSteps.{got_page}
use Rattle.doc_shelf_pages.proofs.renderings.Renderings.get.Goals as goal

pub returns-in_default : goal.returns-in_default
returns-in_default c =
    let k : List ℕ × ℕ = (c.args.path.now, c.args.stamp) in
    got_page c.self.inside.pages k None c.in_default.ensures ∙ ap (λ m. map.get m k) c.self.view_is

pub returns : goal.returns
returns c =
    let k : List ℕ × ℕ = (c.args.path.now, c.args.stamp) in
    got_page c.self.inside.pages k (Some c.in-Some.lined.now) c.in-Some.ensures ∙ ap (λ m. map.get m k) c.self.view_is
