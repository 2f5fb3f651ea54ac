use Rattle.std.proofs.Common.{ℕ, List, ap, sym, refl, ◌∙◌}
use Rattle.std.specs.FinMap as map
use Rattle.doc_shelf_pages.specs.KeptPages.{Kept}
use Rattle.doc_shelf_pages.proofs.KeptSteps.{dropped, on_err, on_fine, together}
use Rattle.doc_shelf_pages.proofs.kept_pages.KeptPages.add.Goals as goal

pub returns-then-is_err-clause-err : goal.returns-then-is_err-clause-err
returns-then-is_err-clause-err c =
    let k : List ℕ × ℕ = (c.args.path.now, c.args.stamp) in
    together
    (dropped c.self.inside.links c.add.new.self c.drop_page.new.self k _
    (ap (λ (kept : Kept). map.get kept.links k) c.self.view_is ∙ c.requires.free.links)
    c.in_ok-add.ensures.ok c.drop_page.ensures.rest)
    (on_err c.add-2.result c.add-2.ensures.err (sym c.is_err.ensures.value ∙ c.if-is_err.true))
    refl ∙ c.self.view_is

pub returns-then-is_err-2-clause-err : goal.returns-then-is_err-2-clause-err
returns-then-is_err-2-clause-err c =
    let k : List ℕ × ℕ = (c.args.path.now, c.args.stamp) in
    together
    (dropped c.self.inside.links c.add.new.self c.drop_page-then-is_err-2-2.new.self k _
    (ap (λ (kept : Kept). map.get kept.links k) c.self.view_is ∙ c.requires.free.links)
    c.in_ok-add.ensures.ok c.drop_page-then-is_err-2-2.ensures.rest)
    (dropped c.self.inside.words c.add-2.new.self c.drop_page-then-is_err-2.new.self k _
    (ap (λ (kept : Kept). map.get kept.words k) c.self.view_is ∙ c.requires.free.words)
    (on_fine c.add-2.result c.add-2.ensures.ok (sym c.is_err.ensures.value ∙ c.if-is_err.false))
    c.drop_page-then-is_err-2.ensures.rest)
    (on_err c.add-3.result c.add-3.ensures.err (sym c.is_err-2.ensures.value ∙ c.if-is_err-2.true)) ∙ c.self.view_is
