use Rattle.std.proofs.Common.{ap, false, subst, sym, ◌∙◌}
use Rattle.doc_shelf_pages.specs.RenderingSteps.{AreImaged, AreLined, renderings_in}
use Rattle.doc_shelf_pages.proofs.HeldSteps.{nothing}
use Rattle.doc_shelf_pages.proofs.ImagedSteps.{imaged_none}
use Rattle.doc_shelf_pages.proofs.LinedSteps.{lined_none}
use Rattle.doc_shelf_pages.proofs.renderings.Renderings.new.Goals as goal

pub returns : goal.returns
returns c = ap renderings_in c.new.ensures ∙ nothing

pub invariant_of-result : goal.invariant_of-result
invariant_of-result c = (subst AreLined (sym c.new.ensures) lined_none, subst (AreImaged false) (sym c.new.ensures) imaged_none)
