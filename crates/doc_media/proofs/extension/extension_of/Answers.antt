use Rattle.std.proofs.Common.{arith, sym, ap, ◌∙◌}
use Rattle.std.specs.Prelude.{option_copied}
use Rattle.doc_media.proofs.SplitSteps.{cut_at_last, extension_is, point_leads, point_leads_not, texts_of_cut}
use Rattle.doc_media.specs.Kinds.{behind_point}
use Rattle.doc_media.proofs.extension.extension_of.Goals as goal

pub returns-in_err-name : goal.returns-in_err-name
returns-in_err-name c =
    ap option_copied c.from_residual.ensures
    ∙ ap (λ cut. behind_point (texts_of_cut cut)) (sym c.in_err-name.was)
    ∙ extension_is c.args.path.now c.last_part.result.now c.rsplit_once.result c.last_part.ensures
    (cut_at_last 46 c.last_part.result.now c.rsplit_once.result c.rsplit_once.ensures.cases (omega arith))

pub returns-then-is_empty : goal.returns-then-is_empty
returns-then-is_empty c =
    point_leads_not c.in_ok-name.name.now c.in_ok-name.extension.now c.is_empty.result c.is_empty.ensures c.if-is_empty.true
    ∙ ap (λ cut. behind_point (texts_of_cut cut)) (sym c.in_ok-name.was)
    ∙ extension_is c.args.path.now c.last_part.result.now c.rsplit_once.result c.last_part.ensures
    (cut_at_last 46 c.last_part.result.now c.rsplit_once.result c.rsplit_once.ensures.cases (omega arith))

pub returns : goal.returns
returns c =
    point_leads c.in_ok-name.name.now c.in_ok-name.extension.now c.is_empty.result c.is_empty.ensures c.if-is_empty.false
    ∙ ap (λ cut. behind_point (texts_of_cut cut)) (sym c.in_ok-name.was)
    ∙ extension_is c.args.path.now c.last_part.result.now c.rsplit_once.result c.last_part.ensures
    (cut_at_last 46 c.last_part.result.now c.rsplit_once.result c.rsplit_once.ensures.cases (omega arith))
