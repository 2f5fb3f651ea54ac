use Rattle.std.proofs.Common.{◌∙◌, ap, drop}
use Rattle.doc_resolve.specs.WrittenPaths.{path_written}
use Rattle.doc_resolve.proofs.DotSteps.{texts}
use Rattle.doc_resolve.proofs.LinkLaws.{nothing_written}
use Rattle.doc_resolve.proofs.links.target_on.Goals as goal

pub returns-in_default : goal.returns-in_default
returns-in_default c =
    nothing_written c.as_slice.result.now c.in_default.ensures.cases
    ∙ ap (λ p. path_written (drop 1 (texts p))) c.as_slice.ensures.value
    ∙ ap (λ p. path_written (drop 1 p)) c.in_ok-found.ensures
