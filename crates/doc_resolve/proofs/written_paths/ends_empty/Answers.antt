use Rattle.std.proofs.Common.{◌∙◌, ap, sym}
use Rattle.std.proofs.lemmas.List.{map-append}
use Rattle.doc_resolve.specs.WrittenPathSteps.{ends_empty}
use Rattle.doc_resolve.proofs.DotSteps.{texts, is_empty-length}
use Rattle.doc_resolve.proofs.WrittenPathLaws.{ends_empty-last}
use Rattle.doc_resolve.proofs.written_paths.ends_empty.Goals as goal

pub returns-in-Some : goal.returns-in-Some
returns-in-Some c =
    let last = c.in-Some.last.now in
    let front = c.in-Some.field-0-1.now in
    c.is_empty.ensures
    ∙ is_empty-length last.now
    ∙ sym (ap (λ p. ends_empty (texts p)) c.in-Some.ensures.cases.0 ∙ ap ends_empty (map-append (λ s. s.now) front _)
    ∙ ends_empty-last (texts front) last.now)
