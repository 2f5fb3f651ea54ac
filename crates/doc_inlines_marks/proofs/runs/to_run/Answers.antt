use Rattle.doc_inlines_marks.proofs.PlainTexts.{nowhere_to_run, run_at_place}
use Rattle.doc_inlines_marks.proofs.runs.to_run.Goals as goal

pub returns-in-Some : goal.returns-in-Some
returns-in-Some c =
    let found = c.in-Some.ensures.cases in
    run_at_place _ _ _ found.0 c.utf8.text c.range_from.utf8 c.range_from.ensures.value found.1 found.3

pub returns-in-None : goal.returns-in-None
returns-in-None c = nowhere_to_run _ c.utf8.text c.in-None.ensures.cases
