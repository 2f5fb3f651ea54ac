use Rattle.doc_people_pages.proofs.HeadingSteps.{no_line, nothing_told}
use Rattle.doc_people_pages.proofs.headings.push_heading_line.Goals as goal

pub returns-then-has_main : goal.returns-then-has_main
returns-then-has_main c =
    nothing_told _ _ (no_line c.args.path.now c.args.headings.now c.has_main.result c.has_main.ensures c.if-has_main.true)
