use Rattle.doc_people_pages.proofs.HeadingSteps.{none_listed, nothing_told, some_listed}
use Rattle.doc_people_lines.proofs.WriteSteps.{as_told}
use Rattle.doc_people_pages.proofs.headings.push_on_this_page.Goals as goal

pub returns-then-not-has_listed : goal.returns-then-not-has_listed
returns-then-not-has_listed c =
    nothing_told _ _ (none_listed c.args.headings.now c.behind_title-headings.result.now c.has_listed.result c.behind_title-headings.ensures
    c.has_listed.ensures c.if-not-has_listed.true)

pub returns : goal.returns
returns c =
    as_told c.push_list.result _ _ _ _ (some_listed c.args.headings.now c.behind_title-headings.result.now c.has_listed.result
    c.behind_title-headings.ensures c.has_listed.ensures c.if-not-has_listed.false) c.push_list.ensures
