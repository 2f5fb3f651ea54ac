use Rattle.doc_rules.proofs.ParserLaws.{is_all}
use Rattle.doc_lines.proofs.Rests.{word_rest}
use Rattle.doc_inlines_marks.proofs.reference_tail.behind_empty_label.Goals as goal

pub returns-in-Some-clause-end : goal.returns-in-Some-clause-end
returns-in-Some-clause-end c = word_rest _ _ _ c.in-Some.ensures

pub returns-in-None-clause-end : goal.returns-in-None-clause-end
returns-in-None-clause-end c = is_all _
