use Rattle.doc_people_pages.proofs.InertSteps.{begins_short, front_tested}
use Rattle.doc_people_pages.proofs.inert.begins_in_any_case.Goals as goal

pub returns-then-text-word : goal.returns-then-text-word
returns-then-text-word c = begins_short c.args.word.now c.args.text.now c.if-text-word.true

pub returns : goal.returns
returns c = front_tested c.args.word.now c.args.text.now c.is_word.result c.if-text-word.false c.is_word.ensures
