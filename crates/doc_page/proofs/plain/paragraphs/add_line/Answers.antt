use Rattle.doc_page.proofs.PlainSteps.{ends_run}
use Rattle.doc_page.proofs.plain.paragraphs.add_line.Goals as goal

pub returns-then-is_empty-clause-told : goal.returns-then-is_empty-clause-told
returns-then-is_empty-clause-told c =
    ends_run c.end_run.result c.args.texts.now.items _ _ c.end_run.new.run.items c.args.line.now _ c.requires c.is_empty.ensures
    c.if-is_empty.true c.end_run.ensures.empty c.end_run.ensures.told
