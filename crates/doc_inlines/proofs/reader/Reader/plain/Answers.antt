use Rattle.doc_inlines.proofs.PlainEndLaws.{plain_run}
use Rattle.doc_inlines.proofs.reader.Reader.plain.Goals as goal

pub pass_plain-requires-clause-run : goal.pass_plain-requires-clause-run
pass_plain-requires-clause-run c = plain_run c.args.entities.now _ _ _ c.args.c c.requires.first c.requires.plain c.requires.other c.behind_plain.ensures
