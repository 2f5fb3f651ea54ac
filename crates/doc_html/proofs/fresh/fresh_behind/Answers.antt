use Rattle.std.proofs.Common.{chars}
use Rattle.doc_html.proofs.WrittenSteps.{fresh_none, fresh_end}
use Rattle.doc_html.proofs.fresh.fresh_behind.Goals as goal

pub returns-in-None : goal.returns-in-None
returns-in-None c = fresh_none c.args.fresh (chars c.args.text.now) c.in-None.ensures

pub returns-in-Some : goal.returns-in-Some
returns-in-Some c = fresh_end c.args.fresh (chars c.args.text.now) _ c.in-Some.c c.in-Some.ensures
