use Rattle.doc_html.proofs.WrittenSteps.{no_title, some_title}
use Rattle.doc_html.proofs.html_writer.title_is_text.Goals as goal

pub returns-in_default : goal.returns-in_default
returns-in_default c = no_title c.args.title.now c.in_default.is

pub returns : goal.returns
returns c = some_title c.args.title.now c.in-Some.title c.get-text.result.now c.in-Some.is c.get-text.ensures c.get-text.utf8
