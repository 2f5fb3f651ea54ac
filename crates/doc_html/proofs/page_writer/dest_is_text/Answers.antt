use Rattle.doc_html.proofs.PageSteps.{same_bytes}
use Rattle.doc_html.proofs.page_writer.dest_is_text.Goals as goal

pub returns : goal.returns
returns c = same_bytes c.get-text.result.now c.args.dest.now c.get-text.ensures c.get-text.utf8
