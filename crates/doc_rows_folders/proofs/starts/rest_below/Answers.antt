use Rattle.doc_rows_folders.proofs.TextLaws.{stripped}
use Rattle.doc_rows_folders.proofs.starts.rest_below.Goals as goal

pub returns : goal.returns
returns c = stripped c.args.folder.now c.args.text.now c.strip_prefix.result c.strip_prefix.ensures.cases
