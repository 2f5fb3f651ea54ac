use Rattle.std.proofs.Common.{lit<, sym, ◌∙◌}
use Rattle.std.proofs.lemmas.Str.Pattern.{ends_char}
use Rattle.doc_rows_folders.proofs.TextLaws.{whole_by}
use Rattle.doc_rows_folders.proofs.starts.is_whole.Goals as goal

pub returns-else-is_empty : goal.returns-else-is_empty
returns-else-is_empty c =
    whole_by c.args.folder.now c.ends_with.result (sym c.is_empty.ensures ∙ c.if-is_empty.false)
    (ends_char 47 c.args.folder.now c.ends_with.result c.ends_with.ensures.cases (lit< tt))
