use Rattle.std.proofs.Common.{string_bytes}
use Rattle.std.specs.Prelude.{option_copied}
use Rattle.doc_rows_folders.proofs.FoundSteps.{last_is_found}
use Rattle.doc_rows_folders.proofs.found.last_key.Goals as goal

pub returns : goal.returns
returns c = λ site are.
    last_is_found site c.args.reader.now c.args.folder.now c.args.before.now (string_bytes c.in_ok-start.start)
    (option_copied c.last_seen.result) c.key_found.result c.requires c.in_ok-start.ensures
    (c.last_seen.ensures site are) c.key_found.ensures
