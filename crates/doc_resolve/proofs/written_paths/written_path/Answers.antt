use Rattle.std.proofs.Common.{sym, arith}
use Rattle.doc_resolve.proofs.LongPaths.{path-too_long}
use Rattle.doc_resolve.proofs.written_paths.written_path.Goals as goal

pub returns-then-written-gt-LONGEST : goal.returns-then-written-gt-LONGEST
returns-then-written-gt-LONGEST c = sym (path-too_long c.args.written.now (omega arith))
