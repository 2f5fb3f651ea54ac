use Rattle.std.proofs.Common.{sym, arith}
use Rattle.std.specs.Option.{option_copied}
use Rattle.doc_resolve.proofs.DotSteps.{folder-goes, folder-stays}
use Rattle.doc_resolve.proofs.resolution.folder_len.Goals as goal

pub returns-then-stays-clause-folder : goal.returns-then-stays-clause-folder
returns-then-stays-clause-folder c =
    folder-stays (option_copied c.args.authority) c.args.base.now _ (sym c.if-stays.ensures) (omega arith)

pub returns-clause-folder : goal.returns-clause-folder
returns-clause-folder c =
    folder-goes (option_copied c.args.authority) c.args.base.now _ (sym c.if-stays.ensures) (omega arith)
