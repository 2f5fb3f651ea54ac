use Rattle.std.proofs.Common.{◌+◌, Ok, ap, sym, ◌∙◌}
use Rattle.doc_server_config.proofs.RowSteps.{folder_bad, folder_more}
use Rattle.doc_server_config.specs.Folders.{folders_from}
use Rattle.doc_server_config.proofs.folder.folders_of.Goals as goal
use Rattle.doc_store_readers.proofs.EntrySteps.{row_more, rows_done}

pub loop-index-preserved : goal.loop-index-preserved
loop-index-preserved c =
    let rows = row_more c.args.tables.now c.loop-index.index c.index-tables-index.result c.loop-index-test.true c.index-tables-index.is in
    let is = sym c.in_ok-folder.ensures ∙ c.in-Ok.is in
    c.loop-index.invariant ∙ folder_more _ _ (c.loop-index.index + 1) _ _ _ c.in-Ok.folder rows is c.in_ok-push-in-Ok.ensures

pub returns-in-Err-clause-refused : goal.returns-in-Err-clause-refused
returns-in-Err-clause-refused c =
    let rows = row_more c.args.tables.now c.loop-index.index c.index-tables-index.result c.loop-index-test.true c.index-tables-index.is in
    λ _. c.loop-index.invariant ∙ folder_bad _ (c.loop-index.index + 1) _ _ _ _ rows (sym c.in_ok-folder.ensures ∙ c.in-Err.is)

pub returns-clause-read : goal.returns-clause-read
returns-clause-read c =
    c.loop-index.invariant ∙ ap (folders_from c.loop-index.folders.items (c.loop-index.index + 1))
    (rows_done c.args.tables.now c.loop-index.index c.loop-index-test.false) ∙ ap Ok (sym c.new.ensures)
