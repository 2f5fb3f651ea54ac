use Rattle.std.proofs.Common.{◌+◌, Ok, ap, sym, ◌∙◌}
use Rattle.doc_server_config.proofs.RowSteps.{page_bad, page_more}
use Rattle.doc_server_config.specs.PageRows.{pages_from}
use Rattle.doc_server_config.proofs.page_row.pages_of.Goals as goal
use Rattle.doc_store_readers.proofs.EntrySteps.{row_more, rows_done}

pub loop-index-preserved : goal.loop-index-preserved
loop-index-preserved c =
    let rows = row_more c.args.tables.now c.loop-index.index c.index-tables-index.result c.loop-index-test.true c.index-tables-index.is in
    let is = sym c.in_ok-page.ensures ∙ c.in-Some.is in
    c.loop-index.invariant ∙ page_more _ _ (c.loop-index.index + 1) _ _ _ c.in-Some.page rows is c.in_ok-push.ensures

pub returns-in_default-clause-refused : goal.returns-in_default-clause-refused
returns-in_default-clause-refused c =
    let rows = row_more c.args.tables.now c.loop-index.index c.index-tables-index.result c.loop-index-test.true c.index-tables-index.is in
    λ _. c.loop-index.invariant ∙ page_bad _ (c.loop-index.index + 1) _ _ _ rows (sym c.in_ok-page.ensures ∙ c.in_default.is)

pub returns-clause-read : goal.returns-clause-read
returns-clause-read c =
    c.loop-index.invariant ∙ ap (pages_from c.loop-index.pages.items (c.loop-index.index + 1))
    (rows_done c.args.tables.now c.loop-index.index c.loop-index-test.false) ∙ ap Ok (sym c.new.ensures)
