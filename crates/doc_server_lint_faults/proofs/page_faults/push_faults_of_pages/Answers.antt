use Rattle.std.proofs.Common.{◌+◌, ◌++◌, ap, sym, ◌∙◌}
use Rattle.doc_store_readers.proofs.EntrySteps.{row_more}
use Rattle.doc_server_lint_faults.specs.TableFaults.{faults_of_pages}
use Rattle.doc_server_lint_faults.proofs.RowSteps.{row_found}
use Rattle.doc_server_lint_faults.proofs.page_faults.push_faults_of_pages.Goals as goal

pub loop-index-preserved : goal.loop-index-preserved
loop-index-preserved c =
    let rows = row_more c.args.rows.now c.loop-index.index c.index-rows-index.result c.loop-index-test.true c.index-rows-index.is in
    row_found c.loop-index.found.items _ _ _ _ c.in_ok-push_faults_of_page.ensures
    (ap (λ items. c.loop-index.found.items ++ faults_of_pages (c.loop-index.index + 1) items) (sym rows) ∙ c.loop-index.invariant)
