use Rattle.std.proofs.Common.{◌+◌, ◌++◌, drop, ap, sym, ◌∙◌}
use Rattle.toml.specs.View.{items_view}
use Rattle.doc_store_readers.proofs.EntrySteps.{row_more}
use Rattle.doc_server_lint.specs.Warnings.{warnings_of_pages}
use Rattle.doc_server_lint_faults.proofs.RowSteps.{row_found}
use Rattle.doc_server_lint.proofs.page_warnings.push_warnings_of_pages.Goals as goal

pub loop-index-preserved : goal.loop-index-preserved
loop-index-preserved c =
    let rows = row_more c.args.rows.now c.loop-index.index c.index-rows-index.result c.loop-index-test.true c.index-rows-index.is in
    ap (λ paths. c.push_warnings_of_page.new.found.items
    ++ warnings_of_pages c.args.held.now paths (c.loop-index.index + 1 + 1) (items_view (drop (c.loop-index.index + 1) c.args.rows.now)))
    c.in_ok-push_warnings_of_page.ensures.paths
    ∙ row_found c.loop-index.found.items _ _ _ _ c.in_ok-push_warnings_of_page.ensures.warnings
    (ap (λ items. c.loop-index.found.items ++ warnings_of_pages c.args.held.now c.loop-index.paths (c.loop-index.index + 1) items)
    (sym rows)
    ∙ c.loop-index.invariant)
