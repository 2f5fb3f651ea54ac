use Rattle.std.proofs.Common.{◌≡◌, ◌+◌, [], ◌∷◌, ◌++◌, Ok, ap, sym, ◌∙◌, rules}
use Rattle.doc_store_readers.proofs.EntrySteps.{entry_bad, entry_more, row_more, rows_done}
use Rattle.doc_store_readers.specs.Readers.{entries_from}
use Rattle.doc_store_readers.proofs.entries.entries_of_tables.Goals as goal

pub loop-index-preserved : goal.loop-index-preserved
loop-index-preserved c =
    let rows = row_more c.args.tables.now c.loop-index.index c.index-tables-index.result c.loop-index-test.true c.index-tables-index.is in
    let is = sym c.in_ok-entry.ensures ∙ c.in-Some.is in
    let pushed : c.push.new.self.items ≡ c.loop-index.entries.items ++ c.in-Some.entry ∷ [] = search rules in
    c.loop-index.invariant ∙ entry_more _ _ (c.loop-index.index + 1) _ _ _ c.in-Some.entry rows is pushed

pub returns-in_default-clause-refused : goal.returns-in_default-clause-refused
returns-in_default-clause-refused c =
    let rows = row_more c.args.tables.now c.loop-index.index c.index-tables-index.result c.loop-index-test.true c.index-tables-index.is in
    λ _. c.loop-index.invariant ∙ entry_bad _ (c.loop-index.index + 1) _ _ _ rows (sym c.in_ok-entry.ensures ∙ c.in_default.is)

pub returns-clause-read : goal.returns-clause-read
returns-clause-read c =
    c.loop-index.invariant ∙ ap (entries_from c.loop-index.entries.items (c.loop-index.index + 1))
    (rows_done c.args.tables.now c.loop-index.index c.loop-index-test.false) ∙ ap Ok (sym c.new.ensures)
