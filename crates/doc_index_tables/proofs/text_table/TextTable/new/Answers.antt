use Rattle.doc_index_tables.proofs.TextSteps.{nothing_kept}
use Rattle.doc_index_tables.proofs.text_table.TextTable.new.Goals as goal

pub returns : goal.returns
returns g c = nothing_kept c.new.result.entries c.new-2.result.entries c.new.ensures.empty c.new-2.ensures.empty
