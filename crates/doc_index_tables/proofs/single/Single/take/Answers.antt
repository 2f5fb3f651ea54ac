use Rattle.std.proofs.Common.{ap, is_some, sym, ◌∙◌}
use Rattle.doc_page_parts.proofs.Options.{is_some_false}
use Rattle.doc_index_tables.proofs.PlaceSteps.{none_removed}
use Rattle.doc_index_tables.proofs.SingleSteps.{one_taken}
use Rattle.doc_index_tables.proofs.single.Single.take.Goals as goal

pub returns-then-is_none : goal.returns-then-is_none
returns-then-is_none c =
    sym (none_removed c.args.self.now c.args.number (sym c.get.ensures ∙ is_some_false c.get.result c.if-is_none.ensures))

pub returns : goal.returns
returns c =
    one_taken c.self.inside.entry c.args.self.now c.self.view_is c.args.number
    (ap is_some (sym c.get.ensures) ∙ c.if-is_none.ensures)
