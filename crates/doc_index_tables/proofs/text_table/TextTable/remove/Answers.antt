use Rattle.std.proofs.Common.{ap, ◌∙◌}
use Rattle.std.specs.FinMap as map
use Rattle.doc_index_tables.proofs.TextSteps.{removed_long, removed_short}
use Rattle.doc_index_tables.proofs.text_table.TextTable.remove.Goals as goal

pub returns-in-Some : goal.returns-in-Some
returns-in-Some g c =
    removed_short c.args.text.now c.self.inside.short c.remove.new.self c.self.inside.long.entries c.in-Some.number
    c.in-Some.ensures.0 c.in-Some.ensures.1 c.remove.ensures.updates
    ∙ ap (λ m. map.remove m c.args.text.now) c.self.view_is

pub returns-in-None : goal.returns-in-None
returns-in-None g c =
    removed_long c.args.text.now c.self.inside.short.entries c.self.inside.long c.remove-in-None.new.self c.in-None.ensures
    c.remove-in-None.ensures.updates
    ∙ ap (λ m. map.remove m c.args.text.now) c.self.view_is
