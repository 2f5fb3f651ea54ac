use Rattle.std.proofs.Common.{ap, ◌∙◌}
use Rattle.std.specs.FinMap as map
use Rattle.doc_index_tables.proofs.TextSteps.{got_long, got_short}
use Rattle.doc_index_tables.proofs.text_table.TextTable.get.Goals as goal

pub returns-in-Some : goal.returns-in-Some
returns-in-Some g c =
    c.get.ensures.value
    ∙ got_short c.args.text.now c.self.inside.short.entries c.self.inside.long.entries c.in-Some.number c.in-Some.ensures.0
    c.in-Some.ensures.1
    ∙ ap (λ m. map.get m c.args.text.now) c.self.view_is

pub returns-in-None : goal.returns-in-None
returns-in-None g c =
    c.get-in-None.ensures.value
    ∙ got_long c.args.text.now c.self.inside.short.entries c.self.inside.long.entries c.in-None.ensures
    ∙ ap (λ m. map.get m c.args.text.now) c.self.view_is
