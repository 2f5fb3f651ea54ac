use Rattle.std.proofs.Common.{ap, ◌∙◌, string_bytes}
use Rattle.std.specs.FinMap as map
use Rattle.doc_index_tables.specs.ShortTexts.{has_number}
use Rattle.doc_index_tables.specs.TextTables.{both_kinds}
use Rattle.doc_index_tables.proofs.TextSteps.{inserted_long, inserted_short}
use Rattle.doc_index_tables.proofs.text_table.TextTable.insert.Goals as goal

pub returns-in_ok-insert-in-Some-clause-ok : goal.returns-in_ok-insert-in-Some-clause-ok
returns-in_ok-insert-in-Some-clause-ok g c =
    inserted_short c.args.text.now c.self.inside.short c.insert.new.self c.self.inside.long.entries c.args.value c.in-Some.number
    c.in-Some.ensures.0 c.in-Some.ensures.1 c.in_ok-insert-in-Some.ensures.updates
    ∙ ap (λ m. map.insert m c.args.text.now c.args.value) c.self.view_is

pub returns-in_ok-insert-in-None-clause-ok : goal.returns-in_ok-insert-in-None-clause-ok
returns-in_ok-insert-in-None-clause-ok g c =
    let key = c.in_ok-from_str-in-None.field-0 in
    let same = c.in_ok-from_str-in-None.ensures.ok in
    inserted_long (string_bytes key) c.self.inside.short.entries c.self.inside.long c.insert-in-None.new.self c.args.value
    (ap has_number same ∙ c.in-None.ensures) c.in_ok-insert-in-None.ensures.updates
    ∙ ap (λ t. map.insert (both_kinds c.self.inside.short.entries c.self.inside.long.entries) t c.args.value) same
    ∙ ap (λ m. map.insert m c.args.text.now c.args.value) c.self.view_is
