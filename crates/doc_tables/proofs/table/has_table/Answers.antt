use Rattle.std.proofs.Common.{◌∙◌, ap, Option, List}
use Rattle.std.specs.Prelude.{is_some}
use Rattle.doc_rules.specs.Characters.{Text}
use Rattle.doc_rules.specs.Tables.{TableSource, has_table}
use Rattle.doc_tables.proofs.TextLaws.{found_tells}
use Rattle.doc_tables.proofs.table.has_table.Goals as goal

pub returns : goal.returns
unfolding has_table
returns c = c.is_some.ensures
    ∙ found_tells _ _ _ c.first_table.ensures (λ found h. ap (λ (o : Option (List Text × TableSource)). is_some o) h.found_is)
