use Rattle.std.proofs.Common.{ap, ◌∙◌}
use Rattle.doc_lines.proofs.BuiltInLaws.{rows_rise, rows_are_built_in}
use Rattle.doc_rules.specs.Entities.{built_in}
use Rattle.doc_rules.specs.Escapes.{find_entity}
use Rattle.doc_lines.proofs.entities.built_in.find_built_in.Goals as goal

pub find_in-requires-clause-order : goal.find_in-requires-clause-order
find_in-requires-clause-order c = rows_rise

pub returns : goal.returns
returns c = c.find_in.ensures ∙ rows_are_built_in c.as_bytes.result.now ∙ ap (find_entity built_in) c.as_bytes.ensures.value
