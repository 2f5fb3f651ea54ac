use Rattle.std.proofs.Common.{sym, ap, ◌∙◌}
use Rattle.doc_rules.specs.Destinations.{escaped}
use Rattle.doc_rules.proofs.GrammarLaws.{escaped_leaves, escaped_takes}
use Rattle.doc_lines.proofs.Steps.{one_behind}
use Rattle.doc_refs_parts.proofs.scan.escaped.escaped_or_one.Goals as goal

pub returns-in-Some-clause-end : goal.returns-in-Some-clause-end
returns-in-Some-clause-end g c = escaped_leaves _ _ (ap escaped c.in_ok-c.ensures.characters ∙ sym c.in-Some.ensures)

pub returns-in-Some-clause-shorter : goal.returns-in-Some-clause-shorter
returns-in-Some-clause-shorter g c = escaped_takes _ _ (ap escaped c.in_ok-c.ensures.characters ∙ sym c.in-Some.ensures)

pub returns-then-test-clause-end : goal.returns-then-test-clause-end
returns-then-test-clause-end g c = one_behind _ _ _ c.in_ok-c.ensures.characters
