use Rattle.std.proofs.Common.{rules, ◌∙◌, sym}
use Rattle.doc_rules.specs.Tags.{attribute}
use Rattle.doc_lines.proofs.Steps.{repeated_ends, repeated_goes_on}
use Rattle.doc_lines.proofs.Takes.{attribute_takes}
use Rattle.doc_lines.proofs.scan.tag.attributes.Goals as goal

pub returns : goal.returns
returns c = repeated_ends attribute _ attribute_takes c.in_default.ensures ∙ sym c.attributes.invariant.1

pub attributes-preserved : goal.attributes-preserved
attributes-preserved c = (search rules, c.attributes.invariant.1 ∙ repeated_goes_on attribute _ _ attribute_takes c.in-Some.ensures)

pub attributes-smaller : goal.attributes-smaller
attributes-smaller c = attribute_takes _ _ (sym c.in-Some.ensures)
