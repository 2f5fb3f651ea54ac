use Rattle.std.proofs.Common.{rules, ◌∙◌, sym}
use Rattle.doc_rules.specs.Parsers.{is, ◌then◌}
use Rattle.doc_rules.specs.Autolinks.{domain_part}
use Rattle.doc_lines.proofs.Steps.{repeated_ends, repeated_goes_on}
use Rattle.doc_lines.proofs.Takes.{further_part_takes}
use Rattle.doc_lines.proofs.scan.autolink.more_domain_parts.Goals as goal

pub returns : goal.returns
returns c = repeated_ends (is 46 then domain_part) _ further_part_takes c.in_default.ensures ∙ sym c.parts.invariant.1

pub parts-preserved : goal.parts-preserved
parts-preserved c = (search rules, c.parts.invariant.1 ∙ repeated_goes_on (is 46 then domain_part) _ _ further_part_takes c.in-Some.ensures)

pub parts-smaller : goal.parts-smaller
parts-smaller c = further_part_takes _ _ (sym c.in-Some.ensures)
