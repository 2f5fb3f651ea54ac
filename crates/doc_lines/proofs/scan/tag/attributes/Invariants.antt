use Rattle.std.proofs.Common.{◌≡◌, chars, length}
use denote.Text.{Utf8}
use denote.Shadow.{shadow}
use Rattle.doc_rules.specs.Parsers.{repeated}
use Rattle.doc_rules.specs.Tags.{attribute}
use Rattle.doc_lines.proofs.scan.tag.attributes.Given as goal

abbrev pub invariant-attributes : goal.invariant-attributes
invariant-attributes l = shadow (Utf8 l.rest) × (repeated attribute (chars l.text) ≡ repeated attribute (chars l.rest))

abbrev pub decreases-attributes : goal.decreases-attributes
decreases-attributes l = length (chars l.rest)
