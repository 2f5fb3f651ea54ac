use Rattle.std.proofs.Common.{◌≡◌, chars, length}
use denote.Text.{Utf8}
use denote.Shadow.{shadow}
use Rattle.doc_rules.specs.Parsers.{is, ◌then◌, repeated}
use Rattle.doc_rules.specs.Autolinks.{domain_part}
use Rattle.doc_lines.proofs.scan.autolink.more_domain_parts.Given as goal

abbrev pub invariant-parts : goal.invariant-parts
invariant-parts l = shadow (Utf8 l.rest) × (repeated (is 46 then domain_part) (chars l.text)
    ≡ repeated (is 46 then domain_part) (chars l.rest))

abbrev pub decreases-parts : goal.decreases-parts
decreases-parts l = length (chars l.rest)
