use Rattle.std.proofs.Common.{◌≡◌, chars, length}
use denote.Text.{Utf8}
use denote.Shadow.{shadow}
use Rattle.doc_rules.specs.Parsers.{Parser, through}
use Rattle.doc_lines.specs.RestSteps.{IsScannerOf}
use Rattle.doc_lines.proofs.scan.word.through_first.Given as goal

abbrev pub invariant-places : goal.invariant-places
invariant-places g l = record {
  is_text : shadow (Utf8 l.rest);
  same : (parser : Parser) → IsScannerOf (goal.F-post g l.scanner) parser → through parser (chars l.text) ≡ through parser (chars l.rest);
}

abbrev pub decreases-places : goal.decreases-places
decreases-places g l = length (chars l.rest)
