use Rattle.std.proofs.Common.{◌≡◌, chars, drop}
use denote.Text.{Utf8}
use denote.Shadow.{shadow}
use Rattle.doc_rules.specs.Parsers.{word_in_any_case}
use Rattle.doc_lines.proofs.scan.word.word_in_any_case.Given as goal

abbrev pub invariant-loop-letter : goal.invariant-loop-letter
invariant-loop-letter l = shadow (Utf8 l.rest) × (word_in_any_case l.letters (chars l.text)
    ≡ word_in_any_case (drop l.letter-index l.letters) (chars l.rest))
