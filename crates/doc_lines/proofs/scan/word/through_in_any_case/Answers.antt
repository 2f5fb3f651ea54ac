use Rattle.std.proofs.Common.{rules}
use Rattle.doc_rules.specs.Parsers.{word_in_any_case}
use Rattle.doc_lines.proofs.scan.word.through_in_any_case.Goals as goal

pub returns : goal.returns
returns c = c.through_first.ensures (word_in_any_case c.args.end.now) (λ text found h. search rules)
