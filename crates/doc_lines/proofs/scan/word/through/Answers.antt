use Rattle.std.proofs.Common.{rules}
use Rattle.doc_rules.specs.Parsers.{word}
use Rattle.doc_lines.proofs.scan.word.through.Goals as goal

pub returns : goal.returns
returns c = c.through_first.ensures (word c.args.end.now) (λ text found h. search rules)
