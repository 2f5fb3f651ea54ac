use Rattle.std.proofs.Common.{◌∙◌}
use Rattle.doc_inlines.proofs.ClassLaws.{punctuation_in_ascii}
use Rattle.doc_inlines.proofs.classes.is_punctuation.Goals as goal

pub returns-then-is_ascii : goal.returns-then-is_ascii
returns-then-is_ascii c = c.is_ascii_punctuation.ensures.value
    ∙ punctuation_in_ascii c.args.c c.is_ascii.result c.is_ascii.ensures c.if-is_ascii.true
