use Rattle.std.proofs.Common.{arith}
use Rattle.doc_inlines_emphasis.proofs.NumberLaws.{taken_is}
use Rattle.doc_inlines_emphasis.proofs.pair.take_delimiters.Goals as goal

pub returns : goal.returns
returns c = taken_is c.args.runs.now c.args.opener c.args.closer c.args.taken _ _ (omega arith) c.requires.within
