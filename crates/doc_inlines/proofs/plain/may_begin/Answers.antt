use Rattle.std.proofs.Common.{refl, arith}
use Rattle.doc_inlines.specs.declared.plain.TheConstants.{ALL_BEGINNINGS}
use Rattle.doc_inlines.proofs.ClassLaws.{agree_below}
use Rattle.doc_inlines.proofs.PlainEndLaws.{all_in_table}
use Rattle.doc_inlines.proofs.plain.may_begin.Goals as goal

-- the table is held against the definition at each of the 256 bytes, by computing
pub returns : goal.returns
unfolding agree_below
returns c = all_in_table ALL_BEGINNINGS c.args.byte (omega arith) refl
