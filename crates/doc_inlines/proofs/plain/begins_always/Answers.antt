use Rattle.std.proofs.Common.{refl, arith}
use Rattle.doc_inlines.specs.declared.plain.TheConstants.{BEGINNINGS}
use Rattle.doc_inlines.proofs.ClassLaws.{agree_below}
use Rattle.doc_inlines.proofs.PlainEndLaws.{agree_in_table}
use Rattle.doc_inlines.proofs.plain.begins_always.Goals as goal

-- the table is held against the definition at each of the 256 bytes, by computing
pub returns : goal.returns
unfolding agree_below
returns c = agree_in_table BEGINNINGS c.args.byte (omega arith) refl
