use Rattle.std.proofs.Common.{arith, refl}
use Rattle.doc_index_tables.specs.ShortTexts.{number_of}
use Rattle.doc_index_tables.proofs.NumberSteps.{all_bytes, one_more, within_16}
use Rattle.doc_index_tables.proofs.text_table.packed.Goals as goal

pub loop-byte-init : goal.loop-byte-init
unfolding number_of
loop-byte-init c = (refl, omega arith)

pub overflow_mul-number : goal.overflow_mul-number
overflow_mul-number c = let most = within_16 c.loop-byte.byte-index c.loop-byte.number 0 (omega arith) c.loop-byte.invariant.1 (omega arith) in omega (arith, most)

pub overflow_add-number : goal.overflow_add-number
overflow_add-number c =
    let most = within_16 c.loop-byte.byte-index c.loop-byte.number c.from.result (omega arith) c.loop-byte.invariant.1 (omega arith) in
    omega (arith, most)

pub loop-byte-preserved : goal.loop-byte-preserved
loop-byte-preserved c =
    one_more c.args.bytes.now c.loop-byte.byte-index c.loop-byte.number c.from.result c.loop-byte-test.true c.from.ensures
    (c.type_inv.bytes c.loop-byte.byte-index).fits c.loop-byte.invariant

pub returns : goal.returns
returns c = all_bytes c.args.bytes.now c.loop-byte.byte-index c.loop-byte.number (omega arith) c.loop-byte.invariant.0
