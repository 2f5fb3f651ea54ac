use Rattle.std.proofs.Common.{string_bytes}
use Rattle.doc_server_script.specs.Escapes.{spaceless_byte}
use Rattle.doc_server_script.proofs.LoopSteps.{one_more_byte}
use Rattle.doc_server_script.proofs.escaping.push_spaceless.Goals as goal

pub loop-byte-preserved : goal.loop-byte-preserved
loop-byte-preserved c =
    one_more_byte spaceless_byte c.args.bytes.now c.loop-byte.byte-index (string_bytes c.args.out.now) (string_bytes c.loop-byte.out)
    (string_bytes c.push_spaceless_byte.new.out) c.loop-byte-test.true c.loop-byte.invariant c.in_ok-push_spaceless_byte.ensures.ok
