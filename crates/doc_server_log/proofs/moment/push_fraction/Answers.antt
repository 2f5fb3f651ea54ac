use Rattle.std.proofs.Common.{append_assoc}
use Rattle.doc_server_log.proofs.PaddingSteps.{padded_is}
use Rattle.doc_server_log.proofs.moment.push_fraction.Goals as goal

pub returns : goal.returns
returns c = rw (c.in_ok-write.ensures.bytes, c.laid_out.ensures, padded_is 6 c.args.micros) (simp append_assoc)
