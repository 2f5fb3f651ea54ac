use Rattle.std.proofs.Common.{append_assoc}
use Rattle.doc_server_log.proofs.PaddingSteps.{padded_is}
use Rattle.doc_server_log.proofs.date.Date.push.Goals as goal

pub returns : goal.returns
returns c =
    rw (
      c.in_ok-write.ensures.bytes,
      c.laid_out.ensures,
      c.laid_out-2.ensures,
      c.laid_out-3.ensures,
      padded_is 4 c.args.self.now.year,
      padded_is 2 c.args.self.now.month,
      padded_is 2 c.args.self.now.day,
    )
    (simp append_assoc)
