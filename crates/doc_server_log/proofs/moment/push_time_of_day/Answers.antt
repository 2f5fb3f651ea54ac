use Rattle.std.proofs.Common.{◌/◌, ◌%◌, append_assoc}
use Rattle.doc_server_log.proofs.PaddingSteps.{padded_is}
use Rattle.doc_server_log.proofs.moment.push_time_of_day.Goals as goal

pub returns : goal.returns
returns c =
    rw (
      c.in_ok-write.ensures.bytes,
      c.laid_out.ensures,
      c.laid_out-2.ensures,
      c.laid_out-3.ensures,
      padded_is 2 (c.args.seconds / 3600),
      padded_is 2 (c.args.seconds / 60 % 60),
      padded_is 2 (c.args.seconds % 60),
    )
    (simp append_assoc)
