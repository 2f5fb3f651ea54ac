use Rattle.std.proofs.Common.{◌∙◌}
use Rattle.doc_server_rounds.proofs.Written.{more_written, within_more}
use Rattle.doc_server_rounds.proofs.sending.write_all.Goals as goal

pub writes-preserved : goal.writes-preserved
writes-preserved g c = record {
  within = within_more c.args.bytes.now c.writes.sent c.in-Ok.count c.writes.invariant.within c.in-Ok.ensures.bound;
  sent = more_written _ _ _ c.args.bytes.now c.writes.sent c.in-Ok.count c.in-Ok.ensures.bound c.writes.invariant.sent
      c.in-Ok.ensures.bytes;
  fine = c.in-Ok.ensures.count ∙ c.writes.invariant.fine;
  unread = c.in-Ok.ensures.unread ∙ c.writes.invariant.unread;
  stalls = c.in-Ok.ensures.stalls ∙ c.writes.invariant.stalls;
}
