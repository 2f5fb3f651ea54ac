use Rattle.std.proofs.Common.{◌∙◌}
use Rattle.doc_server_streams.proofs.Written.{more_written, within_more}
use Rattle.doc_server_streams.proofs.sending.write_all.Goals as goal

pub writes-preserved : goal.writes-preserved
writes-preserved g c = record {
  within = within_more c.args.bytes.now c.writes.sent c.in_ok-sent.field-0 c.writes.invariant.within c.in_ok-sent.ensures.bound;
  sent = more_written _ _ _ c.args.bytes.now c.writes.sent c.in_ok-sent.field-0 c.in_ok-sent.ensures.bound c.writes.invariant.sent
      c.in_ok-sent.ensures.bytes;
  count = c.in_ok-sent.ensures.count ∙ c.writes.invariant.count;
}
