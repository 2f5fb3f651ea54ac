use Rattle.std.proofs.Common.{append_assoc}
use Rattle.doc_server_status.specs.Metrics.{turn_metric}
use Rattle.doc_server_status.proofs.metrics.push_turn.Goals as goal

pub returns : goal.returns
unfolding turn_metric
returns c =
    rw (c.in_ok-write.ensures.bytes, c.in_ok-push_heading.ensures)
    (simp append_assoc)
