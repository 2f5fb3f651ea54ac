use Rattle.std.proofs.Common.{append_assoc}
use Rattle.doc_server_status.specs.Metrics.{reply_metrics}
use Rattle.doc_server_status.proofs.metrics.push_replies.Goals as goal

pub returns : goal.returns
unfolding reply_metrics
returns c =
    rw (c.in_ok-push_metric-3.ensures, c.in_ok-push_metric-2.ensures, c.in_ok-push_metric.ensures)
    (simp append_assoc)
