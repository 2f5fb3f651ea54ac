use Rattle.std.proofs.Common.{append_assoc}
use Rattle.doc_server_status.specs.Metrics.{metrics_text}
use Rattle.doc_server_status.proofs.metrics.push_metrics.Goals as goal

pub returns : goal.returns
unfolding metrics_text
returns c =
    rw (
      c.in_ok-push_standing.ensures,
      c.in_ok-push_turn.ensures,
      c.in_ok-push_connections.ensures,
      c.in_ok-push_replies.ensures,
      c.in_ok-push_requests.ensures,
    )
    (simp append_assoc)
