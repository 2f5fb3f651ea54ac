use Rattle.std.proofs.Common.{append_assoc}
use Rattle.doc_server_status.specs.Metrics.{standing_metrics}
use Rattle.doc_server_status.proofs.metrics.push_standing.Goals as goal

pub returns : goal.returns
unfolding standing_metrics
returns c =
    rw (c.in_ok-push_reloads.ensures, c.in_ok-push_journal.ensures, c.in_ok-push_metric.ensures)
    (simp append_assoc)
