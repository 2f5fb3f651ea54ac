use Rattle.std.proofs.Common.{append_assoc}
use Rattle.doc_server_status.specs.Metrics.{journal_metrics}
use Rattle.doc_server_status.proofs.metrics.push_journal.Goals as goal

pub returns : goal.returns
unfolding journal_metrics
returns c =
    rw (c.in_ok-push_metric-2.ensures, c.records.ensures, c.in_ok-push_metric.ensures)
    (simp append_assoc)
