use Rattle.std.proofs.Common.{append_assoc}
use Rattle.doc_server_status.specs.Metrics.{reload_metric}
use Rattle.doc_server_status.proofs.metrics.push_reloads.Goals as goal

pub returns : goal.returns
unfolding reload_metric
returns c =
    rw (c.in_ok-push_metric.ensures, c.in_ok-push_sample-2.ensures, c.in_ok-push_sample.ensures, c.in_ok-push_heading.ensures)
    (simp append_assoc)
