use Rattle.std.proofs.Common.{append_assoc}
use Rattle.doc_server_status.specs.Metrics.{sample}
use Rattle.doc_server_status.proofs.metrics.push_sample.Goals as goal

pub returns : goal.returns
unfolding sample
returns c =
    rw (c.in_ok-write.ensures.bytes)
    (simp append_assoc)
