use Rattle.std.proofs.Common.{append_assoc}
use Rattle.doc_server_status.specs.Replies.{status_line}
use Rattle.doc_server_status.proofs.head.push_status_line.Goals as goal

pub returns : goal.returns
unfolding status_line
returns c =
    rw (c.in_ok-write.ensures.bytes)
    (simp (append_assoc, c.reason.ensures))
