use Rattle.std.proofs.Common.{append_assoc}
use Rattle.doc_server_status.specs.Replies.{type_line}
use Rattle.doc_server_status.proofs.head.push_type_line.Goals as goal

pub returns : goal.returns
unfolding type_line
returns c =
    rw (c.in_ok-write.ensures.bytes)
    (simp (append_assoc, c.kind.ensures))
