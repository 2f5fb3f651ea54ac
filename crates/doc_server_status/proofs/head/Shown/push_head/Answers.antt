use Rattle.std.proofs.Common.{append_assoc}
use Rattle.doc_server_status.specs.Replies.{head_of}
use Rattle.doc_server_status.proofs.head.Shown.push_head.Goals as goal

pub returns : goal.returns
unfolding head_of
returns c =
    rw (
      c.in_ok-push_str-2.ensures.bytes,
      c.in_ok-push_str.ensures.bytes,
      c.allow_line.ensures,
      c.in_ok-push_length_line.ensures,
      c.in_ok-push_type_line.ensures,
      c.in_ok-push_status_line.ensures,
    )
    (simp (append_assoc, c.get.ensures))
