use Rattle.std.proofs.Common.{append_assoc}
use Rattle.doc_server_token.proofs.row.push_head.Goals as goal

pub returns : goal.returns
returns c =
    rw (c.in_ok-push_str-3.ensures.bytes, c.in_ok-push_str-2.ensures.bytes, c.in_ok-push_str.ensures.bytes) (simp append_assoc)
