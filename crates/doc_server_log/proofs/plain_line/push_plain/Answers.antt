use Rattle.std.proofs.Common.{append_assoc}
use Rattle.doc_server_log.proofs.plain_line.push_plain.Goals as goal

pub returns : goal.returns
returns c = rw (c.in_ok-write-2.ensures.bytes, c.in_ok-push_request_line.ensures, c.in_ok-write.ensures.bytes) (simp append_assoc)
