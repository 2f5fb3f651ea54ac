use Rattle.std.specs.Fmt.{digits}
use Rattle.doc_http_replies.specs.Replies.{reason_of}
use Rattle.doc_http_media.proofs.lines.push_status_line.Goals as goal

pub returns : goal.returns
unfolding digits reason_of
returns c = c.in_ok-push_str.ensures.bytes
