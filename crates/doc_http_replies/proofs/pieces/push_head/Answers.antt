use Rattle.std.proofs.Common.{rules}
use Rattle.std.proofs.lemmas.List.{append_assoc}
use Rattle.doc_http_replies.specs.Heads.{dressed_head}
use Rattle.doc_http_replies.proofs.pieces.push_head.Goals as goal

pub returns : goal.returns
unfolding dressed_head
returns c = λ body is. search (rules, append_assoc, c.in_ok-push_field_lines.ensures body is)
