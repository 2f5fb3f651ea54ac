use Rattle.std.proofs.Common.{rules}
use Rattle.std.proofs.lemmas.List.{append_assoc}
use Rattle.doc_http_replies.proofs.pieces.push_field_lines.Goals as goal

pub returns : goal.returns
returns c = λ body is. search (rules, append_assoc, c.in_ok-push_content_lines.ensures body is)
