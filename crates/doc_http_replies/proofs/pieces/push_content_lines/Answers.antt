use Rattle.std.proofs.lemmas.Result.{IfOk-equal}
use Rattle.std.proofs.Common.{arith}
use Rattle.doc_http_replies.specs.ReplyForms.{content_reply}
use Rattle.doc_http_replies.proofs.ReplyLemmas.{content_lines_after}
use Rattle.doc_http_replies.proofs.pieces.push_content_lines.Goals as goal

pub returns : goal.returns
returns c = λ body is.
    IfOk-equal c.push_length.result _ _ _ c.push_length.ensures
    (content_lines_after (content_reply c.args.html body) _ _ _ _ (λ e. omega (arith, e)) c.content_type.ensures c.in_ok-push_field.ensures is)
