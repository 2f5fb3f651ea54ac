use Rattle.std.proofs.lemmas.Result.{IfOk-equal}
use Rattle.doc_http_replies.specs.ReplySteps.{reply_with}
use Rattle.doc_http_replies.proofs.ReplyLemmas.{content_lines_after}
use Rattle.doc_http_replies.proofs.reply_parts.ReplyParts.push_content_lines.Goals as goal

pub returns : goal.returns
returns c =
    IfOk-equal c.push_length.result _ _ _ c.push_length.ensures
    (content_lines_after (reply_with c.args.self.now) _ _ _ _ c.if-self-eq204.false c.content_type.ensures c.in_ok-push_field.ensures
    c.content_len.ensures)
