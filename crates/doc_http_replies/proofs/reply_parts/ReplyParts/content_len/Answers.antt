use Rattle.doc_http_replies.specs.ReplySteps.{reply_with}
use Rattle.doc_http_replies.proofs.ReplyLemmas.{length_of_content}
use Rattle.doc_http_replies.proofs.reply_parts.ReplyParts.content_len.Goals as goal

pub returns-else-self-eq200 : goal.returns-else-self-eq200
returns-else-self-eq200 c = rw c.reason.ensures (length_of_content (reply_with c.args.self.now) c.requires c.if-self-eq200.false)
