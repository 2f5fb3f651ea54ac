use Rattle.std.proofs.Common.{◌≡◌, subst}
use Rattle.std.specs.Prelude.{IfOk}
use Rattle.doc_http_replies.proofs.HeadLaws.{plainly}
use Rattle.doc_http_replies.proofs.reply.Reply.write.Goals as goal

pub returns : goal.returns
returns c =
    subst (λ wanted. IfOk c.write.result (λ bytes. bytes ≡ wanted))
    (plainly _ _ c.args.self.now _ c.args.head_only _ c.args.close c.plain.ensures.dress c.parts.ensures c.plain.ensures.head_only
    c.plain.ensures.close)
    c.write.ensures
