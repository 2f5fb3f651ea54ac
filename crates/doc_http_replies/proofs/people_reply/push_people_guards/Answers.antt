use Rattle.std.proofs.lemmas.Result.{on_ok_weaker}
use Rattle.doc_http_replies.proofs.ReplyLemmas.{four_written}
use Rattle.doc_http_replies.proofs.people_reply.push_people_guards.Goals as goal

pub returns : goal.returns
returns c =
    on_ok_weaker c.push_privacy.result (λ is. four_written _ _ _ _ _ _ _ _ _
    c.in_ok-push_field.ensures c.in_ok-push_nosniff.ensures c.in_ok-push_referrer.ensures is)
    c.push_privacy.ensures
