use Rattle.std.proofs.lemmas.Result.{on_ok_weaker}
use Rattle.doc_http_replies.proofs.ReplyLemmas.{five_written}
use Rattle.doc_http_replies.proofs.people_reply.PeopleParts.push_lines.Goals as goal

pub returns : goal.returns
returns c =
    on_ok_weaker c.push_close.result (λ is. five_written _ _ _ _ _ _ _ _ _ _ _
    c.in_ok-push_typed_lines.ensures c.in_ok-push_location.ensures c.in_ok-push_people_challenge.ensures
    c.in_ok-push_people_guards.ensures is)
    c.push_close.ensures
