use Rattle.std.proofs.lemmas.Result.{on_ok_weaker}
use Rattle.doc_http_replies.specs.PeopleReplies.{typed_lines}
use Rattle.doc_http_media.proofs.MediumSteps.{two_written}
use Rattle.doc_http_media.proofs.lines.push_typed_lines.Goals as goal

pub returns : goal.returns
unfolding typed_lines
returns c = on_ok_weaker c.push_length.result (λ is. two_written _ _ _ _ _ c.in_ok-push_field.ensures is) c.push_length.ensures
