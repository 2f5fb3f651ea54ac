use Rattle.std.proofs.lemmas.Result.{on_ok_weaker}
use Rattle.doc_http_media.proofs.MediumSteps.{six_written}
use Rattle.doc_http_media.proofs.medium_reply.MediumParts.push_lines.Goals as goal

pub returns : goal.returns
returns c =
    on_ok_weaker c.push_close.result (λ is. six_written _ _ _ _ _ _ _ _ _ _ _ _ _
    c.in_ok-push_typed_lines.ensures c.in_ok-push_box.ensures c.in_ok-push_nosniff.ensures c.in_ok-push_saved.ensures
    c.in_ok-push_private.ensures is)
    c.push_close.ensures
