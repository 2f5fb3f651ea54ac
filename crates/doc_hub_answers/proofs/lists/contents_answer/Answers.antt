use Rattle.std.proofs.Common.{◌++◌, ap, codes, sym, ◌∙◌}
use Rattle.std.specs.List.{flat_map}
use Rattle.std.proofs.lemmas.List.Folds.{flat_map-map}
use Rattle.std.proofs.lemmas.Result.{IfOk-weaker}
use Rattle.doc_hub_answers.specs.AnswerSteps.{sent_in}
use Rattle.doc_hub_answers.specs.Replies.{html_reply, only_reply}
use Rattle.doc_hub_answers.proofs.lists.contents_answer.Goals as goal

pub returns : goal.returns
returns g c =
    IfOk-weaker c.pieces.result _ _
    (λ a is.
    is
    ∙ ap (λ body. sent_in c.args.exchange.now (only_reply (html_reply body)))
    (ap (λ lines. codes "<!DOCTYPE html>\n<title>Contents</title>\n<ul>\n" ++ (lines ++ codes "</ul>\n"))
    (ap (flat_map (λ line. line.now)) c.deref.ensures.value
    ∙ sym (flat_map-map (λ lines. lines) (λ line. line.now) c.in_ok-lines.lines.items))
    ∙ c.in_ok-lines.ensures))
    c.pieces.ensures
