use Rattle.doc_html.specs.TellingSteps.{end_told}
use Rattle.doc_html.proofs.containers.end_list.Goals as goal

pub returns : goal.returns
unfolding end_told
returns g c = λ tight p h. c.in_ok-push_list_end.ensures _ (c.in_ok-new_line.ensures p h)
