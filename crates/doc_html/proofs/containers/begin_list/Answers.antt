use Rattle.doc_html.specs.TellingSteps.{start_told}
use Rattle.doc_html.proofs.containers.begin_list.Goals as goal

pub returns : goal.returns
unfolding start_told
returns g c = λ tight p h. c.in_ok-push_list_tag.ensures _ (c.in_ok-new_line.ensures p h)
