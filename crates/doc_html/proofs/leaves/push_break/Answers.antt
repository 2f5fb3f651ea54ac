use Rattle.doc_html.specs.TellingSteps.{leaf_told}
use Rattle.doc_html.proofs.leaves.push_break.Goals as goal

pub returns : goal.returns
unfolding leaf_told
returns g c = λ rules definitions tight p h. c.in_ok-markup.ensures _ (c.in_ok-new_line.ensures p h)
