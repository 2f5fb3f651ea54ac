use Rattle.doc_html.specs.TellingSteps.{start_told}
use Rattle.doc_html.proofs.containers.begin_quote.Goals as goal

pub returns : goal.returns
unfolding start_told
returns g c = λ p h. c.in_ok-markup.ensures _ (c.in_ok-new_line.ensures p h)
