use Rattle.doc_html.specs.TellingSteps.{end_told}
use Rattle.doc_html.proofs.containers.end_item.Goals as goal

pub returns : goal.returns
unfolding end_told
returns g c = λ p h. c.in_ok-markup.ensures p h
