use Rattle.doc_blocks_starts.specs.Tags.{tag_shown}
use Rattle.doc_blocks_starts.proofs.TagLaws.{open_end}
use Rattle.doc_html.proofs.FlatteningSteps.{tag_pushed}
use Rattle.doc_html.proofs.flattening.push_end.Goals as goal

pub returns : goal.returns
unfolding tag_shown
returns c = λ outer before inside is. tag_pushed _ _ _ _ _ c.in_ok-push.ensures.items is (open_end outer _ before inside)
