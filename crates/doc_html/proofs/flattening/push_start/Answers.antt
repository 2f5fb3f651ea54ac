use Rattle.doc_blocks_starts.specs.Tags.{tag_shown}
use Rattle.doc_blocks_starts.proofs.TagLaws.{open_start}
use Rattle.doc_html.proofs.FlatteningSteps.{tag_pushed}
use Rattle.doc_html.proofs.flattening.push_start.Goals as goal

pub returns : goal.returns
unfolding tag_shown
returns c = λ outer before is. tag_pushed _ _ _ _ _ c.in_ok-push.ensures.items is (open_start outer before _)
