use Rattle.doc_rules.proofs.HeadingLaws.{headings_have_anchors}
use Rattle.doc_rules.proofs.headings_have_anchors.Goals as goal

pub returns : goal.returns
returns c = headings_have_anchors
