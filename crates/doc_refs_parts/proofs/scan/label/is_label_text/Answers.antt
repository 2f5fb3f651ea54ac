use Rattle.std.proofs.Common.{◌∙◌}
use Rattle.doc_rules.specs.Labels.{label_text}
use Rattle.doc_refs_parts.proofs.Ends.{takes_all}
use Rattle.doc_refs_parts.proofs.scan.label.is_label_text.Goals as goal

pub returns : goal.returns
returns c = c.is_empty.ensures ∙ takes_all label_text _ _ c.label_text.utf8 c.label_text.ensures.value
