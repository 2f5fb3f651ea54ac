use Rattle.doc_inlines.proofs.OwnedLaws.{text_made}
use Rattle.doc_inlines.proofs.mark.text_of.Goals as goal

pub returns : goal.returns
returns c = text_made _ _ _ _ c.new.ensures c.in_ok-push_characters.ensures.ok c.new-out.ensures.bytes
