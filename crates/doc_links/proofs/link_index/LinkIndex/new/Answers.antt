use Rattle.std.proofs.Common.{ap, subst, sym, ◌∙◌}
use Rattle.doc_links_seen.specs.SeenSteps.{AreKeyed}
use Rattle.doc_links.specs.IndexSteps.{without_counts}
use Rattle.doc_links.proofs.HeldSteps.{nothing}
use Rattle.doc_links.proofs.KeySteps.{keyed_none}
use Rattle.doc_links.proofs.link_index.LinkIndex.new.Goals as goal

pub returns : goal.returns
returns c = ap without_counts c.new.ensures ∙ nothing

pub invariant_of-result : goal.invariant_of-result
invariant_of-result c = (subst AreKeyed (sym c.new.ensures) keyed_none, c.new-2.ensures.numbered c.new.result, c.new-2.ensures.named)
