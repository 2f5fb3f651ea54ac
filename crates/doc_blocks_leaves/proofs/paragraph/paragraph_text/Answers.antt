use Rattle.std.proofs.Common.{chars, ap, ◌∙◌}
use Rattle.doc_blocks_leaves.specs.OpenLeaves.{with_leaf_of}
use Rattle.doc_blocks_leaves.proofs.DefinitionSteps.{text_is_left, no_text_is_left}
use Rattle.doc_blocks_leaves.proofs.paragraph.paragraph_text.Goals as goal

pub returns-in_ok-keep-in-Some-clause-text : goal.returns-in_ok-keep-in-Some-clause-text
unfolding with_leaf_of
returns-in_ok-keep-in-Some-clause-text c = λ leaf before.
    text_is_left leaf before (chars c.in_ok-rest.rest.now) _ (chars c.in_ok-keep-in-Some.field-0.now) _ _ c.in-Some.ensures.characters
    c.in_ok-rest.ensures.text (ap chars c.in_ok-keep-in-Some.ensures ∙ c.strip_end.ensures)

pub returns-in-None-clause-text : goal.returns-in-None-clause-text
unfolding with_leaf_of
returns-in-None-clause-text c = λ leaf before. no_text_is_left leaf before (chars c.in_ok-rest.rest.now) _ c.in-None.ensures.characters
    c.in_ok-rest.ensures.text
