use Rattle.std.proofs.lemmas.Bool.{ne_eqb}
use Rattle.doc_blocks_leaves.proofs.DefinitionSteps.{none_at_other, none_at_end}
use Rattle.doc_blocks_leaves.proofs.paragraph.may_define.Goals as goal

pub returns-else-c-eq91 : goal.returns-else-c-eq91
returns-else-c-eq91 c = λ e rules. none_at_other rules _ _ c.in-Some.c c.in-Some.ensures.characters e
    (ne_eqb c.in-Some.c 91 c.if-c-eq91.false)

pub returns-in-None : goal.returns-in-None
returns-in-None c = λ e rules. none_at_end rules _ c.in-None.ensures.characters
