use Rattle.std.proofs.Common.{Bor, subst, chars}
use Rattle.std.specs.Prelude.{Option}
use Rattle.doc_rules.specs.Characters.{Text}
use Rattle.doc_blocks_leaves.proofs.LeafSteps.{Leaves, paragraph_read, definitions_read}
use Rattle.doc_blocks_leaves.proofs.paragraph.paragraph.Goals as goal

pub returns-in-Some-clause-block : goal.returns-in-Some-clause-block
returns-in-Some-clause-block c = λ before.
    paragraph_read c.args.entities.now c.in-Some.text c.args.text before
    (subst (λ (r : Option (Bor Text)). Leaves r c.args.entities.now (chars c.args.text.now)) c.in-Some.is c.in_ok-text.ensures.text)

pub returns-in-None-clause-block : goal.returns-in-None-clause-block
returns-in-None-clause-block c = λ before.
    definitions_read c.args.entities.now c.args.text before
    (subst (λ (r : Option (Bor Text)). Leaves r c.args.entities.now (chars c.args.text.now)) c.in-None.is c.in_ok-text.ensures.text)
