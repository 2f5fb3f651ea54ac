use Rattle.std.proofs.Common.{Bor, rules, ◌≡◌, subst, chars}
use Rattle.std.specs.Prelude.{Option, None}
use Rattle.doc_rules.specs.Characters.{Text}
use Rattle.doc_blocks_leaves.proofs.LeafSteps.{Leaves, other_stays, other_makes_none, other_defines_none, paragraph_goes}
use Rattle.doc_blocks_leaves.proofs.LeafSteps.{heading_of_paragraph, no_heading_of_paragraph, paragraph_defines}
use Rattle.doc_blocks_leaves.proofs.leaf.OpenLeaf.underline.Goals as goal

pub returns-in_default-clause-leaf : goal.returns-in_default-clause-leaf
returns-in_default-clause-leaf c = other_stays c.args.self.now c.in_default.ensures

pub returns-in_default-clause-block : goal.returns-in_default-clause-block
returns-in_default-clause-block c = λ before. other_makes_none c.args.entities.now c.args.level c.args.self.now before c.in_default.ensures

pub returns-in_default-clause-refs : goal.returns-in_default-clause-refs
returns-in_default-clause-refs c = other_defines_none c.args.entities.now c.args.refs.now c.args.self.now c.in_default.ensures

pub returns-in_default-text-clause-leaf : goal.returns-in_default-text-clause-leaf
returns-in_default-text-clause-leaf c = paragraph_goes c.args.self.now _ _ c.in-Some.ensures c.clear.ensures

pub returns-in_default-text-clause-block : goal.returns-in_default-text-clause-block
returns-in_default-text-clause-block c =
    let none : c.in_ok-text.text ≡ None = search rules in
    λ before. no_heading_of_paragraph c.args.entities.now c.args.level c.args.self.now c.in-Some.above before c.in-Some.ensures
    (subst (λ (r : Option (Bor Text)). Leaves r c.args.entities.now (chars c.in-Some.above.now)) none c.in_ok-text.ensures.text)

pub returns-in_default-text-clause-refs : goal.returns-in_default-text-clause-refs
returns-in_default-text-clause-refs c = paragraph_defines c.args.entities.now _ _ c.args.self.now (chars c.in-Some.above.now)
    c.in-Some.ensures c.in_ok-text.ensures.refs

pub returns-clause-leaf : goal.returns-clause-leaf
returns-clause-leaf c = paragraph_goes c.args.self.now _ _ c.in-Some.ensures c.clear.ensures

pub returns-clause-block : goal.returns-clause-block
returns-clause-block c = λ before. heading_of_paragraph c.args.entities.now c.args.level c.args.self.now _ c.in-Some.above before
    c.in-Some.ensures (subst (λ (r : Option (Bor Text)). Leaves r c.args.entities.now (chars c.in-Some.above.now)) c.in-Some-text.is
    c.in_ok-text.ensures.text)

pub returns-clause-refs : goal.returns-clause-refs
returns-clause-refs c = paragraph_defines c.args.entities.now _ _ c.args.self.now (chars c.in-Some.above.now) c.in-Some.ensures
    c.in_ok-text.ensures.refs
