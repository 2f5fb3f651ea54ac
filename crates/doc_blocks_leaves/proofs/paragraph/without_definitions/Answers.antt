use Rattle.std.proofs.Common.{rules, ◌≡◌, false, chars}
use Rattle.doc_blocks_leaves.proofs.DefinitionSteps.{nothing_joins}
use Rattle.doc_blocks_leaves.proofs.paragraph.without_definitions.Goals as goal

pub returns-then-not-may_define-clause-refs : goal.returns-then-not-may_define-clause-refs
returns-then-not-may_define-clause-refs c =
    let none : c.may_define.result ≡ false = search rules in
    nothing_joins c.args.refs.now _ (chars c.args.text.now) (c.may_define.ensures none c.args.entities.now)
