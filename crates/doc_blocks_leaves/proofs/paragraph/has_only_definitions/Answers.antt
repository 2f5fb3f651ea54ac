use Rattle.std.proofs.Common.{rules, ◌≡◌, false, chars, ap, ◌∙◌}
use Rattle.doc_blocks_leaves.proofs.DefinitionSteps.{all_is_left, empty_by_chars}
use Rattle.doc_blocks_leaves.proofs.paragraph.has_only_definitions.Goals as goal

pub returns-then-not-may_define : goal.returns-then-not-may_define
returns-then-not-may_define c =
    let none : c.may_define.result ≡ false = search rules in
    c.is_empty.ensures ∙ empty_by_chars c.args.text.now _ c.utf8.text
    (all_is_left _ (chars c.args.text.now) (c.may_define.ensures none c.args.entities.now))

pub returns : goal.returns
returns c = c.is_empty-2.ensures ∙ empty_by_chars c.range_from.result.now _ c.range_from.utf8 (ap chars c.range_from.ensures.value
    ∙ c.in_ok-taken.ensures.rest)
