use Rattle.std.proofs.Common.{refl, ap, sym, ◌∙◌, Some, arith}
use Rattle.doc_rules.proofs.GrammarLaws.{balanced_leaves}
use Rattle.doc_refs_parts.specs.ParenthesisSteps.{finish}
use Rattle.doc_refs_parts.proofs.scan.destination.balanced.Goals as goal

pub characters-init : goal.characters-init
unfolding finish
characters-init c = record { levels = omega arith; same = refl }

pub returns-clause-end : goal.returns-clause-end
returns-clause-end c = balanced_leaves 32 _ _ (sym (ap Some c.end_of_run.ensures ∙ (c.in_default.ensures ∙ c.characters.invariant.same)))
