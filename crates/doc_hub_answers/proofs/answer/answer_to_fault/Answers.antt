use Rattle.std.proofs.Common.{◌≡◌, subst}
use Rattle.std.specs.Prelude.{IfOk}
use Rattle.doc_hub_answers.proofs.FaultSteps.{fault_is_plain}
use Rattle.doc_hub_answers.proofs.answer.answer_to_fault.Goals as goal

pub returns : goal.returns
returns c =
    subst (λ wanted. IfOk c.write.result (λ bytes. bytes ≡ wanted))
    (fault_is_plain _ _ c.args.code _ c.args.bare _ c.plain.ensures.dress c.of_fault.ensures c.plain.ensures.head_only
    c.plain.ensures.close)
    c.write.ensures
