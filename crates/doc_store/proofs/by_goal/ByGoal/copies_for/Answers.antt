use Rattle.std.proofs.Common.{map as mapped, ap, ◌∙◌}
use Rattle.doc_store.proofs.SetSteps.{no_keys_at}
use Rattle.doc_store.proofs.by_goal.ByGoal.copies_for.Goals as goal

pub returns-in-None : goal.returns-in-None
returns-in-None c = c.new.ensures.items ∙ ap (mapped (λ _. c.args.other.now)) (no_keys_at _ c.in-None.ensures)
