use Rattle.std.proofs.Common.{◌∙◌}
use Rattle.std.specs.FinMap as map
use Rattle.doc_store.proofs.CountSteps.{set_put}
use Rattle.doc_store.proofs.group_sets.GroupSets.start.Goals as goal

pub returns-clause-numbers : goal.returns-clause-numbers
returns-clause-numbers c =
    let number = c.vacant_key-number.result in
    set_put c.self.inside.numbers c.insert.new.self c.in_ok-names.names.items number c.in_ok-insert.ensures.updates
    ∙ (λ i. map.insert (c.self.view_is i).numbers (c.in_ok-names.ensures i) number)
    ∙ (λ i. map.insert c.args.self.now.numbers (c.names.ensures.same i) number)
