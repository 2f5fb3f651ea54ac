use Rattle.std.proofs.Common.{◌≡◌}
use Rattle.std.specs.FinMap as map
use Rattle.doc_store.specs.AliasSteps.{without_all}
use Rattle.doc_store.proofs.goals.Goals.remove_all.Given as goal

-- those that are left are still to be taken out
abbrev pub invariant-loop-alias : goal.invariant-loop-alias
invariant-loop-alias l = without_all l.self l.alias-iterator ≡ without_all l.initial.self (map.keys l.aliases)
