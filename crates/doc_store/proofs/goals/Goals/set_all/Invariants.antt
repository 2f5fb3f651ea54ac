use Rattle.std.proofs.Common.{◌≡◌, ℕ, List, map as mapped}
use Rattle.std.specs.FinMap as map
use Rattle.doc_store.specs.AliasSteps.{with_all}
use Rattle.doc_store.proofs.goals.Goals.set_all.Given as goal

-- there are as many copies as aliases that are left to be set
abbrev pub invariant-loop-alias : goal.invariant-loop-alias
invariant-loop-alias l = (to : List ℕ) → l.initial.copies.items ≡ mapped (λ _. to) (map.keys l.aliases)
    → (l.copies.items ≡ mapped (λ _. to) l.alias-iterator)
    × (with_all l.self l.alias-iterator to ≡ with_all l.initial.self (map.keys l.aliases) to)
