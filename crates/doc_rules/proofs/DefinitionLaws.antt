-- The first definition wins.
use Rattle.std.proofs.Common.{◌≡◌, Bool, true, false, [], ◌∷◌, ◌++◌, refl, Option, Some}
use Rattle.std.specs.Prelude.{bytes_eq}
use Rattle.doc_rules.specs.Destinations.{Target}
use Rattle.doc_rules.specs.Labels.{normal_label}
use Rattle.doc_rules.specs.Definitions.{Definition, find_reference}
use Rattle.doc_rules.specs.Laws.{or_else, FirstWins}

at_first : (d : Definition) (a b later : Option Target) → a ≡ or_else b later → (test : Bool) →
    elim test [ true ↦ Some d.target | false ↦ a ] ≡ or_else (elim test [ true ↦ Some d.target | false ↦ b ]) later
at_first d a b later e true = refl
at_first d a b later e false = e

pub first_wins : FirstWins
unfolding find_reference
first_wins [] more name = refl
first_wins (d ∷ first) more name = at_first d (find_reference (first ++ more) name) (find_reference first name) (find_reference more name)
    (first_wins first more name) (bytes_eq (normal_label d.label) (normal_label name))
