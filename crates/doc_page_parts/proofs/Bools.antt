-- Statements about `Bool` alone that several crates cite and the library hasn't.
use Rattle.std.proofs.Common.{◌≡◌, Bool, true, false, refl, sym}
use mathlib.Core.Bool.{◌&&◌, ◌||◌}
use Rattle.std.proofs.lemmas.Bool.{and_parts, both_ways, or_parts}

pub and_first : (a b : Bool) → (a && b) ≡ true → a ≡ true
and_first a b both = (and_parts a b both).0

pub and_second : (a b : Bool) → (a && b) ≡ true → b ≡ true
and_second a b both = (and_parts a b both).1

pub or_first : (a b : Bool) → (a || b) ≡ false → a ≡ false
or_first a b neither = (or_parts a b neither).0

pub or_second : (a b : Bool) → (a || b) ≡ false → b ≡ false
or_second a b neither = (or_parts a b neither).1

pub and_false : (a : Bool) → (a && false) ≡ false
and_false true = refl
and_false false = refl

pub or_true : (a : Bool) → (a || true) ≡ true
or_true true = refl
or_true false = refl

pub clash : (a : Bool) → a ≡ true → a ≡ false → ⊥
clash a is_true is_false = both_ways a is_false is_true

-- two tests that are true together are the same
pub same_bool : (a b : Bool) → (a ≡ true → b ≡ true) → (b ≡ true → a ≡ true) → a ≡ b
same_bool true true f g = refl
same_bool true false f g = sym (f refl)
same_bool false true f g = g refl
same_bool false false f g = refl
