-- An `Option` whose variant is known: what a test of it tells, and that its variants are apart. `same_Some` and `none-some` are
-- the library's.
use Rattle.std.proofs.Common.{◌≡◌, true, false, is_some, refl}
use Rattle.std.specs.Prelude.{Option, Some, None}

module _ {X : Type 0} where
  -- where the test fails, nothing is there
  pub is_some_false : (o : Option X) → is_some o ≡ false → o ≡ None
  is_some_false None e = refl
  is_some_false (Some x) e = cc

  -- where the test holds, a value is there
  pub is_some_true : (o : Option X) → is_some o ≡ true → (x : X) × (o ≡ Some x)
  is_some_true None e = cc
  is_some_true (Some x) e = (x, refl)

  -- a value isn't nothing
  pub some_not_none : (x : X) → Some x ≡ None → ⊥
  some_not_none x e = cc
