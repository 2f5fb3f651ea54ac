-- What tests of an `Ordering` tell.
use Rattle.std.proofs.Common.{◌≡◌, true, Ordering, Less, Equal, Greater, is_lt, is_eq, refl}

-- what is less
pub is_lt_true : (o : Ordering) → is_lt o ≡ true → o ≡ Less
is_lt_true Less e = refl
is_lt_true Equal e = absurd cc
is_lt_true Greater e = absurd cc

-- what is equal
pub is_eq_true : (o : Ordering) → is_eq o ≡ true → o ≡ Equal
is_eq_true Less e = absurd cc
is_eq_true Equal e = refl
is_eq_true Greater e = absurd cc
