-- A `Result` whose variant is known, and clauses that speak of one variant. `on_ok_weaker` and `IfOk-weaker` are the library's.
use Rattle.std.proofs.Common.{◌≡◌, OnOk, IfOk, IsErr}
use Rattle.std.specs.Prelude.{Result, Ok, Err}

module _ {X E : Type 0} where
  -- equal answers are of equal values
  pub ok_injective : (x y : X) → ◌≡◌ {A = Result X E} (Ok x) (Ok y) → x ≡ y
  ok_injective x y e = cc

  -- an answer is no refusal
  pub ok_not_err : (x : X) (e : E) → ◌≡◌ {A = Result X E} (Ok x) (Err e) → ⊥
  ok_not_err x e is = cc

  -- a refusal is no answer
  pub err_not_ok : (e : E) (x : X) → ◌≡◌ {A = Result X E} (Err e) (Ok x) → ⊥
  err_not_ok e x is = cc

  -- of a refusal, all holds that is to hold of an answer
  pub is_err_on_ok : (r : Result X E) (P : Type 0) → IsErr r → OnOk r P
  is_err_on_ok (Ok x) P is = absurd cc
  is_err_on_ok (Err e) P is = tt

  -- what holds of the value, by what holds on `Ok`
  pub if_ok_on_ok : {Q : Type 0} {P S : X → Type 0} (r : Result X E) → (Q → (x : X) → P x → S x) → OnOk r Q → IfOk r P → IfOk r S
  if_ok_on_ok (Ok x) f q h = f q x h
  if_ok_on_ok (Err e) f q h = tt
