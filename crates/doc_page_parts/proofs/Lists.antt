-- Lists: places in them, and those that an iterator yields.
use Rattle.std.proofs.Common.{◌≡◌, ℕ, zero, suc, Bool, not, ltb, List, [], ◌∷◌, ◌++◌, length, replicate, Option, Some, None, refl, sym, ap}
use Rattle.std.proofs.Common.{arith, unwrap_or}
use Rattle.std.specs.List.{position, position_or_len}
use Rattle.std.proofs.lemmas.Bool.{cond_both}
use Rattle.std.proofs.lemmas.Bool.Decides.{nat_tests}
use Rattle.std.proofs.lemmas.Iterator.{YieldsList}
use Rattle.std.proofs.lemmas.List.Sums.{prefix_len-le-length}

-- the first place that passes, or the length
pub position_or_length : {X : Type 0} (p : X → Bool) (xs : List X) → unwrap_or (position p xs) (length xs) ≡ position_or_len p xs
position_or_length p xs =
    let within = prefix_len-le-length (λ x. not (p x)) xs in
    cond_both (ltb (position_or_len p xs) (length xs)) (Some (position_or_len p xs)) None
    (λ o. unwrap_or o (length xs) ≡ position_or_len p xs)
    (λ _. refl) (λ past. grind (arith, nat_tests))

-- one more behind copies of it is one more before them
pub replicate_append_cons : {X : Type 0} (n : ℕ) (x : X) (xs : List X) → replicate n x ++ (x ∷ xs) ≡ x ∷ (replicate n x ++ xs)
replicate_append_cons zero x xs = refl
replicate_append_cons (suc n) x xs = ap (λ more. x ∷ more) (replicate_append_cons n x xs)

-- a step of an iterator takes the first of the items that it yields
pub yields_some : {S A B : Type 0} (steps : S → Option A → S → Type 0) (v : A → B) (s t : S) (x : A) (items : List B)
    → YieldsList steps v s items → steps s (Some x) t
    → (rest : List B) × (items ≡ v x ∷ rest) × YieldsList steps v t rest
yields_some steps v s t x [] yields step = absurd (yields.runs x t step)
yields_some steps v s t x (y ∷ items) yields step =
    let next = yields.runs.1 x t step in
    (items, ap (λ z. z ∷ items) (sym next.0), record { runs = next.1 })

-- where an iterator ends, it yields nothing
pub yields_none : {S A B : Type 0} (steps : S → Option A → S → Type 0) (v : A → B) (s t : S) (items : List B) → YieldsList steps v s items
    → steps s None t → items ≡ []
yields_none steps v s t [] yields step = refl
yields_none steps v s t (y ∷ items) yields step = absurd (yields.runs.0 t step)
