-- Bytes that are written piece by piece.
use Rattle.std.proofs.Common.{◌≡◌, ◌≤◌, ◌+◌, ◌-◌, ◌++◌, ℕ, List, length, take, drop, sym, ap, subst, ◌∙◌, arith, length-take}
use Rattle.std.specs.Prelude.{Option}
use Rattle.std.proofs.Math.Seq.{take-add}
use Rattle.std.proofs.lemmas.List.{take-take}
use Rattle.std.specs.Io.KnownBytes.{Appends}
use Rattle.std.proofs.KnownBytes.{Appends-trans}

-- some more of the bytes were written
pub more_written : (old mid new : Option (List ℕ)) (xs : List ℕ) (done n : ℕ) → n ≤ length (take (length xs - done) (drop done xs))
    → Appends old mid (take done xs) → Appends mid new (take n (take (length xs - done) (drop done xs)))
    → Appends old new (take (done + n) xs)
more_written old mid new xs done n fits before after =
    let most : n ≤ length xs - done = omega (arith, fits, length-take (length xs - done) (drop done xs)) in
    let joined : take done xs ++ take n (take (length xs - done) (drop done xs))
    ≡ take (done + n) xs = ap (λ l. take done xs ++ l) (take-take n (length xs - done) (drop done xs) most)
    ∙ sym (take-add done n xs) in
    subst (Appends old new) joined
    (Appends-trans old mid new (take done xs) (take n (take (length xs - done) (drop done xs))) before after)

pub within_more : (xs : List ℕ) (done n : ℕ) → done ≤ length xs → n ≤ length (take (length xs - done) (drop done xs))
    → done + n ≤ length xs
within_more xs done n le fits = omega (arith, le, fits, length-take (length xs - done) (drop done xs))
