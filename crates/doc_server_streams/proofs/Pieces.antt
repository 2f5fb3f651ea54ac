-- A piece that a read takes off the front of what is left.
use Rattle.std.proofs.Common.{◌≡◌, ◌≤◌, ◌+◌, ◌-◌, ◌++◌, ℕ, List, length, take, drop, sym, ap, subst, ◌∙◌, arith, length-take}
use Rattle.std.proofs.Math.Seq.{take-append_seam}
use Rattle.std.proofs.lemmas.List.{take-append-drop, drop-drop, take_rest}

taken : (given more : List ℕ) (n : ℕ) → length given ≡ n → take n (given ++ more) ≡ given
taken given more n len = subst (λ k. take k (given ++ more) ≡ given) len (take-append_seam given more)

pub moved : (input rest given more : List ℕ) (at n : ℕ) → rest ≡ take (length input - at) (drop at input) → n ≤ length rest
    → given ≡ take n rest
    → drop at input ≡ take n (given ++ more) ++ drop (at + n) input
moved input rest given more at n is fits same =
    let len : length given ≡ n = omega (arith, ap length same, fits, length-take n rest) in
    let left : given ≡ take n (drop at input) = same ∙ ap (take n) (is ∙ take_rest input at) in
    sym (take-append-drop n (drop at input))
    ∙ ap (λ l. l ++ drop n (drop at input)) (sym left ∙ sym (taken given more n len))
    ∙ ap (λ l. take n (given ++ more) ++ l) (drop-drop n at input)
