-- Pieces that a read takes off the front of what is left, and numbers that wait to be told of.
use Rattle.std.proofs.Common.{◌≡◌, ◌≤◌, ◌+◌, ◌++◌, ◌==◌, ℕ, List, [], ◌∷◌, length, take, drop, Bool, true, false, ◌||◌, refl, sym, ap, subst, ◌∙◌, arith, length-take, eq-eqb}
use Rattle.std.proofs.Math.Seq.{take-add, take-append_seam}
use Rattle.doc_server_network.specs.Memories.{is_among}

taken : (given more : List ℕ) (n : ℕ) → length given ≡ n → take n (given ++ more) ≡ given
taken given more n len = subst (λ k. take k (given ++ more) ≡ given) len (take-append_seam given more)

pub came_more : (input rest given more : List ℕ) (at n : ℕ) → rest ≡ drop at input → n ≤ length rest → given ≡ take n rest
    → take (at + n) input ≡ take at input ++ take n (given ++ more)
came_more input rest given more at n is fits same =
    let len : length given ≡ n = omega (arith, ap length same, fits, length-take n rest) in
    let left : given ≡ take n (drop at input) = same ∙ ap (take n) is in
    take-add at n input ∙ ap (λ l. take at input ++ l) (sym left ∙ sym (taken given more n len))

or_true : (b : Bool) → (b || true) ≡ true
or_true true = refl
or_true false = refl

-- a number that comes last is among them, and whoever was is still
pub among_more : (k : ℕ) (numbers more : List ℕ) → is_among k numbers ≡ true → is_among k (numbers ++ more) ≡ true
among_more k [] more is = absurd (never is)
  where
    never : false ≡ true → ⊥
    never e = cc
among_more k (n ∷ numbers) more is = by (n == k) (among_more k numbers more) is
  where
    by : (b : Bool) → (is_among k numbers ≡ true → is_among k (numbers ++ more) ≡ true) → (b || is_among k numbers) ≡ true
        → (b || is_among k (numbers ++ more)) ≡ true
    by true later is = refl
    by false later is = later is

among_last : (k : ℕ) (numbers : List ℕ) → is_among k (numbers ++ k ∷ []) ≡ true
among_last k [] = ap (λ b. b || false) (eq-eqb k k refl)
among_last k (n ∷ numbers) = ap (λ b. n == k || b) (among_last k numbers) ∙ or_true (n == k)

-- a queue with room for one more, and with that one
pub queued_still : (k id : ℕ) (old roomy new : List ℕ) → roomy ≡ old → new ≡ roomy ++ id ∷ [] → is_among k old ≡ true
    → is_among k new ≡ true
queued_still k id old roomy new same more is =
    ap (is_among k) more ∙ among_more k roomy (id ∷ []) (ap (is_among k) same ∙ is)

pub queued_last : (id : ℕ) (roomy new : List ℕ) → new ≡ roomy ++ id ∷ [] → is_among id new ≡ true
queued_last id roomy new more = ap (is_among id) more ∙ among_last id roomy
