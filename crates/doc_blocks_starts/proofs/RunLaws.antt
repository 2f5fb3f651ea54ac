-- A run of one character, a character at a time.
use Rattle.std.proofs.Common.{◌≡◌, ◌∙◌, ℕ, ◌+◌, ◌<◌, ◌≤◌, Bool, true, false, ◌==◌, List, [], ◌∷◌, length, refl, ap, sym, zero, suc}
use Rattle.std.proofs.Common.{Option, Some, None, arith}
use Rattle.std.specs.Prelude.{chars, option_and_then}
use Rattle.std.specs.Str.{IsUtf8}
use Rattle.std.proofs.lemmas.Str.{chars-encodes, length-le-encodes}
use Rattle.doc_rules.specs.Characters.{Text}
use Rattle.doc_rules.specs.Parsers.{is, many, some}

-- a text has no more characters than bytes
pub fewer_characters : (bytes : List ℕ) → IsUtf8 bytes → length (chars bytes) ≤ length bytes
fewer_characters bytes valid =
    let x = valid.0 in
    let same : chars bytes ≡ x = rw (← valid.1.1) (chars-encodes x valid.1.0) in
    rw (same, ← valid.1.1) (length-le-encodes x)

-- so many of this character were passed at the front of a text, and this is left
pub record HasPassed (c : ℕ) (text rest : Text) (count : ℕ) : Type 0 where
  pub nothing : count ≡ 0 → text ≡ rest
  pub run : 0 < count → some (λ d. d == c) text ≡ many (λ d. d == c) rest
  pub size : count + length rest ≡ length text

-- one of them stands there, or none does
passes : (c d : ℕ) (rest behind : Text) → Some behind ≡ is c (d ∷ rest) → ((d == c) ≡ true) × (behind ≡ rest)
passes c d rest behind e = at (d == c) e
  where
    at : (b : Bool) → Some behind ≡ (elim b [ true ↦ Some rest | false ↦ None ]) → (b ≡ true) × (behind ≡ rest)
    at true e = (refl, cc)
    at false e = absurd cc

many_on : (c : ℕ) (rest behind : Text) → Some behind ≡ is c rest → many (λ d. d == c) rest ≡ many (λ d. d == c) behind
unfolding many
many_on c [] behind e = absurd cc
many_on c (d ∷ rest) behind e =
    let p = passes c d rest behind e in
    ap (λ (b : Bool). elim b as (λ _. Option Text) [ true ↦ many (λ d. d == c) rest | false ↦ Some (d ∷ rest) ]) p.0
    ∙ ap (many (λ d. d == c)) (sym p.1)

many_stops : (c : ℕ) (rest : Text) → None ≡ is c rest → many (λ d. d == c) rest ≡ Some rest
unfolding many
many_stops c [] e = refl
many_stops c (d ∷ rest) e = at (d == c) e
  where
    at : (b : Bool) → None ≡ (elim b as (λ _. Option Text) [ true ↦ Some rest | false ↦ None ])
        → (elim b as (λ _. Option Text) [ true ↦ many (λ d. d == c) rest | false ↦ Some (d ∷ rest) ]) ≡ Some (d ∷ rest)
    at true e = absurd cc
    at false e = refl

pub one_shorter : (c : ℕ) (rest behind : Text) → Some behind ≡ is c rest → length rest ≡ suc (length behind)
one_shorter c [] behind e = absurd cc
one_shorter c (d ∷ rest) behind e = ap (λ (t : Text). suc (length t)) (sym (passes c d rest behind e).1)

pub one_more_passed : (c : ℕ) (text rest behind : Text) (count : ℕ) → HasPassed c text rest count → Some behind ≡ is c rest
    → HasPassed c text behind (count + 1)
one_more_passed c text rest behind count h e =
    let shorter : length rest ≡ suc (length behind) = one_shorter c rest behind e in
    record {
      nothing = λ k. absurd (omega (arith, k));
      run = λ _. at count h.nothing h.run;
      size = omega (arith, h.size);
    }
  where
    at : (n : ℕ) → (n ≡ 0 → text ≡ rest) → (0 < n → some (λ d. d == c) text ≡ many (λ d. d == c) rest)
        → some (λ d. d == c) text ≡ many (λ d. d == c) behind
    at zero nothing run =
        ap (option_and_then (many (λ d. d == c))) (ap (is c) (nothing refl) ∙ sym e)
    at (suc n) nothing run = run (omega arith) ∙ many_on c rest behind e

-- the run ends there
pub run_ends : (c : ℕ) (text rest : Text) (count : ℕ) → HasPassed c text rest count → None ≡ is c rest → (count ≡ 0 → ⊥)
    → Some rest ≡ some (λ d. d == c) text
run_ends c text rest count h e more = sym (h.run (omega (arith, more)) ∙ many_stops c rest e)
