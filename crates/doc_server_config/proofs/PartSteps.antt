-- The first part of a text that is cut at a byte.
use Rattle.std.proofs.Common.{◌≡◌, ◌<◌, ◌==◌, ℕ, List, [], ◌∷◌, length, false, arith}
use Rattle.std.specs.List.{slice_split, position_or_len, before_first, after_first}
use Rattle.std.proofs.lemmas.List.Elements.{All-from_get_or}
use Rattle.std.proofs.lemmas.List.Splits.{slice_split_first, slice_split_none}
use Rattle.std.proofs.lemmas.List.Sums.{fails_before_first}

-- where the byte stands, it ends the first part
pub first_part : (c : ℕ) (text first : List ℕ) → position_or_len (λ b. b == c) text < length text
    → first ≡ before_first (λ b. b == c) text
    → slice_split (λ b. b == c) text ≡ first ∷ slice_split (λ b. b == c) (after_first (λ b. b == c) text)
first_part c text first inside is = rw is (slice_split_first (λ b. b == c) text 0 inside)

-- without it the text is the one part
pub one_part : (c : ℕ) (text : List ℕ) → position_or_len (λ b. b == c) text ≡ length text
    → slice_split (λ b. b == c) text ≡ text ∷ []
one_part c text past =
    slice_split_none (λ b. b == c) text
    (All-from_get_or (λ b. (b == c) ≡ false) text 0 (λ k within. fails_before_first (λ b. b == c) text k 0 (omega (arith, past))))
