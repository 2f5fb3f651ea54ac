-- What stands in front of a text, part by part.
use Rattle.std.proofs.Common.{◌≡◌, ℕ, ◌≤◌, ◌<◌, ◌^◌, List, [], ◌∷◌, ◌++◌, take, drop, sym, ap, ◌∙◌, arith}
use Rattle.std.proofs.lemmas.List.{take_at, drop_at, take-append-drop}
use Rattle.doc_server_journal_records.specs.Records.{AreDigits, text_limit, length_digits, head_of}
use Rattle.doc_server_journal_records.specs.Readings.{IsTime}
use Rattle.doc_server_journal_records.proofs.Digits.{length_length, one_length}

pub too_long : (count : ℕ) → count ≤ text_limit → count < 2 ^ 32
unfolding text_limit
too_long count fits = omega (arith, fits)

module _ (head : List ℕ) (count : ℕ) (time : List ℕ) (is : head ≡ head_of count time) where
  pub digits_part : take 8 head ≡ length_digits count
  digits_part = ap (λ l. take 8 l) is ∙ take_at (length_digits count) (32 ∷ time ++ 10 ∷ []) 8 (length_length count)

  pub time_part : drop 8 head ≡ 32 ∷ time ++ 10 ∷ []
  time_part = ap (λ l. drop 8 l) is ∙ drop_at (length_digits count) (32 ∷ time ++ 10 ∷ []) 8 (length_length count)

  pub one_count : (len : ℕ) (digits : List ℕ) → len < 2 ^ 32 → count ≤ text_limit → digits ≡ take 8 head → digits ≡ length_digits len
      → len ≡ count
  one_count len digits small fits front says =
      one_length len count small (too_long count fits) (sym says ∙ front ∙ digits_part)

pub is_head : (head digits behind : List ℕ) (len : ℕ) → digits ≡ take 8 head → behind ≡ drop 8 head → digits ≡ length_digits len
    → IsTime behind → (time : List ℕ) × AreDigits 10 time × (head ≡ head_of len time)
is_head head digits behind len front back says (time, digits_are, is) = (
  time,
  digits_are,
  sym (take-append-drop 8 head) ∙ ap (λ l. l ++ drop 8 head) (sym front ∙ says) ∙ ap (λ l. length_digits len ++ l) (sym back ∙ is),
)
