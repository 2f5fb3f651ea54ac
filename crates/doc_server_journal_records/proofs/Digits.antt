-- Hexadecimal digits.
use Rattle.std.proofs.Common.{◌≡◌, inl, inr, ℕ, zero, suc, ◌/◌, ◌%◌, ◌^◌, ◌<◌, Bool, true, ◌&&◌, List, [], ◌∷◌, ◌++◌, length, slice_index, get_or, Ok, refl, sym, ap, ◌∙◌, arith}
use Rattle.std.specs.Int.{w32, byte_at, bytes_high_first, to_be_bytes, from_be_bytes}
use Rattle.std.specs.List.{list_all}
use Rattle.std.proofs.lemmas.Bool.{and_parts, cases_lt}
use Rattle.std.proofs.lemmas.Bool.Decides.{nat_tests}
use Rattle.std.proofs.lemmas.List.Folds.{list_all-append}
use Rattle.std.proofs.lemmas.Nat.{from_be_bytes-to_be_bytes_4}
use Rattle.hex.specs.Hex.{IsBytes, decode_of, decode_sized, encode_lower, encode_with, lower_digits}
use Rattle.hex.proofs.HexLemmas.{length-encode_with, decode_of-encode_lower, decode_of-same, decode_sized-twice}
use Rattle.doc_server_journal_records.specs.Records.{AreDigits, IsTail, is_digit, is_plain, is_shut, length_digits, time_of}

-- ---- tests of all bytes

pub all_append : (p : ℕ → Bool) (xs ys : List ℕ) → list_all p xs ≡ true → list_all p ys ≡ true → list_all p (xs ++ ys) ≡ true
all_append p xs ys one two = list_all-append p xs ys ∙ ap (λ b. b && list_all p ys) one ∙ two

pub all_weaker : (p q : ℕ → Bool) → ((b : ℕ) → p b ≡ true → q b ≡ true) → (xs : List ℕ) → list_all p xs ≡ true → list_all q xs ≡ true
all_weaker p q on [] all = refl
all_weaker p q on (b ∷ xs) all =
    let parts = and_parts (p b) (list_all p xs) all in
    ap (λ t. t && list_all q xs) (on b parts.0) ∙ all_weaker p q on xs parts.1

pub digit_is_shut : (b : ℕ) → is_digit b ≡ true → is_shut b ≡ true
digit_is_shut b is = grind (arith, nat_tests)

pub plain_is_shut : (b : ℕ) → is_plain b ≡ true → is_shut b ≡ true
plain_is_shut b is = grind (arith, nat_tests)

-- each byte of such a list; behind its end stands 0
pub shut_at : (xs : List ℕ) → IsTail xs → (i : ℕ) → is_shut (get_or xs i 0) ≡ true
shut_at [] all zero = refl
shut_at [] all (suc i) = refl
shut_at (x ∷ xs) all zero = (and_parts (is_shut x) (list_all is_shut xs) all).0
shut_at (x ∷ xs) all (suc i) = shut_at xs (and_parts (is_shut x) (list_all is_shut xs) all).1 i

pub all_shut : (xs : List ℕ) → ((i : ℕ) → is_shut (get_or xs i 0) ≡ true) → IsTail xs
all_shut [] each = refl
all_shut (x ∷ xs) each = ap (λ b. b && list_all is_shut xs) (each 0) ∙ all_shut xs (λ i. each (suc i))

-- hexadecimal digits are no open gate
pub digits_shut : (bytes : List ℕ) → IsTail (encode_lower bytes)
unfolding encode_with
digits_shut [] = refl
digits_shut (b ∷ rest) =
    ap (λ t. t && list_all is_shut (slice_index lower_digits (b % 16) ∷ encode_lower rest)) (shut_at lower_digits refl (b / 16))
    ∙ ap (λ t. t && list_all is_shut (encode_lower rest)) (shut_at lower_digits refl (b % 16)) ∙ digits_shut rest

-- ---- bytes of numbers

byte_small : (k n : ℕ) → byte_at k n < 256
byte_small zero n = omega arith
byte_small (suc k) n = omega arith

with_first : (b : ℕ) (bytes : List ℕ) → b < 256 → IsBytes bytes → (i : ℕ) → slice_index (b ∷ bytes) i < 256
with_first b bytes first others zero = first
with_first b bytes first others (suc i) = others i

pub bytes_small : (k n : ℕ) → IsBytes (bytes_high_first k n)
bytes_small zero n = λ i. omega arith
bytes_small (suc k) n = with_first (byte_at k n) (bytes_high_first k n) (byte_small k n) (bytes_small k n)

-- ---- what digits are

abbrev digit_passes : ℕ → Bool
digit_passes d = is_digit (slice_index lower_digits d)

abbrev all_pass : ℕ → Bool
all_pass zero = true
all_pass (suc n) = digit_passes n && all_pass n

all_pass_at : (n k : ℕ) → all_pass n ≡ true → k < n → digit_passes k ≡ true
all_pass_at zero k h lt = absurd (omega arith)
all_pass_at (suc n) k h lt =
    let parts = and_parts (digit_passes n) (all_pass n) h in
    elim (cases_lt k n) [
      | inl below ↦ all_pass_at n k parts.1 below
      | inr top ↦
          let e : k ≡ n = omega arith in
          rw e parts.0
    ]

pub are_digits : (bytes : List ℕ) → IsBytes bytes → list_all is_digit (encode_lower bytes) ≡ true
unfolding encode_with
are_digits [] small = refl
are_digits (b ∷ rest) small =
    let first : b < 256 = small 0 in
    let high = all_pass_at 16 (b / 16) refl (omega arith) in
    let low = all_pass_at 16 (b % 16) refl (omega arith) in
    let others = are_digits rest (λ i. small (suc i)) in
    ap (λ t. t && list_all is_digit (slice_index lower_digits (b % 16) ∷ encode_lower rest)) high
    ∙ ap (λ t. t && list_all is_digit (encode_lower rest)) low ∙ others

pub time_is : (seconds : ℕ) → AreDigits 10 (time_of seconds)
unfolding time_of
time_is seconds = (
  length-encode_with lower_digits (bytes_high_first 5 seconds),
  are_digits (bytes_high_first 5 seconds)
      (bytes_small 5 seconds),
)

-- ---- the length of a text

pub length_length : (count : ℕ) → length (length_digits count) ≡ 8
unfolding length_digits
length_length count = length-encode_with lower_digits (to_be_bytes w32 count)

pub length_is_shut : (count : ℕ) → IsTail (length_digits count)
unfolding length_digits
length_is_shut count = digits_shut (to_be_bytes w32 count)

reads_back : (count : ℕ) → decode_of (length_digits count) ≡ Ok (to_be_bytes w32 count)
unfolding length_digits
reads_back count = decode_of-encode_lower (to_be_bytes w32 count) (bytes_small 4 count)

-- digits of a length write no other
pub one_length : (n m : ℕ) → n < 2 ^ 32 → m < 2 ^ 32 → length_digits n ≡ length_digits m → n ≡ m
one_length n m n_fits m_fits same =
    let bytes = decode_of-same (length_digits n) (to_be_bytes w32 n) (to_be_bytes w32 m) (reads_back n)
    (ap decode_of same ∙ reads_back m) in
    sym (from_be_bytes-to_be_bytes_4 n n_fits) ∙ ap (λ b. from_be_bytes w32 b) bytes ∙ from_be_bytes-to_be_bytes_4 m m_fits

-- digits that were decoded
pub decoded : (digits : List ℕ) (count : ℕ) → digits ≡ length_digits count → decode_sized digits 4 ≡ Ok (to_be_bytes w32 count)
decoded digits count is =
    ap (λ d. decode_sized d 4) is ∙ decode_sized-twice (length_digits count) 4 (length_length count) ∙ reads_back count
