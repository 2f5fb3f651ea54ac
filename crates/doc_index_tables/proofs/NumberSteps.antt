-- A short text is told by its number.
use Rattle.std.proofs.Common.{◌≡◌, ℕ, zero, suc, ◌+◌, ◌-◌, ◌*◌, ◌/◌, ◌%◌, ◌^◌, ◌<◌, ◌≤◌, List, [], ◌∷◌, ◌++◌, Bool, true, false, length, drop, get_or, refl, ap, sym, subst, ◌∙◌, arith, add-one}
use Rattle.std.specs.Prelude.{nat_le, if◌then◌else◌}
use Rattle.std.specs.Cmp.Lexicographic.{slice_cmp}
use Rattle.std.specs.Ordering.{nat_cmp, eq_by_cmp}
use Rattle.std.proofs.lemmas.List.{append-nil, drop_more}
use Rattle.std.proofs.Math.ListN.{drop_of_length-le}
use Rattle.doc_index_tables.specs.ShortTexts.{digits_with, has_number, number_of, number_with, text_of}
use Rattle.doc_index_tables.proofs.CountSteps.{text_itself}
use Rattle.doc_index_tables.proofs.TableSteps.{same_text}

abbrev pub AreBytes : List ℕ → Type 0
AreBytes bytes = (i : ℕ) → get_or bytes i 0 < 256

-- so many digits more than a text has bytes
more_than : List ℕ → ℕ → ℕ
more_than [] most = most
more_than (byte ∷ bytes) most = more_than bytes (suc most)

more_than_is : (bytes : List ℕ) (most : ℕ) → more_than bytes most ≡ length bytes + most
unfolding more_than
more_than_is [] most = omega arith
more_than_is (byte ∷ bytes) most = let n = more_than_is bytes (suc most) in omega (arith, n)

above_one : (n : ℕ) → 2 ≤ n → nat_le n 1 ≡ false
above_one n some = grind arith

quotient : (n byte : ℕ) → byte < 256 → (n * 256 + byte) / 256 ≡ n
quotient n byte low = omega (arith, low)

rest : (n byte : ℕ) → byte < 256 → (n * 256 + byte) % 256 ≡ byte
rest n byte low = omega (arith, low)

told : (bytes : List ℕ) (most n : ℕ) (behind : List ℕ) → 1 ≤ n → AreBytes bytes
    → digits_with (more_than bytes most) (number_with n bytes) behind ≡ digits_with most n (bytes ++ behind)
unfolding more_than number_with digits_with
told [] most n behind some small = refl
told (byte ∷ bytes) most n behind some small =
    told bytes (suc most) (n * 256 + byte) behind (omega (arith, some)) (λ i. small (suc i))
    ∙ one (nat_le (n * 256 + byte) 1) (above_one (n * 256 + byte) (omega (arith, some)))
  where
    low : byte < 256
    low = small 0

    one : (b : Bool) → b ≡ false
        → (if b then bytes ++ behind else digits_with most ((n * 256 + byte) / 256) ((n * 256 + byte) % 256 ∷ (bytes ++ behind)))
        ≡ digits_with most n (byte ∷ (bytes ++ behind))
    one true e = cc
    one false e =
        ap (λ m. digits_with most m ((n * 256 + byte) % 256 ∷ (bytes ++ behind))) (quotient n byte low)
        ∙ ap (λ m. digits_with most n (m ∷ (bytes ++ behind))) (rest n byte low)

first_digit : (most : ℕ) (bytes : List ℕ) → digits_with most 1 bytes ≡ bytes
unfolding digits_with
first_digit zero bytes = refl
first_digit (suc most) bytes = refl

told_text : (text : List ℕ) → AreBytes text → length text ≤ 15 → text_of (number_of text) ≡ text
unfolding text_of number_of
told_text text small short =
    ap (λ most. digits_with most (number_with 1 text) []) (let n = more_than_is text (15 - length text) in omega (arith, n, short))
    ∙ told text (15 - length text) 1 [] (omega arith) small ∙ first_digit (15 - length text) (text ++ []) ∙ append-nil text

-- a short text has a number
pub short_has : (text : List ℕ) → AreBytes text → length text ≤ 15 → has_number text ≡ true
unfolding has_number
short_has text small short = ap (λ t. eq_by_cmp (slice_cmp nat_cmp) t text) (told_text text small short) ∙ text_itself text

few_digits : (most n : ℕ) (bytes : List ℕ) → length (digits_with most n bytes) ≤ most + length bytes
unfolding digits_with
few_digits zero n bytes = omega arith
few_digits (suc most) n bytes = by (nat_le n 1) (few_digits most (n / 256) (n % 256 ∷ bytes))
  where
    by : (b : Bool) → length (digits_with most (n / 256) (n % 256 ∷ bytes)) ≤ most + length (n % 256 ∷ bytes)
        → length (if b then bytes else digits_with most (n / 256) (n % 256 ∷ bytes)) ≤ suc most + length bytes
    by true more = omega arith
    by false more = omega (arith, more)

-- a longer one has none
pub long_has_none : (text : List ℕ) → 15 < length text → has_number text ≡ false
unfolding has_number text_of
long_has_none text long = by (eq_by_cmp (slice_cmp nat_cmp) (text_of (number_of text)) text) refl
  where
    by : (b : Bool) → eq_by_cmp (slice_cmp nat_cmp) (text_of (number_of text)) text ≡ b → b ≡ false
    by true e =
        let same : length (text_of (number_of text)) ≡ length text = ap length (same_text (text_of (number_of text)) text e) in
        let few = few_digits 15 (number_of text) [] in absurd (omega (arith, same, few, long))
    by false e = refl

-- more than a number of so many bytes
abbrev pub above : ℕ → ℕ
above zero = 2
above (suc count) = above count * 256

pub within_16 : (count n byte : ℕ) → count < 15 → n < above count → byte < 256 → n * 256 + byte < 2 ^ 128
within_16 count n byte few low small = let most = rising 14 count (omega (arith, few)) in omega (arith, low, small, most)
  where
    rising : (limit count : ℕ) → count ≤ limit → above count ≤ above limit
    rising zero zero few = omega arith
    rising zero (suc count) few = absurd (omega (arith, few))
    rising (suc limit) zero few = let more = rising limit zero (omega arith) in omega (arith, more)
    rising (suc limit) (suc count) few = let more = rising limit count (omega (arith, few)) in omega (arith, more)

pub one_more : (bytes : List ℕ) (i n byte : ℕ) → i < length bytes → byte ≡ get_or bytes i 0 → get_or bytes i 0 < 256
    → (number_with n (drop i bytes) ≡ number_of bytes) × (n < above i)
    → (number_with (n * 256 + byte) (drop (i + 1) bytes) ≡ number_of bytes) × (n * 256 + byte < above (i + 1))
unfolding number_with
one_more bytes i n byte within is small so_far = (
  ap (λ b. number_with (n * 256 + b) (drop (i + 1) bytes)) is
      ∙ (sym (ap (number_with n) (drop_more bytes i 0 within)) ∙ so_far.0),
  subst (λ count. n * 256 + byte < above count) (sym (add-one i)) (omega (arith, is, small, so_far.1)),
)

pub all_bytes : (bytes : List ℕ) (i n : ℕ) → length bytes ≤ i → number_with n (drop i bytes) ≡ number_of bytes → n ≡ number_of bytes
unfolding number_with
all_bytes bytes i n all so_far = sym (ap (number_with n) (drop_of_length-le bytes all)) ∙ so_far
