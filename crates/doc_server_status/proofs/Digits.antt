-- Digits are text, and what number they write.
use Rattle.std.proofs.Common.{◌≡◌, ℕ, ◌<◌, ◌≤◌, ◌^◌, ◌&&◌, All, List, [], ◌∷◌, length, true, refl, subst, arith, inl, inr}
use Rattle.std.specs.Prelude.{None, Err, IsUtf8, ◌==◌, nat_le, nat_lt}
use Rattle.std.specs.Char.{digit_value, is_ascii_digit}
use Rattle.std.specs.List.{list_all}
use Rattle.std.specs.Str.Parse.{AllDigits, ParsesUnsigned, digits_value}
use Rattle.std.proofs.lemmas.Bool.{and_parts, cases_Bool}
use Rattle.std.proofs.lemmas.Bool.Decides.{nat_tests}
use Rattle.std.proofs.lemmas.Fmt.{IsAscii-from_digits}
use Rattle.std.proofs.lemmas.List.Elements.{All-cons, All-nil}
use Rattle.std.proofs.lemmas.Str.{IsUtf8-from_ascii, digit_value_digit}
use Rattle.std.proofs.lemmas.Str.Ascii.{IsAscii-from_all}
use Rattle.std.proofs.lemmas.Str.Parse.{numerals_by_value, parse_digits, tells_digits}
use Rattle.doc_server_status.specs.Identities.{is_digit, is_identity}
use Rattle.doc_server_status.specs.Queries.{is_number, number_in}

-- ---- identities

ascii_from_digits : (text : List ℕ) → list_all is_digit text ≡ true → All (λ b. b < 128) text
ascii_from_digits [] all = All-nil (λ b. b < 128)
ascii_from_digits (b ∷ rest) all =
    let parts = and_parts (is_digit b) (list_all is_digit rest) all in
    All-cons (λ c. c < 128) b rest (within b parts.0) (ascii_from_digits rest parts.1)
  where
    within : (b : ℕ) → is_digit b ≡ true → b < 128
    within b is = grind (arith, nat_tests)

pub identity_is_text : (text : List ℕ) → is_identity text ≡ true → IsUtf8 text
identity_is_text text is =
    let parts = and_parts (length text == 32) (list_all is_digit text) is in
    IsUtf8-from_ascii text (IsAscii-from_all text (ascii_from_digits text parts.1))

-- ---- numbers

all_digits : (text : List ℕ) → list_all is_ascii_digit text ≡ true → AllDigits 10 text
all_digits [] all = tt
all_digits (b ∷ rest) all =
    let parts = and_parts (is_ascii_digit b) (list_all is_ascii_digit rest) all in
    (value b (within b parts.0), all_digits rest parts.1)
  where
    within : (b : ℕ) → is_ascii_digit b ≡ true → (48 ≤ b) × (b ≤ 57)
    within b is = (grind (arith, nat_tests), grind (arith, nat_tests))

    value : (b : ℕ) → (48 ≤ b) × (b ≤ 57) → digit_value b < 10
    value b range = omega (arith, digit_value_digit b range)

is_long : (text : List ℕ) → is_number text ≡ true → 0 < length text
is_long text is =
    let long = (and_parts (nat_le 1 (length text)) (nat_le (length text) 20)
    (and_parts (nat_le 1 (length text) && nat_le (length text) 20) (list_all is_ascii_digit text) is).0).0 in
    grind (arith, nat_tests)

digits_of : (text : List ℕ) → is_number text ≡ true → AllDigits 10 text
digits_of text is =
    all_digits text (and_parts (nat_le 1 (length text) && nat_le (length text) 20) (list_all is_ascii_digit text) is).1

pub number_is_text : (text : List ℕ) → is_number text ≡ true → IsUtf8 text
number_is_text text is = IsUtf8-from_ascii text (IsAscii-from_digits text (digits_of text is))

-- digits that were read as text and write no number of 64 bits
pub number_missing : {E : Type 0} (text read : List ℕ) (e : E) → read ≡ text → is_number text ≡ true
    → ParsesUnsigned {E = E} 64 10 read (Err e) → None ≡ number_in text
unfolding number_in
number_missing {E} text read e same is parses =
    let failed = subst (λ (t : List ℕ). ParsesUnsigned {E = E} 64 10 t (Err e)) same parses in
    elim (cases_Bool (nat_lt (digits_value 10 text) (2 ^ 64))) [
      | inl less ↦
          let small : digits_value 10 text < 2 ^ 64 = grind (arith, nat_tests) in
          let never = parse_digits (numerals_by_value (AllDigits 10) tells_digits) 64 text (Err e) failed in
          absurd (never (digits_of text is) (is_long text is, small))
      | inr more ↦ rw (is, more) refl
    ]
