-- The digits of a number.
use Rattle.std.proofs.Common.{subst, ◌≡◌, ◌≢◌, ◌≤◌, ℕ, ◌<◌, ◌^◌, List, [], ◌∷◌, ◌==◌, not, length, get_or, true, refl, sym, arith, inl, inr}
use Rattle.std.specs.Prelude.{None, Err, nat_lt}
use Rattle.std.specs.Char.{is_ascii_digit, digit_value}
use Rattle.std.specs.List.{list_all}
use Rattle.std.specs.Str.Parse.{AllDigits, IsNumeral, ParsesUnsigned, digits_value}
use Rattle.std.proofs.lemmas.Bool.{cases_Bool}
use Rattle.std.proofs.lemmas.Bool.Decides.{nat_tests}
use Rattle.std.proofs.lemmas.Str.{digit_value_digit}
use Rattle.std.proofs.lemmas.Str.Parse.{without_leading_plus_none}
use Rattle.doc_page_parts.proofs.Bools.{and_first, and_second}
use Rattle.doc_server_arguments.specs.Numbers.{are_digits, number_below}

digit_is : (c : ℕ) → is_ascii_digit c ≡ true → (digit_value c < 10) × (c ≢ 43)
digit_is c is =
    let range = within c is in
    (omega (arith, range.0, range.1, digit_value_digit c range), λ e. omega (arith, range.0, e))
  where
    within : (c : ℕ) → is_ascii_digit c ≡ true → (48 ≤ c) × (c ≤ 57)
    within c is = (grind (arith, nat_tests), grind (arith, nat_tests))

pub digits_are : (word : List ℕ) → list_all is_ascii_digit word ≡ true → AllDigits 10 word
digits_are [] all = tt
digits_are (c ∷ cs) all = ((digit_is c (and_first _ _ all)).0, digits_are cs (and_second _ _ all))

no_plus : (word : List ℕ) → 0 < length word → list_all is_ascii_digit word ≡ true → get_or word 0 0 ≢ 43
no_plus [] long all = absurd (omega arith)
no_plus (c ∷ cs) long all = (digit_is c (and_first _ _ all)).1

pub number_missing : {E : Type 0} (bits : ℕ) (word : List ℕ) (e : E) → are_digits word ≡ true → ParsesUnsigned {E = E} bits 10 word (Err e)
    → None ≡ number_below (2 ^ bits) word
number_missing bits word e digits parses =
    let some = and_first (not (length word == 0)) (list_all is_ascii_digit word) digits in
    let long : 0 < length word = grind (arith, nat_tests) in
    let all = and_second (not (length word == 0)) (list_all is_ascii_digit word) digits in
    let plain = without_leading_plus_none word (no_plus word long all) in
    elim (cases_Bool (nat_lt (digits_value 10 word) (2 ^ bits))) [
      | inl less ↦
          let small : digits_value 10 word < 2 ^ bits = grind (arith, nat_tests) in
          absurd (parses (subst (λ f. IsNumeral 10 f × (digits_value 10 f < 2 ^ bits)) (sym plain) ((long, digits_are word all), small)))
      | inr more ↦ rw (digits, more) refl
    ]
