-- The fields of a line.
use Rattle.std.proofs.Common.{subst, ◌≡◌, ◌≢◌, ◌≤◌, ℕ, ◌<◌, ◌^◌, List, [], ◌∷◌, ◌==◌, not, length, get_or, true, false, cond, refl, ap, sym, ◌∙◌, arith, inl, inr}
use Rattle.std.specs.Prelude.{Some, None, Err, IsUtf8, nat_lt}
use Rattle.std.specs.Char.{is_ascii_digit, digit_value}
use Rattle.std.specs.List.{list_all}
use Rattle.std.specs.Str.{is_utf8}
use Rattle.std.specs.Str.Parse.{AllDigits, IsNumeral, ParsesUnsigned, digits_value}
use Rattle.std.proofs.lemmas.Bool.{cases_Bool}
use Rattle.std.proofs.lemmas.Bool.Decides.{nat_tests}
use Rattle.std.proofs.lemmas.Str.{IsUtf8-from_is_utf8, is_utf8-from_IsUtf8}
use Rattle.std.proofs.lemmas.Str.{digit_value_digit}
use Rattle.std.proofs.lemmas.Str.Parse.{without_leading_plus_none}
use Rattle.doc_page_parts.proofs.Bools.{and_first, and_second}
use Rattle.doc_server_script.specs.Fields.{are_digits, as_text, connection_of}

text_kept : (bytes : List ℕ) → IsUtf8 bytes → as_text bytes ≡ Some bytes
text_kept bytes is = ap (λ b. cond b (Some bytes) None) (is_utf8-from_IsUtf8 bytes is)

no_text : (bytes : List ℕ) → (IsUtf8 bytes → ⊥) → as_text bytes ≡ None
no_text bytes never =
    elim (cases_Bool (is_utf8 bytes)) [
      | inl is ↦ absurd (never (IsUtf8-from_is_utf8 bytes is))
      | inr other ↦ ap (λ b. cond b (Some bytes) None) other
    ]

pub text_found : (found text items bytes : List ℕ) → found ≡ text → IsUtf8 text → text ≡ items → items ≡ bytes → Some found ≡ as_text bytes
text_found found text items bytes new is same own =
    ap Some (new ∙ same ∙ own) ∙ sym (text_kept bytes (subst IsUtf8 (same ∙ own) is))

pub text_missing : (items bytes : List ℕ) → items ≡ bytes → (IsUtf8 items → false ≡ true) → None ≡ as_text bytes
text_missing items bytes own never = sym (no_text bytes (λ is. let other : false ≡ true = never (subst IsUtf8 (sym own) is) in absurd (cc)))

-- ---- numbers

digit_is : (c : ℕ) → is_ascii_digit c ≡ true → (digit_value c < 10) × (c ≢ 43)
digit_is c is =
    let range = within c is in
    (omega (arith, range.0, range.1, digit_value_digit c range), λ e. omega (arith, range.0, e))
  where
    within : (c : ℕ) → is_ascii_digit c ≡ true → (48 ≤ c) × (c ≤ 57)
    within c is = (grind (arith, nat_tests), grind (arith, nat_tests))

digits_are : (field : List ℕ) → list_all is_ascii_digit field ≡ true → AllDigits 10 field
digits_are [] all = tt
digits_are (c ∷ cs) all = ((digit_is c (and_first _ _ all)).0, digits_are cs (and_second _ _ all))

no_plus : (field : List ℕ) → 0 < length field → list_all is_ascii_digit field ≡ true → get_or field 0 0 ≢ 43
no_plus [] long all = absurd (omega arith)
no_plus (c ∷ cs) long all = (digit_is c (and_first _ _ all)).1

pub number_missing : {E : Type 0} (field : List ℕ) (e : E) → are_digits field ≡ true → ParsesUnsigned {E = E} 64 10 field (Err e)
    → None ≡ connection_of field
number_missing field e digits parses =
    let some = and_first (not (length field == 0)) (list_all is_ascii_digit field) digits in
    let long : 0 < length field = grind (arith, nat_tests) in
    let all = and_second (not (length field == 0)) (list_all is_ascii_digit field) digits in
    let plain = without_leading_plus_none field (no_plus field long all) in
    elim (cases_Bool (nat_lt (digits_value 10 field) (2 ^ 64))) [
      | inl less ↦
          let small : digits_value 10 field < 2 ^ 64 = grind (arith, nat_tests) in
          absurd (parses (subst (λ f. IsNumeral 10 f × (digits_value 10 f < 2 ^ 64)) (sym plain) ((long, digits_are field all), small)))
      | inr more ↦ rw (digits, more) refl
    ]
