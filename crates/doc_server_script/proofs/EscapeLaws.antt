-- Escaped texts give back what they were written of.
use Rattle.std.proofs.Common.{◌≡◌, ℕ, ◌<◌, ◌/◌, ◌%◌, ◌==◌, List, [], ◌∷◌, ◌++◌, Bool, true, false, cond}
use Rattle.std.proofs.Common.{codes, refl, ap, sym, ◌∙◌, arith, inl, inr, subst}
use Rattle.std.specs.Prelude.{Option, Some, None, nat_lt}
use Rattle.std.specs.List.{flat_map, list_all}
use Rattle.std.proofs.lemmas.Bool.{agree_below_at, cases_Bool}
use Rattle.std.proofs.lemmas.Bool.Decides.{nat_tests}
use Rattle.doc_page_parts.proofs.Bools.{and_first, and_second}
use Rattle.doc_server_script.specs.Escapes.{is_byte, behind_backslash, by_number, escaped, escaped_byte, hex_byte, hex_digit, in_front, is_printable, spaceless, spaceless_byte, unescaped}

-- ---- escapes

-- a byte is what the digits of its number give
abbrev gives_back : ℕ → Bool
gives_back b = elim (hex_byte (hex_digit (b / 16)) (hex_digit (b % 16))) [ None ↦ false | Some c ↦ c == b ]

same_byte : (found : Option ℕ) (b : ℕ) → (elim found [ None ↦ false | Some c ↦ c == b ]) ≡ true → found ≡ Some b
same_byte None b is = absurd (cc)
same_byte (Some c) b is = let same : c ≡ b = grind (arith, nat_tests) in ap Some same

number_back : (b : ℕ) → b < 256 → hex_byte (hex_digit (b / 16)) (hex_digit (b % 16)) ≡ Some b
number_back b small = same_byte _ b (agree_below_at gives_back (λ x. true) 256 b refl small)

-- a byte that is neither escaped by a letter nor by its number
plain_back : (b : ℕ) (rest : List ℕ) → (b == 92) ≡ false → unescaped (b ∷ rest) ≡ in_front (Some b) (unescaped rest)
unfolding unescaped
plain_back b rest plain = ap (λ t. elim t [ true ↦ behind_backslash rest | false ↦ in_front (Some b) (unescaped rest) ]) plain

numbered_back : (b : ℕ) (rest : List ℕ) → b < 256 → unescaped (by_number b ++ rest) ≡ in_front (Some b) (unescaped rest)
unfolding unescaped
numbered_back b rest small = ap (λ found. in_front found (unescaped rest)) (number_back b small)

letter_r : (rest : List ℕ) → unescaped (codes "\\r" ++ rest) ≡ in_front (Some 13) (unescaped rest)
unfolding unescaped
letter_r rest = refl

letter_n : (rest : List ℕ) → unescaped (codes "\\n" ++ rest) ≡ in_front (Some 10) (unescaped rest)
unfolding unescaped
letter_n rest = refl

backslash : (rest : List ℕ) → unescaped (codes "\\\\" ++ rest) ≡ in_front (Some 92) (unescaped rest)
unfolding unescaped
backslash rest = refl

space_back : (rest : List ℕ) → unescaped (codes "\\x20" ++ rest) ≡ in_front (Some 32) (unescaped rest)
unfolding unescaped
space_back rest = refl

byte_back : (b : ℕ) (rest : List ℕ) → b < 256 → unescaped (escaped_byte b ++ rest) ≡ in_front (Some b) (unescaped rest)
byte_back b rest small =
    elim (cases_Bool (b == 13)) [
      | inl is ↦ let e : b ≡ 13 = grind (arith, nat_tests) in subst
          (λ x. unescaped (escaped_byte x ++ rest) ≡ in_front (Some x) (unescaped rest)) (sym e) (letter_r rest)
      | inr r ↦ elim (cases_Bool (b == 10)) [
        | inl is ↦ let e : b ≡ 10 = grind (arith, nat_tests) in subst
            (λ x. unescaped (escaped_byte x ++ rest) ≡ in_front (Some x) (unescaped rest)) (sym e) (letter_n rest)
        | inr n ↦ elim (cases_Bool (b == 92)) [
          | inl is ↦ let e : b ≡ 92 = grind (arith, nat_tests) in subst
              (λ x. unescaped (escaped_byte x ++ rest) ≡ in_front (Some x) (unescaped rest)) (sym e) (backslash rest)
          | inr other ↦ elim (cases_Bool (is_printable b)) [
            | inl is ↦ rw (r, n, other, is) (plain_back b rest other)
            | inr is ↦ rw (r, n, other, is) (numbered_back b rest small)
          ]
        ]
      ]
    ]

spaceless_back : (b : ℕ) (rest : List ℕ) → b < 256 → unescaped (spaceless_byte b ++ rest) ≡ in_front (Some b) (unescaped rest)
spaceless_back b rest small =
    elim (cases_Bool (b == 32)) [
      | inl is ↦ let e : b ≡ 32 = grind (arith, nat_tests) in subst
          (λ x. unescaped (spaceless_byte x ++ rest) ≡ in_front (Some x) (unescaped rest)) (sym e) (space_back rest)
      | inr other ↦ ap (λ t. unescaped (cond t (codes "\\x20") (escaped_byte b) ++ rest)) other ∙ byte_back b rest small
    ]

-- each is a byte
abbrev pub are_bytes : List ℕ → Bool
are_bytes text = list_all is_byte text

small_byte : (b : ℕ) → nat_lt b 256 ≡ true → b < 256
small_byte b is = grind (arith, nat_tests)

unescaped_nil : unescaped [] ≡ Some []
unfolding unescaped
unescaped_nil = refl

each_back : (write : ℕ → List ℕ) → ((b : ℕ) (rest : List ℕ) → b < 256 → unescaped (write b ++ rest) ≡ in_front (Some b) (unescaped rest))
    → (text : List ℕ) → are_bytes text ≡ true → unescaped (flat_map write text) ≡ Some text
each_back write back [] bytes = unescaped_nil
each_back write back (b ∷ text) bytes =
    back b (flat_map write text) (small_byte b (and_first _ _ bytes))
    ∙ ap (in_front (Some b)) (each_back write back text (and_second _ _ bytes))

pub escaped_back : (text : List ℕ) → are_bytes text ≡ true → unescaped (escaped text) ≡ Some text
unfolding escaped
escaped_back text bytes = each_back escaped_byte byte_back text bytes

pub spaceless_text_back : (text : List ℕ) → are_bytes text ≡ true → unescaped (spaceless text) ≡ Some text
unfolding spaceless
spaceless_text_back text bytes = each_back spaceless_byte spaceless_back text bytes
