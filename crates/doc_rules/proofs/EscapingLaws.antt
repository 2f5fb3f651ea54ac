-- Escaping the characters of a text is escaping its bytes in UTF-8: no byte of a character past ASCII is escaped.
use Rattle.std.proofs.Common.{◌≡◌, ℕ, ◌+◌, ◌≤◌, inl, inr, Bool, true, false, List, [], ◌∷◌, ◌++◌, refl, ap, sym, ◌∙◌, subst, arith}
use Rattle.std.specs.Prelude.{◌==◌, ◌/◌, ◌%◌, flat_map, encode_utf8_all, codes}
use Rattle.std.specs.Char.{encode_utf8}
use Rattle.std.specs.List.{AllByRecursion}
use Rattle.std.proofs.lemmas.Bool.{ne_eqb, cases_lt, cases_eq}
use Rattle.std.proofs.lemmas.List.{append-nil}
use Rattle.std.proofs.lemmas.List.Concat.{flat_map-append}
use Rattle.std.proofs.lemmas.Str.{encodes-append, encode_ascii}
use Rattle.doc_page_parts.specs.Escaping.{escaped_byte, escaped}
use Rattle.doc_page_parts.proofs.Texts.{encode_two_bytes, encode_three_bytes, encode_four_bytes}
use Rattle.doc_rules.specs.Characters.{Text}
use Rattle.doc_rules.specs.Escaping.{escaped_char, html_escape}
use Rattle.doc_rules.specs.Laws.{EscapingIsByBytes}

-- ---- bytes that are written as they are

abbrev Stays : ℕ → Type 0
Stays b = escaped_byte b ≡ b ∷ []

other_stays : (b : ℕ) → (b ≡ 38 → ⊥) → (b ≡ 60 → ⊥) → (b ≡ 62 → ⊥) → (b ≡ 34 → ⊥) → Stays b
other_stays b n1 n2 n3 n4 = rw (ne_eqb b 38 n1, ne_eqb b 60 n2, ne_eqb b 62 n3, ne_eqb b 34 n4)

high_stays : (b : ℕ) → 128 ≤ b → Stays b
high_stays b h = other_stays b (λ e. omega arith) (λ e. omega arith) (λ e. omega arith) (λ e. omega arith)

high_sum : (k n : ℕ) → 128 ≤ k → Stays (k + n)
high_sum k n h = high_stays (k + n) (omega arith)

all_stay : (bytes : List ℕ) → AllByRecursion Stays bytes → flat_map escaped_byte bytes ≡ bytes
all_stay [] h = refl
all_stay (b ∷ bytes) h = ap (λ front. front ++ flat_map escaped_byte bytes) h.0 ∙ ap (λ more. b ∷ more) (all_stay bytes h.1)

-- ---- the bytes of a character past ASCII

high_bytes_stay : (c : ℕ) → 128 ≤ c → AllByRecursion Stays (encode_utf8 c)
high_bytes_stay c h =
    elim (cases_lt c 2048) [
      | inl l ↦ subst (AllByRecursion Stays) (sym (encode_two_bytes c h l))
          (high_sum 192 (c / 64) (omega arith), (high_sum 128 (c % 64) (omega arith), tt))
      | inr g ↦ elim (cases_lt c 65536) [
        | inl l ↦ subst (AllByRecursion Stays) (sym (encode_three_bytes c g l))
            (high_sum 224 (c / 4096) (omega arith), (high_sum 128 ((c / 64) % 64) (omega arith), (high_sum 128 (c % 64) (omega arith), tt)))
        | inr k ↦ subst (AllByRecursion Stays) (sym (encode_four_bytes c k)) (
          high_sum 240 (c / 262144) (omega arith),
          (
            high_sum 128 ((c / 4096) % 64) (omega arith),
            (high_sum 128 ((c / 64) % 64) (omega arith), (high_sum 128 (c % 64) (omega arith), tt)),
          ),
        )
      ]
    ]

-- ---- characters

abbrev Alike : ℕ → Type 0
Alike c = encode_utf8_all (escaped_char c) ≡ flat_map escaped_byte (encode_utf8 c)

ampersand : Alike 38
unfolding escaped_char encode_utf8
ampersand = refl

less_than : Alike 60
unfolding escaped_char encode_utf8
less_than = refl

greater_than : Alike 62
unfolding escaped_char encode_utf8
greater_than = refl

quotation_mark : Alike 34
unfolding escaped_char encode_utf8
quotation_mark = refl

bytes_stay : (c : ℕ) → Stays c → AllByRecursion Stays (encode_utf8 c)
bytes_stay c h = elim (cases_lt c 128) [
  | inl l ↦ subst (AllByRecursion Stays) (sym (encode_ascii c l)) (h, tt)
  | inr g ↦
      high_bytes_stay c g
]

abbrev escaped_at : ℕ → Bool → Bool → Bool → Bool → Text
escaped_at c a b d e =
    elim a [
      | true ↦ codes "&amp;"
      | false ↦ elim b [
        | true ↦ codes "&lt;"
        | false ↦ elim d
            [ true ↦ codes "&gt;" | false ↦ elim e [ true ↦ codes "&quot;" | false ↦ c ∷ [] ] ]
      ]
    ]

other : (c : ℕ) → (c ≡ 38 → ⊥) → (c ≡ 60 → ⊥) → (c ≡ 62 → ⊥) → (c ≡ 34 → ⊥) → Alike c
unfolding escaped_char
other c n1 n2 n3 n4 =
    let itself : escaped_char c ≡ c ∷ [] =
    ap (λ t. escaped_at c t (c == 60) (c == 62) (c == 34)) (ne_eqb c 38 n1)
    ∙ (ap (λ t. escaped_at c false t (c == 62) (c == 34)) (ne_eqb c 60 n2)
    ∙ (ap (λ t. escaped_at c false false t (c == 34)) (ne_eqb c 62 n3) ∙ ap (λ t. escaped_at c false false false t) (ne_eqb c 34 n4))) in
    ap encode_utf8_all itself ∙ (append-nil (encode_utf8 c) ∙ sym (all_stay (encode_utf8 c) (bytes_stay c (other_stays c n1 n2 n3 n4))))

char_alike : (c : ℕ) → Alike c
char_alike c =
    elim (cases_eq c 38) [
      | inl e ↦ subst Alike (sym e) ampersand
      | inr n1 ↦ elim (cases_eq c 60) [
        | inl e ↦ subst Alike (sym e) less_than
        | inr n2 ↦ elim (cases_eq c 62) [
          | inl e ↦ subst Alike (sym e) greater_than
          | inr n3 ↦ elim (cases_eq c 34) [ inl e ↦ subst Alike (sym e) quotation_mark | inr n4 ↦ other c n1 n2 n3 n4 ]
        ]
      ]
    ]

-- ---- texts

pub escaping_is_by_bytes : EscapingIsByBytes
unfolding html_escape escaped
escaping_is_by_bytes [] = refl
escaping_is_by_bytes (c ∷ rest) =
    encodes-append (escaped_char c) (html_escape rest)
    ∙ (ap (λ front. front ++ encode_utf8_all (html_escape rest)) (char_alike c)
    ∙ (ap (λ more. flat_map escaped_byte (encode_utf8 c) ++ more) (escaping_is_by_bytes rest)
    ∙ sym (flat_map-append escaped_byte (encode_utf8 c) (encode_utf8_all rest))))
