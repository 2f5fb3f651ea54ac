-- Each byte of UTF-8 is one.
use Rattle.std.proofs.Common.{◌≡◌, ◌<◌, ◌+◌, ◌/◌, ◌%◌, ℕ, List, [], ◌∷◌, Bool, true, false, cond, ltb, refl, ◌∙◌, subst, arith}
use Rattle.std.proofs.Common.{IsUtf8, ⊎_elim}
use Rattle.std.specs.List.{list_all}
use Rattle.std.specs.Str.{is_utf8}
use Rattle.std.proofs.Math.Utf8.{encode, encodes, scalar, scalar_cases, scalars}
use Rattle.std.proofs.lemmas.Bool.{and_from}
use Rattle.std.proofs.lemmas.Bool.Decides.{nat_tests}
use Rattle.std.proofs.lemmas.List.Folds.{list_all-append}
use Rattle.std.proofs.lemmas.Str.{IsUtf8-from_is_utf8}
use Rattle.doc_page_parts.proofs.Bools.{and_first, and_second}
use Rattle.doc_server_script.specs.Escapes.{is_byte}
use Rattle.doc_server_script.specs.Laws.{IsText}

less_from : (a b : ℕ) → ltb a b ≡ true → a < b
less_from a b is = grind (arith, nat_tests)

with_byte : (b : ℕ) (rest : List ℕ) → b < 256 → list_all is_byte rest ≡ true → list_all is_byte (b ∷ rest) ≡ true
with_byte b rest less all = and_from (is_byte b) (list_all is_byte rest) (small b less) all
  where
    small : (b : ℕ) → b < 256 → is_byte b ≡ true
    small b less = grind (arith, nat_tests)

low : (c : ℕ) → c < 128 → c < 256
low c less = omega (arith, less)

two : (c : ℕ) → c < 2048 → 192 + c / 64 < 256
two c less = omega (arith, less)

three : (c : ℕ) → c < 65536 → 224 + c / 4096 < 256
three c less = omega (arith, less)

four : (c : ℕ) → c < 1114112 → 240 + c / 262144 < 256
four c less = omega (arith, less)

next_is : (c : ℕ) → 128 + c % 64 < 256
next_is c = omega arith

-- the last byte of a character, and the last two and three
last_one : (c : ℕ) → list_all is_byte ((128 + c % 64) ∷ []) ≡ true
last_one c = with_byte (128 + c % 64) [] (next_is c) refl

last_two : (c : ℕ) → list_all is_byte ((128 + (c / 64) % 64) ∷ (128 + c % 64) ∷ []) ≡ true
last_two c = with_byte (128 + (c / 64) % 64) ((128 + c % 64) ∷ []) (next_is (c / 64)) (last_one c)

last_three : (c : ℕ) → list_all is_byte ((128 + (c / 4096) % 64) ∷ (128 + (c / 64) % 64) ∷ (128 + c % 64) ∷ []) ≡ true
last_three c = with_byte (128 + (c / 4096) % 64) ((128 + (c / 64) % 64) ∷ (128 + c % 64) ∷ []) (next_is (c / 4096)) (last_two c)

char_by : (c : ℕ) → c < 1114112 → (a b d : Bool) → ltb c 128 ≡ a → ltb c 2048 ≡ b → ltb c 65536 ≡ d
    → list_all is_byte (cond a (c ∷ []) (cond b ((192 + c / 64) ∷ (128 + c % 64) ∷ []) (cond d
    ((224 + c / 4096) ∷ (128 + (c / 64) % 64) ∷ (128 + c % 64) ∷ [])
    ((240 + c / 262144) ∷ (128 + (c / 4096) % 64) ∷ (128 + (c / 64) % 64) ∷ (128 + c % 64) ∷ [])))) ≡ true
char_by c top true b d is_low is_two is_three = with_byte c [] (low c (less_from c 128 is_low)) refl
char_by c top false true d is_low is_two is_three =
    with_byte (192 + c / 64) ((128 + c % 64) ∷ []) (two c (less_from c 2048 is_two)) (last_one c)
char_by c top false false true is_low is_two is_three =
    with_byte (224 + c / 4096) ((128 + (c / 64) % 64) ∷ (128 + c % 64) ∷ []) (three c (less_from c 65536 is_three)) (last_two c)
char_by c top false false false is_low is_two is_three =
    with_byte (240 + c / 262144) ((128 + (c / 4096) % 64) ∷ (128 + (c / 64) % 64) ∷ (128 + c % 64) ∷ []) (four c top) (last_three c)

below_top : (c : ℕ) → scalar c ≡ true → c < 1114112
below_top c is = ⊎_elim (λ less. under c less) (λ both. both.1) (scalar_cases c is)
  where
    under : (c : ℕ) → c < 55296 → c < 1114112
    under c less = omega (arith, less)

char_bytes : (c : ℕ) → scalar c ≡ true → list_all is_byte (encode c) ≡ true
unfolding encode
char_bytes c is = char_by c (below_top c is) (ltb c 128) (ltb c 2048) (ltb c 65536) refl refl refl

all_bytes : (cs : List ℕ) → scalars cs ≡ true → list_all is_byte (encodes cs) ≡ true
all_bytes [] are = refl
all_bytes (c ∷ cs) are =
    list_all-append is_byte (encode c) (encodes cs)
    ∙ and_from (list_all is_byte (encode c)) (list_all is_byte (encodes cs)) (char_bytes c (and_first (scalar c) (scalars cs) are))
    (all_bytes cs (and_second (scalar c) (scalars cs) are))

text_of : (text : List ℕ) → IsUtf8 text → IsText text
text_of text utf8 = record {
  bytes = subst (λ t. list_all is_byte t ≡ true) utf8.1.1 (all_bytes utf8.0 utf8.1.0);
  utf8 = utf8;
}

pub text_of_utf8 : (text : List ℕ) → is_utf8 text ≡ true → IsText text
text_of_utf8 text is = text_of text (IsUtf8-from_is_utf8 text is)
