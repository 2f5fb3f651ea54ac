-- Texts in UTF-8: their bytes, and how they are put together.
use Rattle.std.proofs.Common.{◌≡◌, ◌≤◌, ◌<◌, ◌+◌, ◌-◌, ◌/◌, ◌%◌, ℕ, zero, suc, List, [], ◌∷◌, ◌++◌, Bool, true, false, cond, ltb, ◌==◌}
use Rattle.std.proofs.Common.{length, slice_index, take, drop, refl, ap, ◌∙◌, subst, arith, IsUtf8, ⊎_elim}
use Rattle.std.specs.Prelude.{nat_lt, ⊤, Option, Some, None, if◌then◌else◌}
use Rattle.std.specs.List.{list_all, join_with_byte, AllByRecursion}
use Rattle.std.specs.Int.{is_in_range}
use Rattle.std.specs.Option.{unwrap_or}
use Rattle.std.specs.Str.{is_utf8}
use Rattle.std.specs.Str.Lossy.{after_first_chunk, error_len_after_one, error_len_after_two, error_len_of_some, replacement_bytes}
use Rattle.std.specs.Str.Lossy.{second_byte_max, second_byte_min, utf8_error_len}
use Rattle.std.specs.Str.Lossy.{utf8_invalid_len, utf8_lossy, utf8_lossy_within, utf8_valid_len, valid_len_up_to}
use Rattle.std.proofs.Math.Seq.{take-length}
use Rattle.std.proofs.Math.Utf8.{encode, encodes, scalar, scalar_cases, scalars}
use Rattle.std.proofs.lemmas.Bool.{and_from, eqb-true}
use Rattle.std.proofs.lemmas.Bool.Decides.{nat_tests}
use Rattle.std.proofs.lemmas.List.{length-drop}
use Rattle.std.proofs.lemmas.List.Folds.{list_all-append}
use Rattle.std.proofs.lemmas.Str.{IsUtf8-append, IsUtf8-from_is_utf8, IsUtf8-nil}
use Rattle.doc_page_parts.proofs.Bools.{and_first, and_second}
use Rattle.doc_server_script.specs.Escapes.{is_byte}
use Rattle.doc_server_script.specs.Laws.{IsText}

-- ---- each byte of UTF-8 is one

less_from : (a b : ℕ) → ltb a b ≡ true → a < b
less_from a b is = grind (arith, nat_tests)

with_byte : (b : ℕ) (rest : List ℕ) → b < 256 → list_all is_byte rest ≡ true → list_all is_byte (b ∷ rest) ≡ true
with_byte b rest less all = and_from (is_byte b) (list_all is_byte rest) (small b less) all
  where
    small : (b : ℕ) → b < 256 → is_byte b ≡ true
    small b less = grind (arith, nat_tests)

low : (c : ℕ) → c < 128 → c < 256
low c less = omega (arith, less)

two : (c : ℕ) → c < 2048 → 192 + c / 64 < 256
two c less = omega (arith, less)

three : (c : ℕ) → c < 65536 → 224 + c / 4096 < 256
three c less = omega (arith, less)

four : (c : ℕ) → c < 1114112 → 240 + c / 262144 < 256
four c less = omega (arith, less)

next_is : (c : ℕ) → 128 + c % 64 < 256
next_is c = omega arith

-- the last byte of a character, and the last two and three
last_one : (c : ℕ) → list_all is_byte ((128 + c % 64) ∷ []) ≡ true
last_one c = with_byte (128 + c % 64) [] (next_is c) refl

last_two : (c : ℕ) → list_all is_byte ((128 + (c / 64) % 64) ∷ (128 + c % 64) ∷ []) ≡ true
last_two c = with_byte (128 + (c / 64) % 64) ((128 + c % 64) ∷ []) (next_is (c / 64)) (last_one c)

last_three : (c : ℕ) → list_all is_byte ((128 + (c / 4096) % 64) ∷ (128 + (c / 64) % 64) ∷ (128 + c % 64) ∷ []) ≡ true
last_three c = with_byte (128 + (c / 4096) % 64) ((128 + (c / 64) % 64) ∷ (128 + c % 64) ∷ []) (next_is (c / 4096)) (last_two c)

char_by : (c : ℕ) → c < 1114112 → (a b d : Bool) → ltb c 128 ≡ a → ltb c 2048 ≡ b → ltb c 65536 ≡ d
    → list_all is_byte (cond a (c ∷ []) (cond b ((192 + c / 64) ∷ (128 + c % 64) ∷ []) (cond d
    ((224 + c / 4096) ∷ (128 + (c / 64) % 64) ∷ (128 + c % 64) ∷ [])
    ((240 + c / 262144) ∷ (128 + (c / 4096) % 64) ∷ (128 + (c / 64) % 64) ∷ (128 + c % 64) ∷ [])))) ≡ true
char_by c top true b d is_low is_two is_three = with_byte c [] (low c (less_from c 128 is_low)) refl
char_by c top false true d is_low is_two is_three =
    with_byte (192 + c / 64) ((128 + c % 64) ∷ []) (two c (less_from c 2048 is_two)) (last_one c)
char_by c top false false true is_low is_two is_three =
    with_byte (224 + c / 4096) ((128 + (c / 64) % 64) ∷ (128 + c % 64) ∷ []) (three c (less_from c 65536 is_three)) (last_two c)
char_by c top false false false is_low is_two is_three =
    with_byte (240 + c / 262144) ((128 + (c / 4096) % 64) ∷ (128 + (c / 64) % 64) ∷ (128 + c % 64) ∷ []) (four c top) (last_three c)

below_top : (c : ℕ) → scalar c ≡ true → c < 1114112
below_top c is = ⊎_elim (λ less. under c less) (λ both. both.1) (scalar_cases c is)
  where
    under : (c : ℕ) → c < 55296 → c < 1114112
    under c less = omega (arith, less)

char_bytes : (c : ℕ) → scalar c ≡ true → list_all is_byte (encode c) ≡ true
unfolding encode
char_bytes c is = char_by c (below_top c is) (ltb c 128) (ltb c 2048) (ltb c 65536) refl refl refl

all_bytes : (cs : List ℕ) → scalars cs ≡ true → list_all is_byte (encodes cs) ≡ true
all_bytes [] are = refl
all_bytes (c ∷ cs) are =
    list_all-append is_byte (encode c) (encodes cs)
    ∙ and_from (list_all is_byte (encode c)) (list_all is_byte (encodes cs)) (char_bytes c (and_first (scalar c) (scalars cs) are))
    (all_bytes cs (and_second (scalar c) (scalars cs) are))

pub text_of : (text : List ℕ) → IsUtf8 text → IsText text
text_of text utf8 = record {
  bytes = subst (λ t. list_all is_byte t ≡ true) utf8.1.1 (all_bytes utf8.0 utf8.1.0);
  utf8 = utf8;
}

pub text_of_utf8 : (text : List ℕ) → is_utf8 text ≡ true → IsText text
text_of_utf8 text is = text_of text (IsUtf8-from_is_utf8 text is)

-- ---- texts with a slash between each two

slash : IsUtf8 (47 ∷ [])
unfolding encode
slash = (47 ∷ [], (refl, refl))

pub joined_utf8 : (texts : List (List ℕ)) → AllByRecursion IsUtf8 texts → IsUtf8 (join_with_byte 47 texts)
joined_utf8 [] all = IsUtf8-nil
joined_utf8 (text ∷ []) all = all.0
joined_utf8 (text ∷ other ∷ texts) all =
    IsUtf8-append text (47 ∷ join_with_byte 47 (other ∷ texts)) all.0
    (IsUtf8-append (47 ∷ []) (join_with_byte 47 (other ∷ texts)) slash (joined_utf8 (other ∷ texts) all.1))

-- ---- what stands for bytes that are no UTF-8

front_up_to : (bs : List ℕ) (n : ℕ) → IsUtf8 (take (valid_len_up_to bs n) bs)
front_up_to bs zero = IsUtf8-nil
front_up_to bs (suc n) = by (is_utf8 (take (suc n) bs)) refl (front_up_to bs n)
  where
    by : (t : Bool) → is_utf8 (take (suc n) bs) ≡ t → IsUtf8 (take (valid_len_up_to bs n) bs)
        → IsUtf8 (take (if t then suc n else valid_len_up_to bs n) bs)
    by true is shorter = IsUtf8-from_is_utf8 (take (suc n) bs) is
    by false is shorter = shorter

front : (bs : List ℕ) → IsUtf8 (take (utf8_valid_len bs) bs)
unfolding utf8_valid_len
front bs = front_up_to bs (length bs)

-- no length, or one of at least 1
abbrev Pos : Option ℕ → Type 0
Pos None = ⊤
Pos (Some n) = 1 ≤ n

either : (t : Bool) (a b : Option ℕ) → Pos a → Pos b → Pos (if t then a else b)
either true a b one two = one
either false a b one two = two

by_two : (short good shorter : Bool) → Pos (if short then None else (if good then (if shorter then None else Some 3) else Some 2))
by_two true good shorter = tt
by_two false true true = tt
by_two false true false = omega arith
by_two false false shorter = omega arith

two_pos : (bs : List ℕ) → Pos (error_len_after_two bs)
two_pos bs = by_two (nat_lt (length bs) 3) (is_in_range 0x80 0xBF (slice_index bs 2)) (nat_lt (length bs) 4)

one_pos : (bs : List ℕ) → Pos (error_len_after_one bs)
one_pos bs =
    let first = slice_index bs 0 in
    let good = is_in_range (second_byte_min first) (second_byte_max first) (slice_index bs 1) in
    either (nat_lt (length bs) 2) None (if good then error_len_after_two bs else Some 1) tt
    (either good (error_len_after_two bs) (Some 1) (two_pos bs) (omega arith))

some_pos : (bs : List ℕ) → Pos (error_len_of_some bs)
some_pos bs = either (is_in_range 0xC2 0xF4 (slice_index bs 0)) (error_len_after_one bs) (Some 1) (one_pos bs) (omega arith)

error_pos : (bs : List ℕ) → Pos (utf8_error_len bs)
unfolding utf8_error_len
error_pos bs = either (length bs == 0) None (error_len_of_some bs) tt (some_pos bs)

invalid_pos : (bs : List ℕ) → 1 ≤ length bs → 1 ≤ utf8_invalid_len bs
invalid_pos bs some = by (utf8_error_len bs) (error_pos bs)
  where
    by : (o : Option ℕ) → Pos o → 1 ≤ unwrap_or o (length bs)
    by None pos = some
    by (Some n) pos = pos

shorter : (bs : List ℕ) (k : ℕ) → length bs ≤ suc k → length (after_first_chunk bs) ≤ k
shorter bs k short =
    let n = utf8_valid_len bs in
    let m = utf8_invalid_len (drop n bs) in
    by (length bs) n m (length (drop n bs)) (length (drop (n + m) bs)) short (length-drop n bs) (length-drop (n + m) bs)
    (λ some. invalid_pos (drop n bs) some)
  where
    last : (l n m b : ℕ) → l ≤ suc k → b ≡ l - (n + m) → 1 ≤ m → b ≤ k
    last l n m b short also pos = omega (arith, short, also, pos)

    by : (l n m a b : ℕ) → l ≤ suc k → a ≡ l - n → b ≡ l - (n + m) → (1 ≤ a → 1 ≤ m) → b ≤ k
    by l n m zero b short is also pos = omega (arith, short, is, also)
    by l n m (suc a) b short is also pos = last l n m b short also (pos (omega arith))

replacement_utf8 : IsUtf8 replacement_bytes
unfolding encode
replacement_utf8 = (65533 ∷ [], (refl, refl))

no_text : (bs : List ℕ) → length bs ≤ 0 → IsUtf8 bs
no_text [] short = IsUtf8-nil
no_text (b ∷ bs) short = absurd (omega (arith, short))

lossy_within : (k : ℕ) (bs : List ℕ) → length bs ≤ k → IsUtf8 (utf8_lossy_within k bs)
lossy_within zero bs short = no_text bs short
lossy_within (suc k) bs short =
    by (utf8_valid_len bs == length bs) refl (lossy_within k (after_first_chunk bs) (shorter bs k short))
  where
    by : (t : Bool) → (utf8_valid_len bs == length bs) ≡ t → IsUtf8 (utf8_lossy_within k (after_first_chunk bs))
        → IsUtf8 (if t then bs else take (utf8_valid_len bs) bs ++ (replacement_bytes ++ utf8_lossy_within k (after_first_chunk bs)))
    by true is rest =
        subst IsUtf8 (ap (λ n. take n bs) (eqb-true (utf8_valid_len bs) (length bs) is) ∙ take-length bs) (front bs)
    by false is rest =
        IsUtf8-append (take (utf8_valid_len bs) bs) (replacement_bytes ++ utf8_lossy_within k (after_first_chunk bs)) (front bs)
        (IsUtf8-append replacement_bytes (utf8_lossy_within k (after_first_chunk bs)) replacement_utf8 rest)

pub lossy_utf8 : (bs : List ℕ) → IsUtf8 (utf8_lossy bs)
unfolding utf8_lossy
lossy_utf8 bs = lossy_within (length bs) bs (omega arith)
