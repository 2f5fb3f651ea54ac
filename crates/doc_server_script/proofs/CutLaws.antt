-- A line is cut at its first space.
use Rattle.std.proofs.Common.{◌≡◌, ℕ, suc, ◌+◌, ◌<◌, not, List, [], ◌∷◌, ◌++◌, length, take, drop, Bool, true, cond}
use Rattle.std.proofs.Common.{refl, ap, ◌∙◌, arith}
use Rattle.std.specs.Prelude.{Some, None, nat_lt}
use Rattle.std.specs.List.{flat_map, list_all, position_or_len}
use Rattle.std.proofs.lemmas.Bool.{agree_below_at, and_from}
use Rattle.std.proofs.lemmas.Bool.Decides.{nat_tests}
use Rattle.std.proofs.lemmas.List.{length-append}
use Rattle.std.proofs.Math.Seq.{take-append_seam}
use Rattle.doc_page_parts.proofs.Bools.{and_first, and_second}
use Rattle.doc_server_script.specs.Escapes.{is_byte, is_printable, escaped, escaped_byte, spaceless, spaceless_byte}
use Rattle.doc_server_script.specs.Fields.{cut, is_space}

abbrev pub is_no_space : ℕ → Bool
is_no_space b = not (is_space b)

position_at : (field rest : List ℕ) → list_all is_no_space field ≡ true → position_or_len is_space (field ++ 32 ∷ rest) ≡ length field
position_at [] rest none = refl
position_at (b ∷ field) rest none =
    let more = position_at field rest (and_second _ _ none) in
    let longer : 1 + length field ≡ length (b ∷ field) = omega arith in
    ap (λ t. cond t (1 + position_or_len is_space (field ++ 32 ∷ rest)) 0) (and_first _ _ none) ∙ ap (λ n. 1 + n) more ∙ longer

drop_at : (field rest : List ℕ) → drop (length field + 1) (field ++ 32 ∷ rest) ≡ rest
drop_at [] rest = refl
drop_at (b ∷ field) rest =
    let next : length (b ∷ field) + 1 ≡ suc (length field + 1) = omega arith in
    ap (λ n. drop n (b ∷ field ++ 32 ∷ rest)) next ∙ drop_at field rest

less : (n m : ℕ) → n < m → nat_lt n m ≡ true
less n m is = grind (arith, nat_tests)

pub cut_at : (field rest : List ℕ) → list_all is_no_space field ≡ true → cut (field ++ 32 ∷ rest) ≡ Some (field, rest)
cut_at field rest none =
    let text = field ++ 32 ∷ rest in
    let within : length field < length text = omega (arith, length-append field (32 ∷ rest)) in
    ap (λ n. cond (nat_lt n (length text)) (Some (take n text, drop (n + 1) text)) None) (position_at field rest none)
    ∙ ap (λ t. cond t (Some (take (length field) text, drop (length field + 1) text)) None) (less _ _ within)
    ∙ ap (λ first. Some (first, drop (length field + 1) text)) (take-append_seam field (32 ∷ rest))
    ∙ ap (λ more. Some (field, more)) (drop_at field rest)

-- ---- what holds of all that is written

pub all_append : (p : ℕ → Bool) (xs ys : List ℕ) → list_all p xs ≡ true → list_all p ys ≡ true → list_all p (xs ++ ys) ≡ true
all_append p [] ys one two = two
all_append p (x ∷ xs) ys one two = and_from _ _ (and_first _ _ one) (all_append p xs ys (and_second _ _ one) two)

all_written : (p : ℕ → Bool) (write : ℕ → List ℕ) → ((b : ℕ) → b < 256 → list_all p (write b) ≡ true) → (text : List ℕ)
    → list_all is_byte text ≡ true → list_all p (flat_map write text) ≡ true
all_written p write each [] bytes = refl
all_written p write each (b ∷ text) bytes =
    let small : b < 256 = byte_is b (and_first _ _ bytes) in
    all_append p (write b) (flat_map write text) (each b small) (all_written p write each text (and_second _ _ bytes))
  where
    byte_is : (b : ℕ) → is_byte b ≡ true → b < 256
    byte_is b is = grind (arith, nat_tests)

pub no_space_in : (text : List ℕ) → list_all is_byte text ≡ true → list_all is_no_space (spaceless text) ≡ true
unfolding spaceless
no_space_in text bytes = all_written is_no_space spaceless_byte
    (λ b small. agree_below_at (λ x. list_all is_no_space (spaceless_byte x)) (λ x. true) 256 b refl small) text bytes

pub spaceless_prints : (text : List ℕ) → list_all is_byte text ≡ true → list_all is_printable (spaceless text) ≡ true
unfolding spaceless
spaceless_prints text bytes = all_written is_printable spaceless_byte
    (λ b small. agree_below_at (λ x. list_all is_printable (spaceless_byte x)) (λ x. true) 256 b refl small) text bytes

pub escaped_prints : (text : List ℕ) → list_all is_byte text ≡ true → list_all is_printable (escaped text) ≡ true
unfolding escaped
escaped_prints text bytes = all_written is_printable escaped_byte
    (λ b small. agree_below_at (λ x. list_all is_printable (escaped_byte x)) (λ x. true) 256 b refl small) text bytes
