-- Numbers in digits.
use Rattle.std.proofs.Common.{◌≡◌, ℕ, ◌+◌, ◌-◌, ◌*◌, ◌^◌, ◌<◌, ◌≤◌, true, false, List, length, take, get_or, sym, ap, ◌∙◌, arith}
use Rattle.std.proofs.Common.{tests, add-one}
use Rattle.std.specs.Prelude.{Some, None, nat_lt, if◌then◌else◌}
use Rattle.std.specs.List.{list_all}
use Rattle.std.specs.Char.{digit_value, is_ascii_digit}
use Rattle.std.specs.Str.Parse.{digits_value}
use Rattle.std.proofs.Math.Nat.{pow-suc, pow-le-pow_right}
use Rattle.std.proofs.lemmas.Bool.{lt-ltb, le-ltb, both_ways, true_from_ne_false}
use Rattle.std.proofs.lemmas.Int.Digits.{digits_value_more}
use Rattle.std.proofs.lemmas.List.{take_all}
use Rattle.std.proofs.lemmas.List.Folds.{list_all_at}
use Rattle.std.proofs.lemmas.Str.{digit_value_digit}
use Rattle.std.proofs.lemmas.Str.Parse.{digits_value-take-le}
use Rattle.doc_http_bodies.specs.Framings.{allowed, body_limit}

-- one more hexadecimal digit
pub hexadecimal_more : (bs : List ℕ) (i n d : ℕ) → i < length bs → n ≡ digits_value 16 (take i bs) → n < 16 ^ i
    → d ≡ digit_value (get_or bs i 0) → d < 16
    → (n * 16 + d ≡ digits_value 16 (take (i + 1) bs)) × (n * 16 + d < 16 ^ (i + 1))
hexadecimal_more bs i n d inside is fits digit small =
    let next : 16 ^ (i + 1) ≡ 16 ^ i * 16 = ap (λ k. 16 ^ k) (add-one i) ∙ pow-suc 16 i in
    (rw (is, digit) (sym (digits_value_more 16 bs i inside)), omega arith)

pub before_eighth : (i n : ℕ) → n < 16 ^ i → i < 8 → n < 268435456
before_eighth i n h few =
    let most : 16 ^ i ≤ 16 ^ 7 = pow-le-pow_right {n = 16} (omega arith) {i = i} {j = 7} (omega arith) in
    omega arith

pub of_eight : (i n : ℕ) → n < 16 ^ i → i ≤ 8 → n < 4294967296
of_eight i n h few =
    let most : 16 ^ i ≤ 16 ^ 8 = pow-le-pow_right {n = 16} (omega arith) {i = i} {j = 8} (omega arith) in
    omega arith

-- a decimal digit
pub digit_at : (bs : List ℕ) (i : ℕ) → list_all is_ascii_digit bs ≡ true → i < length bs → digit_value (get_or bs i 0) ≡ get_or bs i 0 - 48
digit_at bs i all inside =
    let test : is_ascii_digit (get_or bs i 0) ≡ true = true_from_ne_false _
    (λ no. both_ways _ (list_all_at is_ascii_digit bs i 0 inside no) all) in
    omega (arith, digit_value_digit (get_or bs i 0) (grind (arith, tests)))

-- one more decimal digit
pub decimal_more : (bs : List ℕ) (i n : ℕ) → list_all is_ascii_digit bs ≡ true → i < length bs → n ≡ digits_value 10 (take i bs)
    → n * 10 + (get_or bs i 0 - 48) ≡ digits_value 10 (take (i + 1) bs)
decimal_more bs i n all inside is = rw (is, sym (digit_at bs i all inside)) (sym (digits_value_more 10 bs i inside))

-- the first digits say more already
pub not_allowed : (bs : List ℕ) (k n : ℕ) → n ≡ digits_value 10 (take k bs) → 1048576 < n → None ≡ allowed (digits_value 10 bs)
unfolding body_limit
not_allowed bs k n is over =
    let most = digits_value-take-le 10 bs k (omega arith) in
    let above : nat_lt 1048576 (digits_value 10 bs) ≡ true = lt-ltb _ _ (omega arith) in
    sym (ap (λ t. if t then None else Some (digits_value 10 bs)) above)

pub is_allowed : (bs : List ℕ) (k n : ℕ) → n ≡ digits_value 10 (take k bs) → length bs ≤ k → n ≤ 1048576
    → Some n ≡ allowed (digits_value 10 bs)
unfolding body_limit
is_allowed bs k n is end under =
    let whole : n ≡ digits_value 10 bs = is ∙ ap (digits_value 10) (take_all k bs end) in
    let below : nat_lt 1048576 (digits_value 10 bs) ≡ false = le-ltb _ _ (omega arith) in
    ap Some whole ∙ sym (ap (λ t. if t then None else Some (digits_value 10 bs)) below)
