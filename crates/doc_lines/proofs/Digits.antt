-- What stands between the marks of a number's reference is digits, and the number that they write is small.
use Rattle.std.proofs.Common.{◌≡◌, ℕ, zero, suc, ◌+◌, ◌*◌, ◌-◌, ◌^◌, ◌<◌, ◌≤◌, Bool, true, false, List, [], ◌∷◌, ◌++◌, take, drop}
use Rattle.std.proofs.Common.{length, refl, ap, sym, ◌∙◌, subst, Option, Some, None, arith, append_assoc, length-append, chars, cond}
use Rattle.std.proofs.Common.{ne_eqb}
use Rattle.std.specs.Prelude.{codes, ◌&&◌, Result, Ok, Err, fold}
use Rattle.std.specs.List.{list_all}
use Rattle.std.specs.Char.{digit_value, is_ascii_digit, is_ascii_hexdigit}
use Rattle.std.specs.Str.{IsUtf8, IsAscii}
use Rattle.std.specs.Str.Parse.{AllDigits, IsNumeral, digits_value_after, digits_value, without_leading_plus, ParsesUnsigned}
use Rattle.std.proofs.Math.Seq.{take-append_seam}
use Rattle.std.proofs.lemmas.Bool.{and_parts}
use Rattle.std.proofs.lemmas.Bool.Decides.{nat_tests}
use Rattle.std.proofs.lemmas.List.{append_cancel_right}
use Rattle.std.proofs.lemmas.Str.{encodes-chars, encodes-IsAscii}
use Rattle.doc_rules.specs.Characters.{Text, one_of}
use Rattle.doc_rules.specs.Parsers.{one, is, ◌then◌, at_most, before, inside}
use Rattle.doc_rules.specs.Escapes.{number, decimal_reference, hexadecimal_reference}
use Rattle.doc_rules.specs.Rests.{IsRest}
use Rattle.doc_rules.proofs.ParserLaws.{is_cons}
use Rattle.doc_lines.specs.MeaningSteps.{IsDigits}
use Rattle.doc_lines.proofs.Slices.{front_is_before}
use Rattle.doc_lines.proofs.Steps.{then_is}

-- ---- what was taken

abbrev tested : Bool → Text → Option Text
tested b more = elim b [ true ↦ Some more | false ↦ None ]

-- a character of this class, and what stands behind it
pub record Taken (class : ℕ → Bool) (text rest : Text) : Type 0 where
  pub char : ℕ
  pub split : text ≡ char ∷ rest
  pub good : class char ≡ true

pub one_gives : (class : ℕ → Bool) (text rest : Text) → Some rest ≡ one class text → Taken class text rest
one_gives class [] rest e = absurd cc
one_gives class (d ∷ more) rest e = at (class d) refl e
  where
    at : (b : Bool) → class d ≡ b → Some rest ≡ tested b more → Taken class (d ∷ more) rest
    at true f g = let ends : more ≡ rest = cc in record { char = d; split = ap (λ r. d ∷ r) ends; good = f }
    at false f g = absurd cc

-- a run of this class, so long at most, and what stands behind it
pub record Run (class : ℕ → Bool) (most : ℕ) (text rest : Text) : Type 0 where
  pub run : Text
  pub split : text ≡ run ++ rest
  pub good : list_all class run ≡ true
  pub few : length run ≤ most

no_run : (class : ℕ → Bool) (most : ℕ) (text rest : Text) → Some rest ≡ Some text → Run class most text rest
no_run class most text rest e = let same : text ≡ rest = cc in record { run = []; split = same; good = refl; few = omega arith }

longer_run : (class : ℕ → Bool) (most c : ℕ) (text rest : Text) → class c ≡ true → Run class most text rest
    → Run class (suc most) (c ∷ text) rest
longer_run class most c text rest e r = record {
  run = c ∷ r.run;
  split = ap (λ more. c ∷ more) r.split;
  good = ap (λ b. b && list_all class r.run) e ∙ r.good;
  few = let h : length r.run ≤ most = r.few in omega arith;
}

abbrev next : (ℕ → Bool) → ℕ → Text → Option Text → Option Text
next class n text found = elim found [ None ↦ Some text | Some mid ↦ at_most n (one class) mid ]

pub at_most_gives : (most : ℕ) (class : ℕ → Bool) (text rest : Text) → Some rest ≡ at_most most (one class) text → Run class most text rest
unfolding at_most
at_most_gives zero class text rest e = no_run class zero text rest e
at_most_gives (suc n) class [] rest e = no_run class (suc n) [] rest e
at_most_gives (suc n) class (c ∷ text) rest e = at (at_most_gives n class text rest) (class c) refl e
  where
    at : (Some rest ≡ at_most n (one class) text → Run class n text rest) → (b : Bool) → class c ≡ b
        → Some rest ≡ next class n (c ∷ text) (tested b text) → Run class (suc n) (c ∷ text) rest
    at go true f g = longer_run class n c text rest f (go g)
    at go false f g = no_run class (suc n) (c ∷ text) rest g

-- a digit and a run of digits are digits
pub digits_before : (class : ℕ → Bool) (more most : ℕ) (text second end front : Text) → suc more ≤ most →
    Some second ≡ one class text → Some end ≡ at_most more (one class) second → text ≡ front ++ end → IsDigits class most front
digits_before class more most text second end front l e f g =
    let t : Taken class text second = one_gives class text second e in
    let r : Run class more second end = at_most_gives more class second end f in
    let same : front ≡ t.char ∷ r.run = append_cancel_right front (t.char ∷ r.run) end (sym g
    ∙ (t.split ∙ ap (λ rest. t.char ∷ rest) r.split)) in
    let longest : length r.run ≤ more = r.few in
    subst (IsDigits class most) (sym same)
    (record { some = omega arith; few = omega arith; all = ap (λ b. b && list_all class r.run) t.good ∙ r.good })

-- what stands between a first and a last character
pub inside_is : (a b : ℕ) (digits rest text : Text) → text ≡ a ∷ (digits ++ b ∷ rest) → digits ≡ inside (before rest text)
inside_is a b digits rest text e =
    let joined : text ≡ (a ∷ (digits ++ b ∷ [])) ++ rest = e ∙ ap (λ more. a ∷ more) (sym (append_assoc digits (b ∷ []) rest)) in
    let is_rest : IsRest rest text = record { front = a ∷ (digits ++ b ∷ []); split = joined } in
    let whole : a ∷ (digits ++ b ∷ []) ≡ before rest text = front_is_before text rest (a ∷ (digits ++ b ∷ [])) is_rest joined in
    let n : length (digits ++ b ∷ []) - 1 ≡ length digits = omega (arith, length-append digits (b ∷ [])) in
    sym (sym (ap inside whole) ∙ (ap (λ k. take k (digits ++ b ∷ [])) n ∙ take-append_seam digits (b ∷ [])))

-- ---- what digits are

digit_is_small : (c : ℕ) → is_ascii_digit c ≡ true → (47 < c) × (c < 58) × (digit_value c < 10)
digit_is_small c e = grind (arith, nat_tests)

hexdigit_is_small : (c : ℕ) → is_ascii_hexdigit c ≡ true → (47 < c) × (c < 128) × (digit_value c < 16)
hexdigit_is_small c e = grind (arith, nat_tests)

-- each character of this class is one of ASCII
abbrev IsAsciiClass : (ℕ → Bool) → Type 0
IsAsciiClass class = (c : ℕ) → class c ≡ true → (47 < c) × (c < 128)

digits_are_ascii : (class : ℕ → Bool) → IsAsciiClass class → (digits : Text) → list_all class digits ≡ true → IsAscii digits
digits_are_ascii class h [] e i = omega arith
digits_are_ascii class h (c ∷ more) e zero = (h c (and_parts (class c) (list_all class more) e).0).1
digits_are_ascii class h (c ∷ more) e (suc i) = digits_are_ascii class h more (and_parts (class c) (list_all class more) e).1 i

all_digits : (class : ℕ → Bool) (radix : ℕ) → ((c : ℕ) → class c ≡ true → digit_value c < radix) → (digits : Text)
    → list_all class digits ≡ true → AllDigits radix digits
all_digits class radix h [] e = tt
all_digits class radix h (c ∷ more) e = (
  h c (and_parts (class c) (list_all class more) e).0,
  all_digits class radix h more
      (and_parts (class c) (list_all class more) e).1,
)

no_plus : (class : ℕ → Bool) → IsAsciiClass class → (digits : Text) → list_all class digits ≡ true → without_leading_plus digits ≡ digits
no_plus class h [] e = refl
no_plus class h (c ∷ more) e =
    let large : 47 < c = (h c (and_parts (class c) (list_all class more) e).0).0 in
    ap (λ b. drop (cond b 1 0) (c ∷ more)) (ne_eqb c 43 (λ same. let f : c ≡ 43 = same in omega arith))

-- ---- the number that they write

-- the largest number that so many hexadecimal digits write behind m
abbrev largest : ℕ → ℕ → ℕ
largest zero m = m
largest (suc k) m = largest k (m * 16 + 15)

largest_is_larger : (k n m : ℕ) → n ≤ m → n ≤ largest k m
largest_is_larger zero n m h = h
largest_is_larger (suc k) n m h = largest_is_larger k n (m * 16 + 15) (omega arith)

decimal_step : (n m d : ℕ) → n ≤ m → d < 10 → n * 10 + d ≤ m * 16 + 15
decimal_step n m d h l = omega arith

decimal_is_small : (digits : Text) (k n m : ℕ) → AllDigits 10 digits → length digits ≤ k → n ≤ m
    → digits_value_after 10 n digits ≤ largest k m
decimal_is_small [] k n m a l h = largest_is_larger k n m h
decimal_is_small (c ∷ more) zero n m a l h = absurd (omega arith)
decimal_is_small (c ∷ more) (suc k) n m a l h = decimal_is_small more k (n * 10 + digit_value c) (m * 16 + 15) a.1 (omega arith)
    (decimal_step n m (digit_value c) h a.0)

hexadecimal_step : (n m d : ℕ) → n ≤ m → d < 16 → n * 16 + d ≤ m * 16 + 15
hexadecimal_step n m d h l = omega arith

hexadecimal_is_small : (digits : Text) (k n m : ℕ) → AllDigits 16 digits → length digits ≤ k → n ≤ m
    → digits_value_after 16 n digits ≤ largest k m
hexadecimal_is_small [] k n m a l h = largest_is_larger k n m h
hexadecimal_is_small (c ∷ more) zero n m a l h = absurd (omega arith)
hexadecimal_is_small (c ∷ more) (suc k) n m a l h = hexadecimal_is_small more k (n * 16 + digit_value c) (m * 16 + 15) a.1 (omega arith)
    (hexadecimal_step n m (digit_value c) h a.0)

same_number : (radix n : ℕ) (digits : Text) → digits_value_after radix n digits ≡ fold (λ m c. m * radix + digit_value c) n digits
same_number radix n [] = refl
same_number radix n (c ∷ more) = same_number radix (n * radix + digit_value c) more

read_digits : {E : Type 0} (radix : ℕ) (digits : Text) (r : Result ℕ E) → without_leading_plus digits ≡ digits → IsNumeral radix digits
    → digits_value radix digits < 2 ^ 32 →
    ParsesUnsigned 32 radix digits r → r ≡ Ok (number radix digits)
unfolding number
read_digits radix digits (Ok n) e a l p = ap Ok (p.1 ∙ (ap (digits_value radix) e ∙ same_number radix 0 digits))
read_digits radix digits (Err x) e a l p = absurd
    (p (subst (IsNumeral radix) (sym e) a, subst (λ (ds : Text). digits_value radix ds < 2 ^ 32) (sym e) l))

abbrev bytes_are_digits : (class : ℕ → Bool) → IsAsciiClass class → (bytes : List ℕ) → IsUtf8 bytes → list_all class (chars bytes) ≡ true
    → bytes ≡ chars bytes
bytes_are_digits class h bytes u e = sym (encodes-chars bytes u) ∙ encodes-IsAscii (chars bytes) (digits_are_ascii class h (chars bytes) e)

pub reads_decimal : {E : Type 0} (bytes : List ℕ) (r : Result ℕ E) → IsUtf8 bytes → IsDigits is_ascii_digit 7 (chars bytes)
    → ParsesUnsigned 32 10 bytes r → r ≡ Ok (number 10 (chars bytes))
reads_decimal {E} bytes r u d p =
    let small : IsAsciiClass is_ascii_digit = λ c e. let s : (47 < c) × (c < 58)
    × (digit_value c < 10) = digit_is_small c e in (s.0, omega arith) in
    let digits : AllDigits 10 (chars bytes) = all_digits is_ascii_digit 10 (λ c e. (digit_is_small c e).2) (chars bytes) d.all in
    let most : digits_value 10 (chars bytes) ≤ largest 7 0 = decimal_is_small (chars bytes) 7 0 0 digits d.few (omega arith) in
    read_digits 10 (chars bytes) r (no_plus is_ascii_digit small (chars bytes) d.all) (d.some, digits) (omega arith)
    (subst (λ (bs : List ℕ). ParsesUnsigned {E = E} 32 10 bs r) (bytes_are_digits is_ascii_digit small bytes u d.all) p)

pub reads_hexadecimal : {E : Type 0} (bytes : List ℕ) (r : Result ℕ E) → IsUtf8 bytes → IsDigits is_ascii_hexdigit 6 (chars bytes)
    → ParsesUnsigned 32 16 bytes r → r ≡ Ok (number 16 (chars bytes))
reads_hexadecimal {E} bytes r u d p =
    let small : IsAsciiClass is_ascii_hexdigit = λ c e. let s : (47 < c) × (c < 128)
    × (digit_value c < 16) = hexdigit_is_small c e in (s.0, s.1) in
    let digits : AllDigits 16 (chars bytes) = all_digits is_ascii_hexdigit 16 (λ c e. (hexdigit_is_small c e).2) (chars bytes) d.all in
    let most : digits_value 16 (chars bytes) ≤ largest 6 0 = hexadecimal_is_small (chars bytes) 6 0 0 digits d.few (omega arith) in
    read_digits 16 (chars bytes) r (no_plus is_ascii_hexdigit small (chars bytes) d.all) (d.some, digits) (omega arith)
    (subst (λ (bs : List ℕ). ParsesUnsigned {E = E} 32 16 bs r) (bytes_are_digits is_ascii_hexdigit small bytes u d.all) p)

-- ---- the texts that stand round the digits

pub decimal_is : (text digits second end : Text) (out : Option Text) → Some digits ≡ is 35 text → Some second ≡ one is_ascii_digit digits
    → Some end ≡ at_most 6 (one is_ascii_digit) second →
    out ≡ is 59 end → out ≡ decimal_reference text
unfolding decimal_reference
decimal_is text digits second end out e f g h =
    then_is (is 35 then one is_ascii_digit then at_most 6 (one is_ascii_digit)) (is 59) text end out
    (then_is (is 35 then one is_ascii_digit) (at_most 6 (one is_ascii_digit)) text second (Some end)
    (then_is (is 35) (one is_ascii_digit) text digits (Some second) e f) g) h

pub hexadecimal_is : (text mark digits second end : Text) (out : Option Text) → Some mark ≡ is 35 text
    → Some digits ≡ one (one_of (codes "xX")) mark → Some second ≡ one is_ascii_hexdigit digits →
    Some end ≡ at_most 5 (one is_ascii_hexdigit) second → out ≡ is 59 end → out ≡ hexadecimal_reference text
unfolding hexadecimal_reference
hexadecimal_is text mark digits second end out d e f g h =
    then_is (is 35 then one (one_of (codes "xX")) then one is_ascii_hexdigit then at_most 5 (one is_ascii_hexdigit)) (is 59) text end out
    (then_is (is 35 then one (one_of (codes "xX")) then one is_ascii_hexdigit) (at_most 5 (one is_ascii_hexdigit)) text second (Some end)
    (then_is (is 35 then one (one_of (codes "xX"))) (one is_ascii_hexdigit) text digits (Some second)
    (then_is (is 35) (one (one_of (codes "xX"))) text mark (Some digits) d e) f) g) h

pub number_is_inside : (a b : ℕ) (text digits end rest front : Text) → Some digits ≡ is a text → Some rest ≡ is b end
    → digits ≡ front ++ end → front ≡ inside (before rest text)
number_is_inside a b text digits end rest front e f g =
    inside_is a b front rest text (is_cons a text digits e
    ∙ ap (λ more. a ∷ more) (g ∙ ap (λ more. front ++ more) (is_cons b end rest f)))

pub number_is_inside_mark : (a b : ℕ) (class : ℕ → Bool) (text mark digits end rest front : Text) → Some mark ≡ is a text
    → Some digits ≡ one class mark → Some rest ≡ is b end → digits ≡ front ++ end →
    front ≡ drop 1 (inside (before rest text))
number_is_inside_mark a b class text mark digits end rest front e h f g =
    let t : Taken class mark digits = one_gives class mark digits h in
    ap (drop 1) (inside_is a b (t.char ∷ front) rest text
    (is_cons a text mark e ∙ ap (λ more. a ∷ more) (t.split
    ∙ ap (λ more. t.char ∷ more) (g ∙ ap (λ more. front ++ more) (is_cons b end rest f)))))
