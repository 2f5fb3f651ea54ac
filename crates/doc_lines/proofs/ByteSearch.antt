-- A search over the bytes of a text for ASCII characters is one over its characters.
use Rattle.std.proofs.Common.{◌≡◌, ℕ, zero, suc, ◌+◌, ◌<◌, ◌≤◌, not, ◌&&◌, Bool, true, false, List, [], ◌∷◌, ◌++◌, length, get_or, take}
use Rattle.std.proofs.Common.{drop, chars, refl, sym, ap, ◌∙◌, subst, arith, append-nil}
use Rattle.std.specs.List.{list_all}
use Rattle.std.specs.Str.{IsUtf8, IsCharBoundary, IsAscii, encode_utf8_all}
use Rattle.std.proofs.lemmas.Bool.{and_parts}
use Rattle.std.proofs.lemmas.List.{get_or-take, length-take, take-append-drop, drop_more, take_all}
use Rattle.std.proofs.lemmas.Grind.{get_or_default_zero}
use Rattle.std.proofs.lemmas.List.Folds.{list_all-append}
use Rattle.std.proofs.lemmas.List.Sums.{list_all-from_AllPass}
use Rattle.std.proofs.lemmas.Str.{encode_ascii, encodes-append, encodes-IsAscii, encodes-chars, chars-append, chars-nil, chars_past_char}
use Rattle.std.proofs.lemmas.Str.{IsUtf8-take, IsUtf8-drop, IsCharBoundary-before_ascii}
use Rattle.doc_rules.specs.Characters.{Text}
use Rattle.doc_rules.specs.Rests.{IsRest}
use Rattle.doc_lines.specs.RestSteps.{IsAsciiClass, IsCutBefore, begins_in}

one_is_ascii : (c : ℕ) → c < 128 → IsAscii (c ∷ [])
one_is_ascii c h zero = h
one_is_ascii c h (suc i) = omega arith

-- a character whose bytes are all outside a class of ASCII characters is outside it
one_outside : (class : ℕ → Bool) → IsAsciiClass class → (c : ℕ) → list_all (λ b. not (class b)) (encode_utf8_all (c ∷ [])) ≡ true
    → not (class c) ≡ true
one_outside class only c all =
    elim (class c) as (λ b. class c ≡ b → not b ≡ true) [
      | true ↦ λ e.
          let same = encodes-IsAscii (c ∷ []) (one_is_ascii c (only c e)) in
          let one : (not (class c) && true) ≡ true = ap (list_all (λ b. not (class b))) (sym same) ∙ all in
          ap not (sym e) ∙ (and_parts (not (class c)) true one).0
      | false ↦ λ e. refl
    ] refl

-- characters whose bytes are all outside a class of ASCII characters are outside it
pub outside : (class : ℕ → Bool) → IsAsciiClass class → (cs : Text) → list_all (λ b. not (class b)) (encode_utf8_all cs) ≡ true
    → list_all (λ c. not (class c)) cs ≡ true
outside class only [] all = refl
outside class only (c ∷ cs) all =
    let test : ℕ → Bool = λ b. not (class b) in
    let parts = and_parts _ _ (sym (list_all-append test (encode_utf8_all (c ∷ [])) (encode_utf8_all cs))
    ∙ ap (list_all test) (sym (encodes-append (c ∷ []) cs)) ∙ all) in
    rw (one_outside class only c parts.0) (outside class only cs parts.1)

-- ---- a cut before a byte of the class

-- no byte before this place is in the class
abbrev pub IsMissedBefore : (ℕ → Bool) → List ℕ → ℕ → Type 0
IsMissedBefore class bs n = (k : ℕ) → k < n → class (get_or bs k 0) ≡ false

front_outside : (class : ℕ → Bool) (bs : List ℕ) (n : ℕ) → n ≤ length bs → IsMissedBefore class bs n
    → list_all (λ b. not (class b)) (take n bs) ≡ true
front_outside class bs n within missed =
    list_all-from_AllPass (λ b. not (class b)) (take n bs) (λ k d less.
    let fits : k < n = omega (arith, length-take n bs) in
    let here : get_or (take n bs) k d ≡ get_or bs k 0 = get_or-take n bs k d fits ∙ get_or_default_zero bs k d (omega arith) in
    ap (λ b. not (class b)) here ∙ ap not (missed k fits))

chars_cut : (bs : List ℕ) (n : ℕ) → IsUtf8 bs → IsCharBoundary bs n → chars bs ≡ chars (take n bs) ++ chars (drop n bs)
chars_cut bs n utf8 at = ap chars (sym (take-append-drop n bs)) ∙ chars-append (take n bs) (drop n bs) (IsUtf8-take bs n utf8 at)

chars_outside : (class : ℕ → Bool) → IsAsciiClass class → (bs : List ℕ) (n : ℕ) → IsUtf8 bs → IsCharBoundary bs n → n ≤ length bs
    → IsMissedBefore class bs n →
    list_all (λ c. not (class c)) (chars (take n bs)) ≡ true
chars_outside class only bs n utf8 at within missed =
    outside class only (chars (take n bs)) (ap (list_all (λ b. not (class b))) (encodes-chars (take n bs) (IsUtf8-take bs n utf8 at))
    ∙ front_outside class bs n within missed)

-- the search stopped at a byte of the class
pub stops_at : (class : ℕ → Bool) → IsAsciiClass class → (bs rest : List ℕ) (n : ℕ) → IsUtf8 bs → n < length bs → IsMissedBefore class bs n
    → class (get_or bs n 0) ≡ true → rest ≡ drop n bs →
    IsCutBefore class (chars bs) (chars rest)
stops_at class only bs rest n utf8 within missed here e =
    let at : IsCharBoundary bs n = IsCharBoundary-before_ascii bs n within (only _ here) in
    let b : ℕ = get_or bs n 0 in
    let bytes : rest ≡ b ∷ drop (n + 1) bs = e ∙ drop_more bs n 0 within in
    let utf8_rest : IsUtf8 rest = subst IsUtf8 (sym e) (IsUtf8-drop bs n utf8 at) in
    let spelt : chars rest ≡ b ∷ chars (drop (n + 1) bs) = chars_past_char rest (drop (n + 1) bs) b utf8_rest (bytes
    ∙ ap (λ f. f ++ drop (n + 1) bs) (sym (encode_ascii b (only b here)))) in
    record {
      front = chars (take n bs);
      split = chars_cut bs n utf8 at ∙ ap (λ (r : List ℕ). chars (take n bs) ++ chars r) (sym e);
      outside = chars_outside class only bs n utf8 at (omega arith) missed;
      stop = ap (begins_in class) spelt ∙ here;
    }

-- the search met no byte of the class
pub stops_nowhere : (class : ℕ → Bool) → IsAsciiClass class → (bs : List ℕ) (n : ℕ) → IsUtf8 bs → length bs ≤ n → IsMissedBefore class bs n
    → IsCutBefore class (chars bs) (chars [])
stops_nowhere class only bs n utf8 within missed =
    let test : ℕ → Bool = λ b. not (class b) in
    let bytes : list_all test bs ≡ true = ap (list_all test) (sym (take_all (length bs) bs (omega arith)))
    ∙ front_outside class bs (length bs) (omega arith) (λ k less. missed k (omega arith)) in
    record {
      front = chars bs;
      split = sym (append-nil (chars bs)) ∙ ap (λ r. chars bs ++ r) (sym chars-nil);
      outside = outside class only (chars bs) (ap (list_all test) (encodes-chars bs utf8) ∙ bytes);
      stop = ap (begins_in class) chars-nil;
    }

pub rest_at : (bs rest : List ℕ) (n : ℕ) → IsUtf8 bs → n < length bs → get_or bs n 0 < 128 → rest ≡ drop n bs
    → IsRest (chars rest) (chars bs)
rest_at bs rest n utf8 within ascii e =
    record {
      front = chars (take n bs);
      split = chars_cut bs n utf8 (IsCharBoundary-before_ascii bs n within ascii)
          ∙ ap (λ r. chars (take n bs) ++ chars r) (sym e);
    }
