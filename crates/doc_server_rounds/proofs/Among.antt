-- Numbers among others.
use Rattle.std.proofs.Common.{◌≡◌, ◌<◌, ℕ, zero, suc, List, [], ◌∷◌, ◌++◌, Bool, true, false, T, length, refl, sym, ap, ◌∙◌, subst, ◌==◌, arith}
use Rattle.std.proofs.Math.Facts.{eqb_yes}
use Rattle.std.specs.Prelude.{◌||◌, Contains, slice_index_or}
use Rattle.doc_page_parts.proofs.Bools.{clash, or_first, or_second, or_true}
use Rattle.doc_server_rounds.specs.Dropped.{is_among}

itself : (n : ℕ) → (n == n) ≡ true
itself n = grind (arith)

among_at : (ids : List ℕ) (n k : ℕ) → k < length ids → slice_index_or ids k n ≡ n → is_among n ids ≡ true
among_at [] n k within at = absurd (omega (arith, within))
among_at (x ∷ ids) n zero within at = ap (λ t. t || is_among n ids) (ap (λ m. n == m) at ∙ itself n)
among_at (x ∷ ids) n (suc k) within at =
    ap (λ t. (n == x) || t) (among_at ids n k (omega (arith, within)) at) ∙ or_true (n == x)

-- a number among these isn't one that is none of them
pub apart : (ids : List ℕ) (c n : ℕ) → is_among c ids ≡ false → Contains ids n → (c == n) ≡ false
apart ids c n out among = by (c == n) refl
  where
    by : (t : Bool) → (c == n) ≡ t → (c == n) ≡ false
    by true is =
        let same : c ≡ n = eqb_yes (subst T (sym is) tt) in
        absurd (clash (is_among c ids) (ap (λ m. is_among m ids) same ∙ among_at ids n among.0 among.1 among.2) out)
    by false is = is

or_assoc : (a b c : Bool) → ((a || b) || c) ≡ (a || (b || c))
or_assoc true b c = refl
or_assoc false b c = refl

-- among two lists
pub among_append : (c : ℕ) (xs ys : List ℕ) → is_among c (xs ++ ys) ≡ (is_among c xs || is_among c ys)
among_append c [] ys = refl
among_append c (x ∷ xs) ys =
    ap (λ t. (c == x) || t) (among_append c xs ys) ∙ sym (or_assoc (c == x) (is_among c xs) (is_among c ys))

pub out_left : (c : ℕ) (xs ys : List ℕ) → is_among c (xs ++ ys) ≡ false → is_among c xs ≡ false
out_left c xs ys out = or_first (is_among c xs) (is_among c ys) (sym (among_append c xs ys) ∙ out)

pub out_right : (c n : ℕ) (xs : List ℕ) → is_among c (xs ++ n ∷ []) ≡ false → (c == n) ≡ false
out_right c n xs out =
    or_first (c == n) false (or_second (is_among c xs) (is_among c (n ∷ [])) (sym (among_append c xs (n ∷ [])) ∙ out))
