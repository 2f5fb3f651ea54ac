-- Where a text first has a needle.
use Rattle.std.proofs.Common.{◌≡◌, ℕ, suc, zero, ◌+◌, ◌-◌, ◌<◌, ◌≤◌, Bool, true, false, List, [], ◌∷◌, ◌++◌, Option, Some, None, cond}
use Rattle.std.proofs.Common.{length, take, drop, get_or, refl, sym, ap, subst, ◌∙◌, arith, nat_eq}
use Rattle.std.specs.Prelude.{⊤, nat_le}
use Rattle.std.specs.Cmp.Lexicographic.{pointwise}
use Rattle.std.specs.List.{starts_with}
use Rattle.std.proofs.lemmas.Bool.{and_parts}
use Rattle.std.proofs.Math.Seq.{take-append-add}
use Rattle.std.proofs.lemmas.List.{drop_more, length-append, take-append-le, drop-append-le, take_all, append-nil}
use Rattle.doc_http_bodies.specs.Places.{blank_line, place_of, behind, lines_len, IsSearched}

miss_at : (needle : List ℕ) (b : ℕ) (rest : List ℕ) → starts_with nat_eq (b ∷ rest) needle ≡ false
    → place_of needle (b ∷ rest) ≡ behind 1 (place_of needle rest)
miss_at needle b rest miss = ap (λ x. cond x (Some 0) (behind 1 (place_of needle rest))) miss

behind_step : (i : ℕ) (found : Option ℕ) → behind i (behind 1 found) ≡ behind (i + 1) found
behind_step i None = refl
behind_step i (Some n) = ap Some (omega arith)

-- none begins at i
pub place_miss : (needle text : List ℕ) (i : ℕ) → i < length text → starts_with nat_eq (drop i text) needle ≡ false
    → IsSearched needle i text → IsSearched needle (i + 1) text
place_miss needle text i inside miss so_far =
    let split = drop_more text i 0 inside in
    let next = subst (λ t. starts_with nat_eq t needle ≡ false → place_of needle t ≡ behind 1 (place_of needle (drop (i + 1) text)))
    (sym split) (miss_at needle (get_or text i 0) (drop (i + 1) text)) miss in
    (omega arith, so_far.1 ∙ ap (behind i) next ∙ behind_step i _)

-- what begins with the needle is as long
pub at_least : (needle text : List ℕ) → starts_with nat_eq text needle ≡ true → length needle ≤ length text
at_least [] text hit = omega arith
at_least (a ∷ needle) [] hit = grind (arith)
at_least (a ∷ needle) (b ∷ text) hit =
    let both = and_parts (nat_eq a b) _ hit in
    let rest = at_least needle text both.1 in
    omega arith

-- the second begins with the first
abbrev pub Grows : List ℕ → List ℕ → Type 0
Grows x y = (m : List ℕ) × (y ≡ x ++ m)

pub longer : (x y : List ℕ) → Grows x y → length x ≤ length y
longer x y (m, e) = rw e (omega (arith, length-append x m))

pub take_same : (n : ℕ) (x y : List ℕ) → n ≤ length x → Grows x y → take n y ≡ take n x
take_same n x y le (m, e) = rw e (take-append-le n x m le)

pub take_grows : (n : ℕ) (x y : List ℕ) → Grows x y → Grows (take n x) (take n y)
take_grows n x y (m, e) = by_test (nat_le n (length x)) refl
  where
    by_test : (t : Bool) → nat_le n (length x) ≡ t → Grows (take n x) (take n y)
    by_test true is = ([], take_same n x y (grind (arith)) (m, e) ∙ sym (append-nil (take n x)))
    by_test false is =
        let le : length x ≤ n = grind (arith) in
        let split : n ≡ length x + (n - length x) = omega arith in
        (take (n - length x) m, rw (e, take_all n x le) (ap (λ k. take k (x ++ m)) split ∙ take-append-add x m (n - length x)))

pub drop_grows : (n : ℕ) (x y : List ℕ) → n ≤ length x → Grows x y → Grows (drop n x) (drop n y)
drop_grows n x y le (m, e) = (m, rw e (drop-append-le n x m le))

pub starts_same : (needle x y : List ℕ) → length needle ≤ length x → Grows x y → starts_with nat_eq y needle ≡ starts_with nat_eq x needle
starts_same needle x y le g = ap (λ z. pointwise nat_eq needle z) (take_same (length needle) x y le g)

-- the needle lies in so many bytes
abbrev pub Within : ℕ → ℕ → Option ℕ → Type 0
Within more len None = ⊤
Within more len (Some place) = place + more ≤ len

behind_within : (more len : ℕ) (o : Option ℕ) → Within more len o → Within more (suc len) (behind 1 o)
behind_within more len None h = tt
behind_within more len (Some n) h = omega arith

pub place_within : (needle text : List ℕ) → Within (length needle) (length text) (place_of needle text)
place_within needle [] = tt
place_within needle (b ∷ rest) = by_test (place_within needle rest) (starts_with nat_eq (b ∷ rest) needle) refl
  where
    by_test : Within (length needle) (length rest) (place_of needle rest) → (t : Bool) → starts_with nat_eq (b ∷ rest) needle ≡ t
        → Within (length needle) (length (b ∷ rest)) (cond t (Some 0) (behind 1 (place_of needle rest)))
    by_test h true hit = let le = at_least needle (b ∷ rest) hit in omega arith
    by_test h false miss = behind_within (length needle) (length rest) (place_of needle rest) h

-- what was found is found again
abbrev pub Stays : Option ℕ → Option ℕ → Type 0
Stays None y = ⊤
Stays (Some n) y = y ≡ Some n

pub behind_stays : (n : ℕ) (o p : Option ℕ) → Stays o p → Stays (behind n o) (behind n p)
behind_stays n None p h = tt
behind_stays n (Some k) p h = ap (behind n) h

pub place_stays : (needle x m : List ℕ) → Stays (place_of needle x) (place_of needle (x ++ m))
place_stays needle [] m = tt
place_stays needle (b ∷ rest) m = by_test (place_stays needle rest m) (starts_with nat_eq (b ∷ rest) needle) refl
  where
    on : (o : Option ℕ) → place_of needle rest ≡ o → starts_with nat_eq (b ∷ rest) needle ≡ false → Stays o (place_of needle (rest ++ m))
        → Stays (behind 1 o) (place_of needle (b ∷ (rest ++ m)))
    on None is miss h = tt
    on (Some n) is miss h =
        let P : Option ℕ → Type 0 = λ o. Within (length needle) (length rest) o in
        let within : n + length needle ≤ length rest = subst P is (place_within needle rest) in
        ap (λ t. cond t (Some 0) (behind 1 (place_of needle (rest ++ m))))
        (starts_same needle (b ∷ rest) (b ∷ (rest ++ m)) (omega arith) (m, refl) ∙ miss) ∙ ap (behind 1) h

    by_test : Stays (place_of needle rest) (place_of needle (rest ++ m)) → (t : Bool) → starts_with nat_eq (b ∷ rest) needle ≡ t
        → Stays (cond t (Some 0) (behind 1 (place_of needle rest))) (place_of needle (b ∷ (rest ++ m)))
    by_test h true hit = ap (λ t. cond t (Some 0) (behind 1 (place_of needle (rest ++ m))))
        (starts_same needle (b ∷ rest) (b ∷ (rest ++ m)) (at_least needle (b ∷ rest) hit) (m, refl) ∙ hit)
    by_test h false miss = on (place_of needle rest) refl miss h

pub lines_stay : (x more : List ℕ) → Stays (lines_len x) (lines_len (x ++ more))
lines_stay x more = behind_stays 4 (place_of blank_line x) (place_of blank_line (x ++ more)) (place_stays blank_line x more)

pub place_grows : (needle x y : List ℕ) → Grows x y → Stays (place_of needle x) (place_of needle y)
place_grows needle x y (m, e) = subst (λ z. Stays (place_of needle x) (place_of needle z)) (sym e) (place_stays needle x m)

pub behind_none : (k : ℕ) (o : Option ℕ) → behind k o ≡ None → o ≡ None
behind_none k None h = refl
behind_none k (Some n) h = absurd cc

-- where none was found, the first bytes were searched, whatever follows
pub searched_more : (needle text more : List ℕ) (k : ℕ) → place_of needle text ≡ None → k ≤ length text + 1 - length needle
    → k ≤ length text → IsSearched needle k (text ++ more)
searched_more needle text more zero none fits inside = (omega arith, refl_behind (place_of needle (text ++ more)))
  where
    refl_behind : (o : Option ℕ) → o ≡ behind 0 o
    refl_behind None = refl
    refl_behind (Some n) = ap Some (omega arith)
searched_more needle [] more (suc k) none fits inside = absurd (omega arith)
searched_more needle (b ∷ rest) more (suc k) none fits inside = by_test (starts_with nat_eq (b ∷ rest) needle) refl none
    (λ absent. searched_more needle rest more k absent (omega arith) (omega arith))
  where
    behind_swap : (o : Option ℕ) → behind 1 (behind k o) ≡ behind (suc k) o
    behind_swap None = refl
    behind_swap (Some n) = ap Some (omega arith)

    by_test : (t : Bool) → starts_with nat_eq (b ∷ rest) needle ≡ t → cond t (Some 0) (behind 1 (place_of needle rest)) ≡ None
        → (place_of needle rest ≡ None → IsSearched needle k (rest ++ more)) → IsSearched needle (suc k) (b ∷ (rest ++ more))
    by_test true hit absent further = absurd cc
    by_test false miss absent further =
        let left : IsSearched needle k (rest ++ more) = further (behind_none 1 (place_of needle rest) absent) in
        let still = starts_same needle (b ∷ rest) (b ∷ (rest ++ more)) (omega arith) (more, refl) ∙ miss in
        (omega (arith, left.0), miss_at needle b (rest ++ more) still ∙ ap (behind 1) left.1 ∙ behind_swap _)

-- nothing was searched
pub searched_none : (needle text : List ℕ) → IsSearched needle 0 text
searched_none needle text = (omega arith, by_place (place_of needle text))
  where
    by_place : (o : Option ℕ) → o ≡ behind 0 o
    by_place None = refl
    by_place (Some n) = ap Some (omega arith)
