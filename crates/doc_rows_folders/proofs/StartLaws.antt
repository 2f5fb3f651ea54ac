-- Texts to look from: what comes before one is what shows a key before a text.
use Rattle.std.proofs.Common.{◌≡◌, ℕ, ◌<◌, ◌≤◌, List, [], ◌∷◌, Bool, true, false, ◌&&◌, refl, ap, sym, subst, ◌∙◌, arith, eq-eqb}
use Rattle.std.specs.Prelude.{◌==◌, if◌then◌else◌}
use Rattle.std.specs.Cmp.{nat_cmp_is, ranks}
use Rattle.std.specs.Cmp.Lexicographic.{slice_cmp}
use Rattle.std.specs.Ordering.{MatchOrdering, is_lt, nat_cmp, ordering_then}
use Rattle.std.specs.declared.cmp.Ordering.{Ordering}
use Rattle.std.specs.declared.cmp.Ordering.TheVariants.{Less, Equal, Greater}
use Rattle.std.proofs.lemmas.Bool.{and_parts, eqb-true, true≢false}
use Rattle.std.proofs.lemmas.Map.Lookups.{exact_unsigned}
use Rattle.doc_page_parts.specs.Pages.{is_empty}
use Rattle.doc_people.specs.Folders.{is_below, is_slash, key, through_slash}
use Rattle.doc_people.specs.Navigation.{is_before}
use Rattle.doc_rows_folders.specs.Starts.{end_of, ends_in_slash, start_below, start_in}

abbrev cmp : List ℕ → List ℕ → Ordering
cmp = slice_cmp nat_cmp

tied : (x y : ℕ) → x ≡ y → nat_cmp x y ≡ Equal
tied x y e = sym (nat_cmp_is x y Equal e)

same_byte : (f x : ℕ) → (f == x) ≡ true → f ≡ x
same_byte f x e = eqb-true f x e

-- one byte before both
onto : (x : ℕ) (r s : List ℕ) → is_before (x ∷ r) (x ∷ s) ≡ is_before r s
onto x r s = ap (λ o. is_lt (ordering_then o (cmp r s))) (tied x x refl)

-- the first bytes decide
by_first : (x y : ℕ) (r s : List ℕ) (o : Ordering) → nat_cmp x y ≡ o → is_before (x ∷ r) (y ∷ s) ≡ is_lt (ordering_then o (cmp r s))
by_first x y r s o e = ap (λ o. is_lt (ordering_then o (cmp r s))) e

nothing_before : (r : List ℕ) → is_before r [] ≡ false
nothing_before [] = refl
nothing_before (x ∷ r) = refl

means : (x y : ℕ) (o : Ordering) → nat_cmp x y ≡ o → MatchOrdering o (x < y) (x ≡ y) (y < x)
means x y o e = subst (λ o. MatchOrdering o (x < y) (x ≡ y) (y < x)) e (ranks x y)

-- a byte up to the slash comes before `0`, and no other does
below_next : (x : ℕ) (r : List ℕ) → x < 48 → is_before (x ∷ r) (48 ∷ []) ≡ true
below_next x r less = by_first x 48 r [] Less (sym (nat_cmp_is x 48 Less less))

from_next : (x : ℕ) (r : List ℕ) → 48 ≤ x → is_before (x ∷ r) (48 ∷ []) ≡ false
from_next x r most = by (nat_cmp x 48) refl
  where
    by : (o : Ordering) → nat_cmp x 48 ≡ o → is_before (x ∷ r) (48 ∷ []) ≡ false
    by Less e = let less : x < 48 = means x 48 Less e in absurd (omega arith)
    by Equal e = by_first x 48 r [] Equal e ∙ nothing_before r
    by Greater e = by_first x 48 r [] Greater e

-- ---- of what follows the folder

abbrev behind : ℕ → List ℕ → List ℕ
behind b rest = if is_slash b then [] else through_slash rest

abbrev start_behind : ℕ → List ℕ → List ℕ
start_behind b rest = if is_slash b then (if is_empty rest then b ∷ [] else 48 ∷ []) else b ∷ start_in rest

start_alike : (r t : List ℕ) → is_before (through_slash r) t ≡ is_before r (start_in t)
start_alike [] [] = refl
start_alike [] (b ∷ t) = sym (first (is_slash b) (is_empty t))
  where
    first : (s e : Bool) → is_before [] (if s then (if e then b ∷ [] else 48 ∷ []) else b ∷ start_in t) ≡ true
    first true true = refl
    first true false = refl
    first false e = refl
start_alike (x ∷ r) [] = refl
start_alike (x ∷ r) (b ∷ t) = by (start_alike r t) (is_slash b) refl
  where
    -- at a byte that is no slash
    same : is_before (through_slash r) t ≡ is_before r (start_in t) → (o : Ordering) → nat_cmp x b ≡ o → is_slash b ≡ false
        → is_before (x ∷ behind x r) (b ∷ t) ≡ is_before (x ∷ r) (b ∷ start_in t)
    same more Less e none = by_first x b (behind x r) t Less e ∙ sym (by_first x b r (start_in t) Less e)
    same more Greater e none = by_first x b (behind x r) t Greater e ∙ sym (by_first x b r (start_in t) Greater e)
    same more Equal e none =
        by_first x b (behind x r) t Equal e
        ∙ ap (λ s. is_before (if s then [] else through_slash r) t) (ap is_slash (exact_unsigned x b e) ∙ none)
        ∙ more ∙ sym (by_first x b r (start_in t) Equal e)

    -- at the slash that ends the text
    ends : (o : Ordering) → nat_cmp x b ≡ o → is_before (x ∷ behind x r) (b ∷ []) ≡ is_before (x ∷ r) (b ∷ [])
    ends Less e = by_first x b (behind x r) [] Less e ∙ sym (by_first x b r [] Less e)
    ends Greater e = by_first x b (behind x r) [] Greater e ∙ sym (by_first x b r [] Greater e)
    ends Equal e =
        by_first x b (behind x r) [] Equal e ∙ nothing_before (behind x r) ∙ sym (nothing_before r) ∙ sym (by_first x b r [] Equal e)

    -- at a slash with more behind it
    goes : (c : ℕ) (t : List ℕ) (o : Ordering) → nat_cmp x b ≡ o → is_slash b ≡ true
        → is_before (x ∷ behind x r) (b ∷ c ∷ t) ≡ is_before (x ∷ r) (48 ∷ [])
    goes c t Less e slashed =
        let less : x < b = means x b Less e in
        let slash : b ≡ 47 = eqb-true b 47 slashed in
        by_first x b (behind x r) (c ∷ t) Less e ∙ sym (below_next x r (omega arith))
    goes c t Greater e slashed =
        let more : b < x = means x b Greater e in
        let slash : b ≡ 47 = eqb-true b 47 slashed in
        by_first x b (behind x r) (c ∷ t) Greater e ∙ sym (from_next x r (omega arith))
    goes c t Equal e slashed =
        let slash : b ≡ 47 = eqb-true b 47 slashed in
        let same : x ≡ b = means x b Equal e in
        by_first x b (behind x r) (c ∷ t) Equal e
        ∙ ap (λ s. is_before (if s then [] else through_slash r) (c ∷ t)) (ap is_slash same ∙ slashed)
        ∙ sym (below_next x r (omega arith))

    more : (t : List ℕ) → is_slash b ≡ true → is_before (x ∷ behind x r) (b ∷ t)
        ≡ is_before (x ∷ r) (if is_empty t then b ∷ [] else 48 ∷ [])
    more [] slashed = ends (nat_cmp x b) refl
    more (c ∷ t) slashed = goes c t (nat_cmp x b) refl slashed

    by : is_before (through_slash r) t ≡ is_before r (start_in t) → (s : Bool) → is_slash b ≡ s
        → is_before (x ∷ behind x r) (b ∷ t) ≡ is_before (x ∷ r) (start_behind b t)
    by rest true slashed = more t slashed
        ∙ ap (λ s. is_before (x ∷ r) (if s then (if is_empty t then b ∷ [] else 48 ∷ []) else b ∷ start_in t)) (sym slashed)
    by rest false none = same rest (nat_cmp x b) refl none
        ∙ ap (λ s. is_before (x ∷ r) (if s then (if is_empty t then b ∷ [] else 48 ∷ []) else b ∷ start_in t)) (sym none)

-- ---- of a folder

-- a path in a folder comes before the text that its key is looked for from, where the key comes before the text
pub below_alike : (folder t q : List ℕ) → is_below folder t ≡ true → is_below folder q ≡ true
    → is_before (key folder q) t ≡ is_before q (start_below folder t)
below_alike [] t q in_t in_q = start_alike q t
below_alike (f ∷ folder) [] q in_t in_q = absurd (true≢false (sym in_t))
below_alike (f ∷ folder) (y ∷ t) [] in_t in_q = absurd (true≢false (sym in_q))
below_alike (f ∷ folder) (y ∷ t) (x ∷ q) in_t in_q =
    let first = and_parts (f == y) (is_below folder t) in_t in
    let second = and_parts (f == x) (is_below folder q) in_q in
    ap (λ z. is_before (f ∷ key folder q) (z ∷ t)) (sym (same_byte f y first.0)) ∙ onto f (key folder q) t
    ∙ below_alike folder t q first.1 second.1 ∙ sym (onto f q (start_below folder t))
    ∙ ap (λ z. is_before (z ∷ q) (f ∷ start_below folder t)) (same_byte f x second.0)

-- no text comes before one that it begins with
pub not_before_folder : (folder q : List ℕ) → is_below folder q ≡ true → is_before q folder ≡ false
not_before_folder [] q in_q = nothing_before q
not_before_folder (f ∷ folder) [] in_q = absurd (true≢false (sym in_q))
not_before_folder (f ∷ folder) (x ∷ q) in_q =
    let parts = and_parts (f == x) (is_below folder q) in_q in
    ap (λ z. is_before (z ∷ q) (f ∷ folder)) (sym (same_byte f x parts.0)) ∙ onto f q folder ∙ not_before_folder folder q parts.1

-- a key is in its folder, and is itself looked for from itself
itself : (f : ℕ) → (f == f) ≡ true
itself f = eq-eqb f f refl

pub key_is_below : (folder q : List ℕ) → is_below folder q ≡ true → is_below folder (key folder q) ≡ true
key_is_below [] q in_q = refl
key_is_below (f ∷ folder) [] in_q = absurd (true≢false (sym in_q))
key_is_below (f ∷ folder) (x ∷ q) in_q =
    ap (λ b. b && is_below folder (key folder q)) (itself f) ∙ key_is_below folder q (and_parts (f == x) (is_below folder q) in_q).1

start_of_part : (r : List ℕ) → start_in (through_slash r) ≡ through_slash r
start_of_part [] = refl
start_of_part (b ∷ r) = by (start_of_part r) (is_slash b) refl
  where
    by : start_in (through_slash r) ≡ through_slash r → (s : Bool) → is_slash b ≡ s
        → start_in (b ∷ (if s then [] else through_slash r)) ≡ b ∷ (if s then [] else through_slash r)
    by rest true e = ap (λ s. if s then b ∷ [] else b ∷ []) e
    by rest false e = ap (λ s. if s then (if is_empty (through_slash r) then b ∷ [] else 48 ∷ []) else b ∷ start_in (through_slash r)) e
        ∙ ap (λ t. b ∷ t) rest

pub start_of_key : (folder q : List ℕ) → is_below folder q ≡ true → start_below folder (key folder q) ≡ key folder q
start_of_key [] q in_q = start_of_part q
start_of_key (f ∷ folder) [] in_q = absurd (true≢false (sym in_q))
start_of_key (f ∷ folder) (x ∷ q) in_q =
    ap (λ t. f ∷ t) (start_of_key folder q (and_parts (f == x) (is_below folder q) in_q).1)

-- a path doesn't come before its key
part_first : (r : List ℕ) → is_before r (through_slash r) ≡ false
part_first [] = refl
part_first (b ∷ r) = onto b r (behind b r) ∙ by (part_first r) (is_slash b)
  where
    by : is_before r (through_slash r) ≡ false → (s : Bool) → is_before r (if s then [] else through_slash r) ≡ false
    by rest true = nothing_before r
    by rest false = rest

pub key_first : (folder q : List ℕ) → is_below folder q ≡ true → is_before q (key folder q) ≡ false
key_first [] q in_q = part_first q
key_first (f ∷ folder) [] in_q = absurd (true≢false (sym in_q))
key_first (f ∷ folder) (x ∷ q) in_q =
    let parts = and_parts (f == x) (is_below folder q) in_q in
    ap (λ z. is_before (z ∷ q) (f ∷ key folder q)) (sym (same_byte f x parts.0)) ∙ onto f q (key folder q) ∙ key_first folder q parts.1

-- what stands between two of a folder is in it
pub between : (folder q s p : List ℕ) → is_below folder q ≡ true → is_below folder s ≡ true → is_before p q ≡ false → is_before s p ≡ false
    → is_below folder p ≡ true
between [] q s p in_q in_s low high = refl
between (f ∷ folder) [] s p in_q in_s low high = absurd (true≢false (sym in_q))
between (f ∷ folder) (x ∷ q) [] p in_q in_s low high = absurd (true≢false (sym in_s))
between (f ∷ folder) (x ∷ q) (y ∷ s) [] in_q in_s low high = absurd (true≢false low)
between (f ∷ folder) (x ∷ q) (y ∷ s) (z ∷ p) in_q in_s low high =
    let first = and_parts (f == x) (is_below folder q) in_q in
    let second = and_parts (f == y) (is_below folder s) in_s in
    let low_f : is_before (z ∷ p) (f ∷ q) ≡ false = ap (λ b. is_before (z ∷ p) (b ∷ q)) (same_byte f x first.0) ∙ low in
    let high_f : is_before (f ∷ s) (z ∷ p) ≡ false = ap (λ b. is_before (b ∷ s) (z ∷ p)) (same_byte f y second.0) ∙ high in
    by low_f high_f (λ low high. between folder q s p first.1 second.1 low high) (nat_cmp z f) refl
  where
    by : is_before (z ∷ p) (f ∷ q) ≡ false → is_before (f ∷ s) (z ∷ p) ≡ false
        → (is_before p q ≡ false → is_before s p ≡ false → is_below folder p ≡ true) → (o : Ordering) → nat_cmp z f ≡ o
        → is_below (f ∷ folder) (z ∷ p) ≡ true
    by low high rest Less e = absurd (true≢false (sym (by_first z f p q Less e) ∙ low))
    by low high rest Greater e =
        let more : f < z = means z f Greater e in
        absurd (true≢false (sym (by_first f z s p Less (sym (nat_cmp_is f z Less more))) ∙ high))
    by low high rest Equal e =
        let same : z ≡ f = exact_unsigned z f e in
        ap (λ b. b && is_below folder p) (ap (λ b. f == b) same ∙ itself f)
        ∙ rest (sym (by_first z f p q Equal e) ∙ low)
        (sym (onto f s p) ∙ ap (λ b. is_before (f ∷ s) (b ∷ p)) (sym same) ∙ high)

-- ---- the end of a folder

pub before_end : (folder q : List ℕ) → ends_in_slash folder ≡ true → is_below folder q ≡ true → is_before q (end_of folder) ≡ true
before_end [] q ends in_q = absurd (true≢false (sym ends))
before_end (f ∷ folder) [] ends in_q = absurd (true≢false (sym in_q))
before_end (f ∷ []) (x ∷ q) ends in_q =
    let parts = and_parts (f == x) true in_q in
    let slash : f ≡ 47 = eqb-true f 47 ends in
    let same : f ≡ x = same_byte f x parts.0 in
    below_next x q (omega arith)
before_end (f ∷ g ∷ folder) (x ∷ q) ends in_q =
    let parts = and_parts (f == x) (is_below (g ∷ folder) q) in_q in
    ap (λ z. is_before (z ∷ q) (f ∷ end_of (g ∷ folder))) (sym (same_byte f x parts.0)) ∙ onto f q (end_of (g ∷ folder))
    ∙ before_end (g ∷ folder) q ends parts.1

-- what stands between one of the folder and its end is in it
pub up_to_end : (folder q p : List ℕ) → ends_in_slash folder ≡ true → is_below folder q ≡ true → is_before p q ≡ false
    → is_before p (end_of folder) ≡ true → is_below folder p ≡ true
up_to_end [] q p ends in_q low high = refl
up_to_end (f ∷ folder) [] p ends in_q low high = absurd (true≢false (sym in_q))
up_to_end (f ∷ []) (x ∷ q) [] ends in_q low high = absurd (true≢false low)
up_to_end (f ∷ g ∷ folder) (x ∷ q) [] ends in_q low high = absurd (true≢false low)
up_to_end (f ∷ []) (x ∷ q) (z ∷ p) ends in_q low high = by (nat_cmp z x) refl
  where
    slash : f ≡ 47
    slash = eqb-true f 47 ends

    same : f ≡ x
    same = same_byte f x (and_parts (f == x) true in_q).0

    by : (o : Ordering) → nat_cmp z x ≡ o → is_below (f ∷ []) (z ∷ p) ≡ true
    by Less e = absurd (true≢false (sym (by_first z x p q Less e) ∙ low))
    by Equal e = ap (λ b. b && true) (ap (λ b. f == b) (exact_unsigned z x e ∙ sym same) ∙ itself f)
    by Greater e =
        let more : x < z = means z x Greater e in
        absurd (true≢false (sym high ∙ from_next z p (omega (arith, slash, same))))
up_to_end (f ∷ g ∷ folder) (x ∷ q) (z ∷ p) ends in_q low high =
    let parts = and_parts (f == x) (is_below (g ∷ folder) q) in_q in
    by (ap (λ b. is_before (z ∷ p) (b ∷ q)) (same_byte f x parts.0) ∙ low)
    (λ low high. up_to_end (g ∷ folder) q p ends parts.1 low high) (nat_cmp z f) refl
  where
    by : is_before (z ∷ p) (f ∷ q) ≡ false
        → (is_before p q ≡ false → is_before p (end_of (g ∷ folder)) ≡ true → is_below (g ∷ folder) p ≡ true)
        → (o : Ordering) → nat_cmp z f ≡ o
        → is_below (f ∷ g ∷ folder) (z ∷ p) ≡ true
    by low rest Less e = absurd (true≢false (sym (by_first z f p q Less e) ∙ low))
    by low rest Greater e = absurd (true≢false (sym high ∙ by_first z f p (end_of (g ∷ folder)) Greater e))
    by low rest Equal e =
        ap (λ b. b && is_below (g ∷ folder) p) (ap (λ b. f == b) (exact_unsigned z f e) ∙ itself f)
        ∙ rest (sym (by_first z f p q Equal e) ∙ low)
        (sym (by_first z f p (end_of (g ∷ folder)) Equal e) ∙ high)
