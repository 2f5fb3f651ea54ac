-- Steps along texts in order, from a text on and back from one.
use Rattle.std.proofs.Common.{◌≡◌, ℕ, zero, suc, ◌+◌, ◌-◌, ◌<◌, ◌≤◌, List, [], ◌∷◌, ◌++◌, length, take, drop, reverse, Bool, true, false, cond, not, ◌&&◌}
use Rattle.std.proofs.Common.{refl, ap, sym, subst, ◌∙◌, arith, append_assoc, append-nil, length-append}
use Rattle.std.specs.Prelude.{Option, Some, None}
use Rattle.std.specs.Cmp.{nat_cmp_is, ranks}
use Rattle.std.specs.Cmp.Lexicographic.{slice_cmp}
use Rattle.std.specs.List.{AllByRecursion, last_or}
use Rattle.std.specs.List.Sorted.{IsStrictlySortedBy}
use Rattle.std.specs.Ordering.{MatchOrdering, is_lt, nat_cmp, ordering_then}
use Rattle.std.specs.declared.cmp.Ordering.{Ordering}
use Rattle.std.specs.declared.cmp.Ordering.TheVariants.{Less, Equal, Greater}
use Rattle.std.proofs.lemmas.Bool.{true≢false}
use Rattle.std.proofs.lemmas.Grind.{common_steps}
use Rattle.std.proofs.lemmas.List.{reverse-append}
use Rattle.std.proofs.lemmas.Option.{none-some, same_Some}
use Rattle.doc_page_parts.proofs.Bools.{clash}
use Rattle.doc_people.specs.Navigation.{is_before, last_ones}
use Rattle.doc_rows.specs.Looks.{before_text, first_from, first_of, from_text, last_before, last_of}
use Rattle.doc_rows.proofs.LookLaws.{IsFirst, IsLast, at_most_trans, before_trans, first_is_first, is_from, is_one, is_short, last_is_last, neither, not_after}
use Rattle.doc_rows.proofs.LookLaws.{either_true, not_itself, split_and}
use Rattle.doc_store_readers.proofs.KeySteps.{same_key, same_from}

abbrev cmp : List ℕ → List ℕ → Ordering
cmp = slice_cmp nat_cmp

by_first : (x y : ℕ) (r s : List ℕ) (o : Ordering) → nat_cmp x y ≡ o → is_before (x ∷ r) (y ∷ s) ≡ is_lt (ordering_then o (cmp r s))
by_first x y r s o e = ap (λ o. is_lt (ordering_then o (cmp r s))) e

pub nothing_before : (r : List ℕ) → is_before r [] ≡ false
nothing_before [] = refl
nothing_before (x ∷ r) = refl

means : (x y : ℕ) (o : Ordering) → nat_cmp x y ≡ o → MatchOrdering o (x < y) (x ≡ y) (y < x)
means x y o e = subst (λ o. MatchOrdering o (x < y) (x ≡ y) (y < x)) e (ranks x y)

-- ---- the text right behind another

abbrev pub next_text : List ℕ → List ℕ
next_text x = x ++ 0 ∷ []

next_behind : (x : List ℕ) → is_before x (next_text x) ≡ true
next_behind [] = refl
next_behind (b ∷ x) = by_first b b x (next_text x) Equal (sym (nat_cmp_is b b Equal refl)) ∙ next_behind x

-- nothing stands between
none_between : (x y : List ℕ) → is_before x y ≡ true → is_before y (next_text x) ≡ false
none_between [] [] e = absurd (true≢false (sym e))
none_between [] (c ∷ y) e = by (nat_cmp c 0) refl
  where
    by : (o : Ordering) → nat_cmp c 0 ≡ o → is_before (c ∷ y) (0 ∷ []) ≡ false
    by Less f = let less : c < 0 = means c 0 Less f in absurd (omega arith)
    by Equal f = by_first c 0 y [] Equal f ∙ nothing_before y
    by Greater f = by_first c 0 y [] Greater f
none_between (b ∷ x) [] e = absurd (true≢false (sym e))
none_between (b ∷ x) (c ∷ y) e = by (none_between x y) (nat_cmp c b) refl
  where
    by : (is_before x y ≡ true → is_before y (next_text x) ≡ false) → (o : Ordering) → nat_cmp c b ≡ o
        → is_before (c ∷ y) (b ∷ next_text x) ≡ false
    by rest Less f =
        let less : c < b = means c b Less f in
        absurd (true≢false (sym e ∙ by_first b c x y Greater (sym (nat_cmp_is b c Greater less))))
    by rest Equal f =
        by_first c b y (next_text x) Equal f
        ∙ rest (sym (by_first b c x y Equal (sym (nat_cmp_is b c Equal (sym (means c b Equal f))))) ∙ e)
    by rest Greater f = by_first c b y (next_text x) Greater f

-- ---- texts of which all pass a test, or none does

le_then_less : (k x t : List ℕ) → is_before x k ≡ false → is_before x t ≡ true → is_before k t ≡ true
le_then_less k x t e f = by (is_before k x) refl
  where
    by : (b : Bool) → is_before k x ≡ b → is_before k t ≡ true
    by true g = before_trans k x t g f
    by false g = ap (λ z. is_before z t) (neither k x g e) ∙ f

all_from : (t : List ℕ) (xs : List (List ℕ)) → AllByRecursion (λ y. is_before y t ≡ false) xs → from_text t xs ≡ xs
all_from t [] all = refl
all_from t (x ∷ xs) all =
    ap (λ b. cond (not b) (x ∷ from_text t xs) (from_text t xs)) all.0 ∙ ap (λ ys. x ∷ ys) (all_from t xs all.1)

none_before : (t : List ℕ) (xs : List (List ℕ)) → AllByRecursion (λ y. is_before y t ≡ false) xs → before_text t xs ≡ []
none_before t [] all = refl
none_before t (x ∷ xs) all = ap (λ b. cond b (x ∷ before_text t xs) (before_text t xs)) all.0 ∙ none_before t xs all.1

module _ (x : List ℕ) where
  behind : (t : List ℕ) → is_before x t ≡ false → (xs : List (List ℕ)) → AllByRecursion (λ y. cmp x y ≡ Less) xs
      → AllByRecursion (λ y. is_before y t ≡ false) xs
  behind t most [] all = tt
  behind t most (y ∷ xs) all = (at_most_trans t x y most (not_after x y (ap is_lt all.0)), behind t most xs all.1)

  behind_next : (xs : List (List ℕ)) → AllByRecursion (λ y. cmp x y ≡ Less) xs → AllByRecursion (λ y. is_before y (next_text x) ≡ false) xs
  behind_next [] all = tt
  behind_next (y ∷ xs) all = (none_between x y (ap is_lt all.0), behind_next xs all.1)

-- ---- one step

pub from_none : (t : List ℕ) (ks : List (List ℕ)) → first_from t ks ≡ None → from_text t ks ≡ []
from_none t ks e = by (from_text t ks) e
  where
    by : (ys : List (List ℕ)) → first_of ys ≡ None → ys ≡ []
    by [] e = refl
    by (y ∷ ys) e = absurd (none-some y (sym e))

some_last : {X : Type 0} (x : X) (ys : List X) → last_or (Some x) ys ≡ None → ⊥
some_last x [] e = none-some x (sym e)
some_last x (y ∷ ys) e = some_last y ys e

pub before_none : (t : List ℕ) (ks : List (List ℕ)) → last_before t ks ≡ None → before_text t ks ≡ []
before_none t ks e = by (before_text t ks) e
  where
    by : (ys : List (List ℕ)) → last_of ys ≡ None → ys ≡ []
    by [] e = refl
    by (y ∷ ys) e = absurd (some_last y ys e)

found_first : (t : List ℕ) (ks : List (List ℕ)) → IsStrictlySortedBy (slice_cmp nat_cmp) ks → (k : List ℕ) → first_from t ks ≡ Some k
    → (is_one ks k && is_from t k) ≡ true
found_first t ks sorted k e = (subst (IsFirst (λ q. is_one ks q && is_from t q)) e (first_is_first t ks sorted)).0

found_last : (t : List ℕ) (ks : List (List ℕ)) → IsStrictlySortedBy (slice_cmp nat_cmp) ks → (k : List ℕ) → last_before t ks ≡ Some k
    → (is_one ks k && is_short t k) ≡ true
found_last t ks sorted k e = (subst (IsLast (λ q. is_one ks q && is_short t q)) e (last_is_last t ks sorted)).0

not_true : (b : Bool) → not b ≡ true → b ≡ false
not_true true e = sym e
not_true false e = refl

true_by : (b : Bool) → (b ≡ false → ⊥) → b ≡ true
true_by true f = refl
true_by false f = absurd (f refl)

less_than_found : (x t k : List ℕ) → is_before x t ≡ true → (a : Bool) → (a && is_from t k) ≡ true → is_before x k ≡ true
less_than_found x t k less a found =
    true_by (is_before x k) (λ e. clash (is_before k t) (le_then_less k x t e less)
    (not_true (is_before k t) (split_and a (is_from t k) found).1))

all_above : (x : List ℕ) (xs : List (List ℕ)) → AllByRecursion (λ y. cmp x y ≡ Less) xs → (k : List ℕ) → is_one xs k ≡ true
    → is_before x k ≡ true
all_above x [] all k one = absurd (true≢false (sym one))
all_above x (y ∷ xs) all k one =
    either_true (same_key k y) (is_one xs k) (is_before x k ≡ true) (λ same. ap (is_before x) (same_from k y same) ∙ ap is_lt all.0)
    (all_above x xs all.1 k) one

pub from_step : (ks : List (List ℕ)) → IsStrictlySortedBy (slice_cmp nat_cmp) ks → (t k : List ℕ) → first_from t ks ≡ Some k
    → from_text t ks ≡ k ∷ from_text (next_text k) ks
unfolding IsStrictlySortedBy
from_step [] sorted t k e = absurd (none-some k e)
from_step (x ∷ xs) sorted t k e = by (from_step xs sorted.1 t k) (is_before x t) refl e
  where
    by : (first_from t xs ≡ Some k → from_text t xs ≡ k ∷ from_text (next_text k) xs) → (b : Bool) → is_before x t ≡ b
        → first_of (cond (not b) (x ∷ from_text t xs) (from_text t xs)) ≡ Some k
        → cond (not (is_before x t)) (x ∷ from_text t xs) (from_text t xs) ≡ k ∷ from_text (next_text k) (x ∷ xs)
    by rest true less e =
        ap (λ b. cond (not b) (x ∷ from_text t xs) (from_text t xs)) less ∙ rest e
        ∙ ap (λ b. k ∷ cond (not b) (x ∷ from_text (next_text k) xs) (from_text (next_text k) xs))
        (sym (before_trans x k (next_text k) (less_than_found x t k less (is_one xs k) (found_first t xs sorted.1 k e)) (next_behind k)))
    by rest false more e =
        let same : x ≡ k = same_Some x k e in
        ap (λ b. cond (not b) (x ∷ from_text t xs) (from_text t xs)) more
        ∙ ap (λ ys. x ∷ ys) (all_from t xs (behind x t more xs sorted.0) ∙ sym (all_from (next_text x) xs (behind_next x xs sorted.0)))
        ∙ ap (λ b. x ∷ cond (not b) (x ∷ from_text (next_text x) xs) (from_text (next_text x) xs)) (sym (next_behind x))
        ∙ ap (λ z. z ∷ from_text (next_text z) (x ∷ xs)) same

last_same : (x k : List ℕ) (ys : List (List ℕ)) → last_or None ys ≡ Some k → last_or (Some x) ys ≡ Some k
last_same x k [] e = absurd (none-some k e)
last_same x k (y ∷ ys) e = e

pub before_step : (ks : List (List ℕ)) → IsStrictlySortedBy (slice_cmp nat_cmp) ks → (t k : List ℕ) → last_before t ks ≡ Some k
    → before_text t ks ≡ before_text k ks ++ k ∷ []
unfolding IsStrictlySortedBy
before_step [] sorted t k e = absurd (none-some k e)
before_step (x ∷ xs) sorted t k e = by (before_step xs sorted.1 t k) (is_before x t) refl (last_before t xs) refl e
  where
    by : (last_before t xs ≡ Some k → before_text t xs ≡ before_text k xs ++ k ∷ []) → (b : Bool) → is_before x t ≡ b
        → (o : Option (List ℕ)) → last_before t xs ≡ o
        → last_of (cond b (x ∷ before_text t xs) (before_text t xs)) ≡ Some k
        → cond (is_before x t) (x ∷ before_text t xs) (before_text t xs) ≡ before_text k (x ∷ xs) ++ k ∷ []
    by rest true less None none e =
        let nothing = before_none t xs none in
        let same : x ≡ k = same_Some x k (ap (last_or (Some x)) (sym nothing) ∙ e) in
        ap (λ b. cond b (x ∷ before_text t xs) (before_text t xs)) less ∙ ap (λ ys. x ∷ ys) nothing
        ∙ ap (λ ys. ys ++ x ∷ []) (sym (ap (λ b. cond b (x ∷ before_text x xs) (before_text x xs)) (not_itself x)
        ∙ none_before x xs (behind x x (not_itself x) xs sorted.0)))
        ∙ ap (λ z. before_text z (x ∷ xs) ++ z ∷ []) same
    by rest true less (Some j) some e =
        let same : j ≡ k = same_Some j k (sym (last_same x j (before_text t xs) some) ∙ e) in
        let found = some ∙ ap Some same in
        let above = all_above x xs sorted.0 k (split_and (is_one xs k) (is_short t k) (found_last t xs sorted.1 k found)).0 in
        ap (λ b. cond b (x ∷ before_text t xs) (before_text t xs)) less ∙ ap (λ ys. x ∷ ys) (rest found)
        ∙ ap (λ b. cond b (x ∷ before_text k xs) (before_text k xs) ++ k ∷ []) (sym above)
    by rest false more o is e =
        let parts = split_and (is_one xs k) (is_short t k) (found_last t xs sorted.1 k e) in
        absurd (clash (is_before x t) (before_trans x k t (all_above x xs sorted.0 k parts.0) parts.1) more)

-- ---- loops over steps

one_less : (n most : ℕ) → n < most → most - n ≡ suc (most - (n + 1))
one_less n most less = omega arith

-- those that are found are the first of all, and those that follow the last of them are left
pub IsFound : ℕ → ℕ → List (List ℕ) → List (List ℕ) → List (List ℕ) → Type 0
IsFound most n found left all = take most all ≡ found ++ take (most - n) left

pub none_found : (most : ℕ) (all : List (List ℕ)) → IsFound most 0 [] all all
unfolding IsFound
none_found most all = ap (λ n. take n all) (zero_off most)
  where
    zero_off : (n : ℕ) → n ≡ n - 0
    zero_off n = omega arith

pub one_found : (most n : ℕ) (found left rest all : List (List ℕ)) (k : List ℕ) → n < most → left ≡ k ∷ rest → IsFound most n found left all
    → IsFound most (n + 1) (found ++ k ∷ []) rest all
unfolding IsFound
one_found most n found left rest all k less step is =
    is ∙ ap (λ ys. found ++ take (most - n) ys) step ∙ ap (λ m. found ++ take m (k ∷ rest)) (one_less n most less)
    ∙ sym (append_assoc found (k ∷ []) (take (most - (n + 1)) rest))

pub found_all : (most n : ℕ) (found left all : List (List ℕ)) → left ≡ [] → IsFound most n found left all → found ≡ take most all
unfolding IsFound
found_all most n found left all none is = sym (is ∙ ap (λ ys. found ++ take (most - n) ys) none
    ∙ ap (λ ys. found ++ ys) (nothing (most - n)) ∙ append-nil found)
  where
    nothing : (n : ℕ) → take {A = List ℕ} n [] ≡ []
    nothing zero = refl
    nothing (suc n) = refl

pub found_most : (most n : ℕ) (found left all : List (List ℕ)) → most ≤ n → IsFound most n found left all → found ≡ take most all
unfolding IsFound
found_most most n found left all enough is =
    sym (is ∙ ap (λ m. found ++ take m left) (zero_left most n enough) ∙ append-nil found)
  where
    zero_left : (most n : ℕ) → most ≤ n → most - n ≡ 0
    zero_left most n enough = omega arith

-- the same from the end, in reverse
pub IsFoundBack : ℕ → ℕ → List (List ℕ) → List (List ℕ) → List (List ℕ) → Type 0
IsFoundBack most n found left all = last_ones most all ≡ last_ones (most - n) left ++ reverse found

pub none_found_back : (most : ℕ) (all : List (List ℕ)) → IsFoundBack most 0 [] all all
unfolding IsFoundBack
none_found_back most all = ap (λ n. last_ones n all) (zero_off most) ∙ sym (append-nil (last_ones (most - 0) all))
  where
    zero_off : (n : ℕ) → n ≡ n - 0
    zero_off n = omega arith

drop_before : (n : ℕ) (xs ys : List (List ℕ)) → n ≤ length xs → drop n (xs ++ ys) ≡ drop n xs ++ ys
drop_before n xs ys within = grind (arith, common_steps)

one_more_back : (m : ℕ) (rest : List (List ℕ)) (k : List ℕ) → last_ones (suc m) (rest ++ k ∷ []) ≡ last_ones m rest ++ k ∷ []
one_more_back m rest k =
    ap (λ n. drop n (rest ++ k ∷ [])) (same (length (rest ++ k ∷ [])) (length rest) m (length-append rest (k ∷ [])))
    ∙ drop_before (length rest - m) rest (k ∷ []) (within (length rest) m)
  where
    same : (whole part m : ℕ) → whole ≡ part + 1 → whole - suc m ≡ part - m
    same whole part m e = omega arith

    within : (n m : ℕ) → n - m ≤ n
    within n m = omega arith

pub one_found_back : (most n : ℕ) (found left rest all : List (List ℕ)) (k : List ℕ) → n < most → left ≡ rest ++ k ∷ []
    → IsFoundBack most n found left all → IsFoundBack most (n + 1) (found ++ k ∷ []) rest all
unfolding IsFoundBack
one_found_back most n found left rest all k less step is =
    is ∙ ap (λ ys. last_ones (most - n) ys ++ reverse found) step
    ∙ ap (λ m. last_ones m (rest ++ k ∷ []) ++ reverse found) (one_less n most less)
    ∙ ap (λ ys. ys ++ reverse found) (one_more_back (most - (n + 1)) rest k)
    ∙ append_assoc (last_ones (most - (n + 1)) rest) (k ∷ []) (reverse found)
    ∙ ap (λ ys. last_ones (most - (n + 1)) rest ++ ys) (sym (reverse-append found (k ∷ [])))

drop_all : (xs : List (List ℕ)) (n : ℕ) → length xs ≤ n → drop n xs ≡ []
drop_all xs n most = grind (arith, common_steps)

pub found_all_back : (most n : ℕ) (found left all : List (List ℕ)) → left ≡ [] → IsFoundBack most n found left all
    → reverse found ≡ last_ones most all
unfolding IsFoundBack
found_all_back most n found left all none is =
    sym (is ∙ ap (λ ys. last_ones (most - n) ys ++ reverse found) none
    ∙ ap (λ ys. ys ++ reverse found) (drop_all [] (0 - (most - n)) (omega arith)))

pub found_most_back : (most n : ℕ) (found left all : List (List ℕ)) → most ≤ n → IsFoundBack most n found left all
    → reverse found ≡ last_ones most all
unfolding IsFoundBack
found_most_back most n found left all enough is =
    sym (is ∙ ap (λ ys. ys ++ reverse found) (drop_all left (length left - (most - n)) (whole (length left) most n enough)))
  where
    whole : (len most n : ℕ) → most ≤ n → len ≤ len - (most - n)
    whole len most n enough = omega arith
