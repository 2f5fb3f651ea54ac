-- Laws of what stands in a folder.
use Rattle.std.proofs.Common.{◌≡◌, ℕ, List, [], ◌∷◌, Bool, true, false, ◌⊎◌, inl, inr, refl, ap, sym, subst, ◌∙◌, arith}
use Rattle.std.specs.Prelude.{⊤, ◌==◌, bytes_eq, filter, map as mapped, if◌then◌else◌}
use Rattle.std.specs.Cmp.{nat_cmp_is}
use Rattle.std.specs.Cmp.Lexicographic.{slice_cmp}
use Rattle.std.specs.List.{AllByRecursion, dedup, dedup_from}
use Rattle.std.specs.FinMap as map
use Rattle.std.specs.List.Sorted.{IsStrictlySortedBy}
use Rattle.std.specs.Ordering.{is_lt, nat_cmp, ordering_then}
use Rattle.std.specs.declared.cmp.Ordering.{Ordering}
use Rattle.std.specs.declared.cmp.Ordering.TheVariants.{Less, Equal, Greater}
use Rattle.std.proofs.lemmas.Bool.{and_parts, cond_both, eqb-true, true≢false}
use Rattle.std.proofs.lemmas.Cmp.{nat_list_cmp_total}
use Rattle.std.proofs.lemmas.Map.Lookups.{exact_unsigned}
use Rattle.std.proofs.lemmas.Slice.Eq.{bytes_eq-Decides}
use Rattle.doc_store_readers.specs.Sites.{visible_to}
use Rattle.doc_store_readers.proofs.FilterSteps.{keys_in_order}
use Rattle.doc_page_parts.proofs.Bools.{clash}
use Rattle.doc_people.specs.Folders.{is_below, is_slash, key, keys, through_slash}
use Rattle.doc_people.specs.Laws.{KeysRise, PathsRise}
use Rattle.doc_people.specs.Views.{paths}

abbrev pub cmp : List ℕ → List ℕ → Ordering
cmp = slice_cmp nat_cmp

-- one comes before the other, or is it
abbrev AtMost : List ℕ → List ℕ → Type 0
AtMost x y = (cmp x y ≡ Less) ⊎ (x ≡ y)

pub not_greater : Greater ≡ Less → ⊥
not_greater e = true≢false (sym (ap is_lt e))

tied : (x y : ℕ) → x ≡ y → nat_cmp x y ≡ Equal
tied x y e = sym (nat_cmp_is x y Equal e)

-- one byte before both
onto : (x : ℕ) (r s : List ℕ) → AtMost r s → AtMost (x ∷ r) (x ∷ s)
onto x r s (inl less) = inl (ap (λ o. ordering_then o (cmp r s)) (tied x x refl) ∙ less)
onto x r s (inr same) = inr (ap (λ t. x ∷ t) same)

-- ---- of what follows a folder

abbrev behind : ℕ → List ℕ → List ℕ
behind b rest = if is_slash b then [] else through_slash rest

from_behind : (b : Bool) (x : ℕ) (r s : List ℕ) → AtMost r s → AtMost (x ∷ (if b then [] else r)) (x ∷ (if b then [] else s))
from_behind true x r s most = inr refl
from_behind false x r s most = onto x r s most

by_first : (x y : ℕ) (r s : List ℕ) → (cmp r s ≡ Less → AtMost (through_slash r) (through_slash s))
    → (o : Ordering) → nat_cmp x y ≡ o → ordering_then o (cmp r s) ≡ Less → AtMost (x ∷ behind x r) (y ∷ behind y s)
by_first x y r s more Less first less = inl (ap (λ o. ordering_then o (cmp (behind x r) (behind y s))) first)
by_first x y r s more Equal first less =
    subst (λ z. AtMost (x ∷ behind x r) (z ∷ behind z s)) (exact_unsigned x y first)
    (from_behind (is_slash x) x (through_slash r) (through_slash s) (more less))
by_first x y r s more Greater first less = absurd (not_greater less)

-- what follows is cut so that it doesn't fall
through_rises : (r s : List ℕ) → cmp r s ≡ Less → AtMost (through_slash r) (through_slash s)
through_rises [] [] less = inr refl
through_rises [] (y ∷ s) less = inl refl
through_rises (x ∷ r) [] less = absurd (not_greater less)
through_rises (x ∷ r) (y ∷ s) less = by_first x y r s (through_rises r s) (nat_cmp x y) refl less

-- ---- of paths that begin with a folder

key_rises : (folder p q : List ℕ) → is_below folder p ≡ true → is_below folder q ≡ true → cmp p q ≡ Less
    → AtMost (key folder p) (key folder q)
key_rises [] p q below_p below_q less = through_rises p q less
key_rises (f ∷ folder) [] q below_p below_q less = absurd (true≢false (sym below_p))
key_rises (f ∷ folder) (x ∷ p) [] below_p below_q less = absurd (true≢false (sym below_q))
key_rises (f ∷ folder) (x ∷ p) (y ∷ q) below_p below_q less =
    let first = and_parts (f == x) (is_below folder p) below_p in
    let second = and_parts (f == y) (is_below folder q) below_q in
    let same : x ≡ y = omega (arith, eqb-true f x first.0, eqb-true f y second.0) in
    onto f (key folder p) (key folder q)
    (key_rises folder p q first.1 second.1 (sym (ap (λ o. ordering_then o (cmp p q)) (tied x y same)) ∙ less))

-- ---- of lists of paths

-- none falls below one before it
abbrev IsRising : List (List ℕ) → Type 0
IsRising [] = ⊤
IsRising (k ∷ ks) = AllByRecursion (AtMost k) ks × IsRising ks

keys_behind : (folder p : List ℕ) → is_below folder p ≡ true → (ps : List (List ℕ)) → AllByRecursion (λ q. cmp p q ≡ Less) ps
    → AllByRecursion (AtMost (key folder p)) (mapped (key folder) (filter (is_below folder) ps))
keys_behind folder p below [] all = tt
keys_behind folder p below (q ∷ ps) all =
    cond_both (is_below folder q) (q ∷ filter (is_below folder) ps) (filter (is_below folder) ps)
    (λ them. AllByRecursion (AtMost (key folder p)) (mapped (key folder) them))
    (λ below_q. (key_rises folder p q below below_q all.0, keys_behind folder p below ps all.1))
    (λ _. keys_behind folder p below ps all.1)

keys_are_rising : (folder : List ℕ) (ps : List (List ℕ)) → IsStrictlySortedBy cmp ps
    → IsRising (mapped (key folder) (filter (is_below folder) ps))
unfolding IsStrictlySortedBy
keys_are_rising folder [] sorted = tt
keys_are_rising folder (p ∷ ps) sorted =
    cond_both (is_below folder p) (p ∷ filter (is_below folder) ps) (filter (is_below folder) ps)
    (λ them. IsRising (mapped (key folder) them))
    (λ below. (keys_behind folder p below ps sorted.0, keys_are_rising folder ps sorted.1))
    (λ _. keys_are_rising folder ps sorted.1)

-- ---- where those that stand side by side and are equal are one, all rise

first_less : (j k y : List ℕ) → cmp j k ≡ Less → AtMost k y → cmp j y ≡ Less
first_less j k y less (inl more) = nat_list_cmp_total.trans j k y less more
first_less j k y less (inr same) = subst (λ z. cmp j z ≡ Less) same less

all_less : (j k : List ℕ) → cmp j k ≡ Less → (xs : List (List ℕ)) → AllByRecursion (AtMost k) xs
    → AllByRecursion (λ y. cmp j y ≡ Less) xs
all_less j k less [] all = tt
all_less j k less (x ∷ xs) all = (first_less j k x less all.0, all_less j k less xs all.1)

less_than_kept : (j k : List ℕ) (xs : List (List ℕ)) → cmp j k ≡ Less → AllByRecursion (λ y. cmp j y ≡ Less) xs
    → AllByRecursion (λ y. cmp j y ≡ Less) (dedup_from bytes_eq k xs)
less_than_kept j k [] less all = (less, tt)
less_than_kept j k (x ∷ xs) less all =
    cond_both (bytes_eq x k) (dedup_from bytes_eq k xs) (k ∷ dedup_from bytes_eq x xs) (AllByRecursion (λ y. cmp j y ≡ Less))
    (λ _. less_than_kept j k xs less all.1)
    (λ _. (less, less_than_kept j x xs all.0 all.1))

strictly : (k x : List ℕ) → AtMost k x → bytes_eq x k ≡ false → cmp k x ≡ Less
strictly k x (inl less) differs = less
strictly k x (inr same) differs =
    absurd (clash (bytes_eq x k) ((bytes_eq-Decides x k).1 (sym same)) differs)

kept_rise : (k : List ℕ) (xs : List (List ℕ)) → AllByRecursion (AtMost k) xs → IsRising xs
    → IsStrictlySortedBy cmp (dedup_from bytes_eq k xs)
unfolding IsStrictlySortedBy
kept_rise k [] all rising = (tt, tt)
kept_rise k (x ∷ xs) all rising =
    cond_both (bytes_eq x k) (dedup_from bytes_eq k xs) (k ∷ dedup_from bytes_eq x xs) (IsStrictlySortedBy cmp)
    (λ _. kept_rise k xs all.1 rising.1)
    (λ differs.
    let less = strictly k x all.0 differs in
    (less_than_kept k x xs less (all_less k x less xs rising.0), kept_rise x xs rising.0 rising.1))

each_rises : (ks : List (List ℕ)) → IsRising ks → IsStrictlySortedBy cmp (dedup bytes_eq ks)
unfolding IsStrictlySortedBy
each_rises [] rising = tt
each_rises (k ∷ ks) rising = kept_rise k ks rising.0 rising.1

pub keys_rise : KeysRise
unfolding keys
keys_rise view folder sorted =
    each_rises (mapped (key folder) (filter (is_below folder) (paths view))) (keys_are_rising folder (paths view) sorted)

-- ---- of views of sites

pub paths_rise : PathsRise
paths_rise site reader =
    keys_in_order (slice_cmp nat_cmp) (map.entries (visible_to site reader).pages) (map.entries_sorted (visible_to site reader).pages)
