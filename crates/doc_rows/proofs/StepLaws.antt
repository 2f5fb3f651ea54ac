-- Steps along texts in order, from a text on.
use Rattle.std.proofs.Common.{◌≡◌, ℕ, ◌<◌, List, [], ◌∷◌, ◌++◌, Bool, true, false, cond, not, ◌&&◌, refl, ap, sym, subst, ◌∙◌, arith}
use Rattle.std.proofs.Common.{append_assoc, append-nil}
use Rattle.std.specs.Prelude.{Some, None}
use Rattle.std.specs.Cmp.{nat_cmp_is, ranks}
use Rattle.std.specs.Cmp.Lexicographic.{slice_cmp}
use Rattle.std.specs.List.{AllByRecursion}
use Rattle.std.specs.List.Sorted.{IsStrictlySortedBy}
use Rattle.std.specs.Ordering.{MatchOrdering, is_lt, nat_cmp, ordering_then}
use Rattle.std.specs.declared.cmp.Ordering.{Ordering}
use Rattle.std.specs.declared.cmp.Ordering.TheVariants.{Less, Equal, Greater}
use Rattle.std.proofs.lemmas.Bool.{true≢false}
use Rattle.std.proofs.lemmas.Option.{none-some, same_Some}
use Rattle.doc_page_parts.proofs.Bools.{clash}
use Rattle.doc_rows.specs.Looks.{first_from, first_of, from_text, is_before}
use Rattle.doc_rows.specs.Rows.{paths_in}
use Rattle.doc_rows.proofs.LookLaws.{IsFirst, at_most_trans, before_trans, first_is_first, is_from, is_one, neither, not_after}
use Rattle.doc_rows.proofs.LookLaws.{either_true, split_and}
use Rattle.doc_rows.proofs.SeenLaws.{in_order}
use Rattle.doc_store_readers.proofs.KeySteps.{same_key, same_from}
use Rattle.doc_store_readers.specs.Sites.{Site, view_of, visible_to}
use Rattle.doc_store_readers.specs.declared.reader.Reader.{Reader}

abbrev cmp : List ℕ → List ℕ → Ordering
cmp = slice_cmp nat_cmp

by_first : (x y : ℕ) (r s : List ℕ) (o : Ordering) → nat_cmp x y ≡ o → is_before (x ∷ r) (y ∷ s) ≡ is_lt (ordering_then o (cmp r s))
by_first x y r s o e = ap (λ o. is_lt (ordering_then o (cmp r s))) e

pub nothing_before : (r : List ℕ) → is_before r [] ≡ false
nothing_before [] = refl
nothing_before (x ∷ r) = refl

means : (x y : ℕ) (o : Ordering) → nat_cmp x y ≡ o → MatchOrdering o (x < y) (x ≡ y) (y < x)
means x y o e = subst (λ o. MatchOrdering o (x < y) (x ≡ y) (y < x)) e (ranks x y)

-- ---- the text right behind another

abbrev pub next_text : List ℕ → List ℕ
next_text x = x ++ 0 ∷ []

next_behind : (x : List ℕ) → is_before x (next_text x) ≡ true
next_behind [] = refl
next_behind (b ∷ x) = by_first b b x (next_text x) Equal (sym (nat_cmp_is b b Equal refl)) ∙ next_behind x

-- nothing stands between
none_between : (x y : List ℕ) → is_before x y ≡ true → is_before y (next_text x) ≡ false
none_between [] [] e = absurd (true≢false (sym e))
none_between [] (c ∷ y) e = by (nat_cmp c 0) refl
  where
    by : (o : Ordering) → nat_cmp c 0 ≡ o → is_before (c ∷ y) (0 ∷ []) ≡ false
    by Less f = let less : c < 0 = means c 0 Less f in absurd (omega arith)
    by Equal f = by_first c 0 y [] Equal f ∙ nothing_before y
    by Greater f = by_first c 0 y [] Greater f
none_between (b ∷ x) [] e = absurd (true≢false (sym e))
none_between (b ∷ x) (c ∷ y) e = by (none_between x y) (nat_cmp c b) refl
  where
    by : (is_before x y ≡ true → is_before y (next_text x) ≡ false) → (o : Ordering) → nat_cmp c b ≡ o
        → is_before (c ∷ y) (b ∷ next_text x) ≡ false
    by rest Less f =
        let less : c < b = means c b Less f in
        absurd (true≢false (sym e ∙ by_first b c x y Greater (sym (nat_cmp_is b c Greater less))))
    by rest Equal f =
        by_first c b y (next_text x) Equal f
        ∙ rest (sym (by_first b c x y Equal (sym (nat_cmp_is b c Equal (sym (means c b Equal f))))) ∙ e)
    by rest Greater f = by_first c b y (next_text x) Greater f

-- ---- texts of which all pass a test, or none does

le_then_less : (k x t : List ℕ) → is_before x k ≡ false → is_before x t ≡ true → is_before k t ≡ true
le_then_less k x t e f = by (is_before k x) refl
  where
    by : (b : Bool) → is_before k x ≡ b → is_before k t ≡ true
    by true g = before_trans k x t g f
    by false g = ap (λ z. is_before z t) (neither k x g e) ∙ f

all_from : (t : List ℕ) (xs : List (List ℕ)) → AllByRecursion (λ y. is_before y t ≡ false) xs → from_text t xs ≡ xs
all_from t [] all = refl
all_from t (x ∷ xs) all =
    ap (λ b. cond (not b) (x ∷ from_text t xs) (from_text t xs)) all.0 ∙ ap (λ ys. x ∷ ys) (all_from t xs all.1)

module _ (x : List ℕ) where
  behind : (t : List ℕ) → is_before x t ≡ false → (xs : List (List ℕ)) → AllByRecursion (λ y. cmp x y ≡ Less) xs
      → AllByRecursion (λ y. is_before y t ≡ false) xs
  behind t most [] all = tt
  behind t most (y ∷ xs) all = (at_most_trans t x y most (not_after x y (ap is_lt all.0)), behind t most xs all.1)

  behind_next : (xs : List (List ℕ)) → AllByRecursion (λ y. cmp x y ≡ Less) xs → AllByRecursion (λ y. is_before y (next_text x) ≡ false) xs
  behind_next [] all = tt
  behind_next (y ∷ xs) all = (none_between x y (ap is_lt all.0), behind_next xs all.1)

-- ---- one step

pub from_none : (t : List ℕ) (ks : List (List ℕ)) → first_from t ks ≡ None → from_text t ks ≡ []
from_none t ks e = by (from_text t ks) e
  where
    by : (ys : List (List ℕ)) → first_of ys ≡ None → ys ≡ []
    by [] e = refl
    by (y ∷ ys) e = absurd (none-some y (sym e))

found_first : (t : List ℕ) (ks : List (List ℕ)) → IsStrictlySortedBy (slice_cmp nat_cmp) ks → (k : List ℕ) → first_from t ks ≡ Some k
    → (is_one ks k && is_from t k) ≡ true
found_first t ks sorted k e = (subst (IsFirst (λ q. is_one ks q && is_from t q)) e (first_is_first t ks sorted)).0

not_true : (b : Bool) → not b ≡ true → b ≡ false
not_true true e = sym e
not_true false e = refl

true_by : (b : Bool) → (b ≡ false → ⊥) → b ≡ true
true_by true f = refl
true_by false f = absurd (f refl)

less_than_found : (x t k : List ℕ) → is_before x t ≡ true → (a : Bool) → (a && is_from t k) ≡ true → is_before x k ≡ true
less_than_found x t k less a found =
    true_by (is_before x k) (λ e. clash (is_before k t) (le_then_less k x t e less)
    (not_true (is_before k t) (split_and a (is_from t k) found).1))

all_above : (x : List ℕ) (xs : List (List ℕ)) → AllByRecursion (λ y. cmp x y ≡ Less) xs → (k : List ℕ) → is_one xs k ≡ true
    → is_before x k ≡ true
all_above x [] all k one = absurd (true≢false (sym one))
all_above x (y ∷ xs) all k one =
    either_true (same_key k y) (is_one xs k) (is_before x k ≡ true) (λ same. ap (is_before x) (same_from k y same) ∙ ap is_lt all.0)
    (all_above x xs all.1 k) one

pub from_step : (ks : List (List ℕ)) → IsStrictlySortedBy (slice_cmp nat_cmp) ks → (t k : List ℕ) → first_from t ks ≡ Some k
    → from_text t ks ≡ k ∷ from_text (next_text k) ks
unfolding IsStrictlySortedBy
from_step [] sorted t k e = absurd (none-some k e)
from_step (x ∷ xs) sorted t k e = by (from_step xs sorted.1 t k) (is_before x t) refl e
  where
    by : (first_from t xs ≡ Some k → from_text t xs ≡ k ∷ from_text (next_text k) xs) → (b : Bool) → is_before x t ≡ b
        → first_of (cond (not b) (x ∷ from_text t xs) (from_text t xs)) ≡ Some k
        → cond (not (is_before x t)) (x ∷ from_text t xs) (from_text t xs) ≡ k ∷ from_text (next_text k) (x ∷ xs)
    by rest true less e =
        ap (λ b. cond (not b) (x ∷ from_text t xs) (from_text t xs)) less ∙ rest e
        ∙ ap (λ b. k ∷ cond (not b) (x ∷ from_text (next_text k) xs) (from_text (next_text k) xs))
        (sym (before_trans x k (next_text k) (less_than_found x t k less (is_one xs k) (found_first t xs sorted.1 k e)) (next_behind k)))
    by rest false more e =
        let same : x ≡ k = same_Some x k e in
        ap (λ b. cond (not b) (x ∷ from_text t xs) (from_text t xs)) more
        ∙ ap (λ ys. x ∷ ys) (all_from t xs (behind x t more xs sorted.0) ∙ sym (all_from (next_text x) xs (behind_next x xs sorted.0)))
        ∙ ap (λ b. x ∷ cond (not b) (x ∷ from_text (next_text x) xs) (from_text (next_text x) xs)) (sym (next_behind x))
        ∙ ap (λ z. z ∷ from_text (next_text z) (x ∷ xs)) same

-- ---- a loop over steps

-- the paths of a view are in order
in_view : (site : Site) (reader : Reader) → IsStrictlySortedBy (slice_cmp nat_cmp) (paths_in (view_of site (Some reader)))
in_view site reader = in_order (visible_to site (Some reader)).pages

module _ (site : Site) (reader : Reader) (from : List ℕ) where
  abbrev seen : List (List ℕ)
  seen = paths_in (view_of site (Some reader))

  -- those that are found and those that are left are all
  abbrev pub AreSoFar : List (List ℕ) → List ℕ → Type 0
  AreSoFar found at = from_text from seen ≡ found ++ from_text at seen

  pub nothing_yet : (found : List (List ℕ)) (at : List ℕ) → found ≡ [] → at ≡ from → AreSoFar found at
  nothing_yet found at none same = ap (λ t. from_text t seen) (sym same) ∙ ap (λ f. f ++ from_text at seen) (sym none)

  pub one_more : (found more : List (List ℕ)) (at next path copy : List ℕ) → Some path ≡ first_from at seen → next ≡ next_text path
      → copy ≡ path → more ≡ found ++ copy ∷ [] → AreSoFar found at → AreSoFar more next
  one_more found more at next path copy look behind same pushed so_far =
      so_far ∙ ap (λ ys. found ++ ys) (from_step seen (in_view site reader) at path (sym look))
      ∙ sym (append_assoc found (path ∷ []) (from_text (next_text path) seen))
      ∙ (λ i. (found ++ sym same i ∷ []) ++ from_text (sym behind i) seen)
      ∙ ap (λ f. f ++ from_text next seen) (sym pushed)

  pub no_more : (found : List (List ℕ)) (at : List ℕ) → None ≡ first_from at seen → AreSoFar found at → found ≡ from_text from seen
  no_more found at look so_far =
      sym (so_far ∙ ap (λ ys. found ++ ys) (from_none at seen (sym look)) ∙ append-nil found)
