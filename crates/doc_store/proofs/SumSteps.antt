-- Sums over the values of a map, as keys are set and taken.
use Rattle.std.proofs.Common.{◌≡◌, ℕ, ◌+◌, List, [], ◌∷◌, Bool, true, false, cond, Ordering, Less}
use Rattle.std.proofs.Common.{Equal, Greater, is_eq, refl, ap, sym, ◌∙◌, arith}
use Rattle.std.specs.Prelude.{Option, Some, None, sum_by}
use Rattle.std.specs.Cmp.{IsTotalOrder, tied_itself}
use Rattle.std.specs.FinMap as map
use Rattle.std.specs.FinMap.Entries.{by_order}
use Rattle.std.specs.Map.{values_of}
use Rattle.std.specs.Ordering.{eq_by_cmp}
use Rattle.std.proofs.lemmas.List.Sums.{sum_by-cons}
use Rattle.std.proofs.lemmas.Map.Lookups.{CmpEqualImpliesEq}
use Rattle.doc_page_parts.proofs.Orders.{is_eq_true}

first_later : (a p v r : ℕ) → p ≡ v + r → a + p ≡ v + (a + r)
first_later a p v r e = omega arith

module _ {K X : Type 0} {R : K → K → Ordering} (total : IsTotalOrder R) (exact : CmpEqualImpliesEq R) where
  -- what is set at a key is set where the key was taken
  set_over : (m : map.FinMap R X) (k : K) (v : X) → map.insert m k v ≡ map.insert (map.remove m k) k v
  set_over m k v = map.same_map total exact _ _ (λ q.
      map.get-insert total m k v q
      ∙ by (eq_by_cmp R q k) (map.get m q)
      ∙ ap (cond (eq_by_cmp R q k) (Some v)) (sym (map.get-remove total m k q))
      ∙ sym (map.get-insert total (map.remove m k) k v q))
    where
      by : (b : Bool) (there : Option X) → cond b (Some v) there ≡ cond b (Some v) (cond b None there)
      by true there = refl
      by false there = refl

  -- what stands at a key can be taken and put back
  put_back : (m : map.FinMap R X) (k : K) (v : X) → map.get m k ≡ Some v → m ≡ map.insert (map.remove m k) k v
  put_back m k v found = map.same_map total exact _ _ (λ q.
      by q (eq_by_cmp R q k) refl
      ∙ ap (cond (eq_by_cmp R q k) (Some v)) (sym (map.get-remove total m k q))
      ∙ sym (map.get-insert total (map.remove m k) k v q))
    where
      by : (q : K) (b : Bool) → eq_by_cmp R q k ≡ b → map.get m q ≡ cond b (Some v) (cond b None (map.get m q))
      by q true e = ap (map.get m) (exact q k (is_eq_true (R q k) e)) ∙ found
      by q false e = refl

  pub none_to_take : (m : map.FinMap R X) (k : K) → map.get m k ≡ None → m ≡ map.remove m k
  none_to_take m k none = map.same_map total exact _ _ (λ q. by q (eq_by_cmp R q k) refl ∙ sym (map.get-remove total m k q))
    where
      by : (q : K) (b : Bool) → eq_by_cmp R q k ≡ b → map.get m q ≡ cond b None (map.get m q)
      by q true e = ap (map.get m) (exact q k (is_eq_true (R q k) e)) ∙ none
      by q false e = refl

  none_when_taken : (m : map.FinMap R X) (k : K) → map.get (map.remove m k) k ≡ None
  none_when_taken m k = map.get-remove total m k k ∙ ap (λ o. cond (is_eq o) None (map.get m k)) (tied_itself total k)

  pub taken_again : (m : map.FinMap R X) (k : K) (v : X) → map.remove (map.insert m k v) k ≡ map.remove m k
  taken_again m k v = map.same_map total exact _ _ (λ q.
      map.get-remove total (map.insert m k v) k q
      ∙ ap (cond (eq_by_cmp R q k) None) (map.get-insert total m k v q)
      ∙ by (eq_by_cmp R q k) (map.get m q)
      ∙ sym (map.get-remove total m k q))
    where
      by : (b : Bool) (there : Option X) → cond b None (cond b (Some v) there) ≡ cond b None there
      by true there = refl
      by false there = refl

  module _ (weight : X → ℕ) where
    sum_put : (k : K) (v : X) (es : List (K × X)) → map.find R k es ≡ None
        → sum_by weight (values_of (map.put R k v es)) ≡ weight v + sum_by weight (values_of es)
    sum_put k v [] none = sum_by-cons weight v []
    sum_put k v (e ∷ es) none = by (sum_put k v es) (R k e.0) none
      where
        by : (map.find R k es ≡ None → sum_by weight (values_of (map.put R k v es)) ≡ weight v + sum_by weight (values_of es))
            → (o : Ordering) → cond (is_eq o) (Some e.1) (map.find R k es) ≡ None
            → sum_by weight (values_of (by_order o ((k, v) ∷ e ∷ es) ((e.0, v) ∷ es) (e ∷ map.put R k v es)))
            ≡ weight v + sum_by weight (values_of (e ∷ es))
        by more Less n = sum_by-cons weight v (e.1 ∷ values_of es)
        by more Equal n = absurd cc
        by more Greater n =
            sum_by-cons weight e.1 (values_of (map.put R k v es))
            ∙ first_later (weight e.1) (sum_by weight (values_of (map.put R k v es))) (weight v) (sum_by weight (values_of es)) (more n)
            ∙ ap (λ s. weight v + s) (sym (sum_by-cons weight e.1 (values_of es)))

    -- with a value at a new key
    pub sum_new : (m : map.FinMap R X) (k : K) (v : X) → map.get m k ≡ None
        → sum_by weight (map.values (map.insert m k v)) ≡ weight v + sum_by weight (map.values m)
    sum_new m k v none =
        ap (λ es. sum_by weight (values_of es)) (map.entries-insert total m k v)
        ∙ sum_put k v (map.entries m) (sym (map.get-entries m k) ∙ none)

    -- with another value at a key
    pub sum_set : (m : map.FinMap R X) (k : K) (v : X)
        → sum_by weight (map.values (map.insert m k v)) ≡ weight v + sum_by weight (map.values (map.remove m k))
    sum_set m k v =
        ap (λ n. sum_by weight (map.values n)) (set_over m k v) ∙ sum_new (map.remove m k) k v (none_when_taken m k)

    -- without the value of a key
    pub sum_taken : (m : map.FinMap R X) (k : K) (v : X) → map.get m k ≡ Some v
        → sum_by weight (map.values m) ≡ weight v + sum_by weight (map.values (map.remove m k))
    sum_taken m k v found =
        ap (λ n. sum_by weight (map.values n)) (put_back m k v found) ∙ sum_new (map.remove m k) k v (none_when_taken m k)
