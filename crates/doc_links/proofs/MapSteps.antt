-- Maps whose values are replaced.
use Rattle.std.proofs.Common.{◌≡◌, List, [], ◌∷◌, Bool, true, false, cond, ◌&&◌, T, is_lt, refl, ap, sym, subst, ◌∙◌}
use Rattle.std.specs.Prelude.{Option, Some, None, option_map, map as mapped}
use Rattle.std.specs.declared.cmp.Ordering.{Ordering}
use Rattle.std.specs.declared.cmp.Ordering.TheVariants.{Less, Equal, Greater}
use Rattle.std.specs.Cmp.{IsTotalOrder}
use Rattle.std.specs.FinMap as map
use Rattle.std.specs.FinMap.Entries.{below_all}
use Rattle.std.specs.List.{AllByRecursion}
use Rattle.std.specs.List.Sorted.{IsStrictlySortedBy}
use Rattle.std.specs.Map.{keys_of}
use Rattle.std.specs.Ordering.{eq_by_cmp}
use Rattle.std.proofs.lemmas.Map.Lookups.{CmpEqualImpliesEq}
use Rattle.std.proofs.lemmas.Map.Made.{keys_of-map_values}
use Rattle.doc_page_parts.proofs.Maps.{entries_in_order}
use Rattle.doc_links.specs.IndexSteps.{with_values}

to_less : (o : Ordering) → T (is_lt o) → o ≡ Less
to_less Less h = refl
to_less Equal h = absurd h
to_less Greater h = absurd h

first_holds : (a b : Bool) → T (a && b) → T a
first_holds true b h = tt
first_holds false b h = absurd h

second_holds : (a b : Bool) → T (a && b) → T b
second_holds true b h = h
second_holds false b h = absurd h

module _ {K X : Type 0} (R : K → K → Ordering) where
  below_before : (k : K) (es : List (K × X)) → T (below_all R k es) → AllByRecursion (λ y. R k y ≡ Less) (keys_of es)
  below_before k [] h = tt
  below_before k (e ∷ es) h = (to_less (R k e.0) (first_holds _ _ h), below_before k es (second_holds _ _ h))

  -- what a map tells of its entries' order
  pub sorted_is : (es : List (K × X)) → T (map.is_sorted R es) → IsStrictlySortedBy R (keys_of es)
  unfolding IsStrictlySortedBy
  sorted_is [] h = tt
  sorted_is (e ∷ es) h = (below_before e.0 es (first_holds _ _ h), sorted_is es (second_holds _ _ h))

module _ {K X Y : Type 0} {R : K → K → Ordering} (total : IsTotalOrder R) (exact : CmpEqualImpliesEq R) (f : X → Y) where
  found_with : (es : List (K × X)) (q : K) → map.find R q (mapped (λ e. (e.0, f e.1)) es) ≡ option_map f (map.find R q es)
  found_with [] q = refl
  found_with (e ∷ es) q =
      ap (cond (eq_by_cmp R q e.0) (Some (f e.1))) (found_with es q) ∙ by (eq_by_cmp R q e.0) (map.find R q es)
    where
      by : (b : Bool) (x : Option X) → cond b (Some (f e.1)) (option_map f x) ≡ option_map f (cond b (Some e.1) x)
      by true x = refl
      by false x = refl

  pub get_with : (m : map.FinMap R X) (q : K) → map.get (with_values f m) q ≡ option_map f (map.get m q)
  get_with m q =
      map.get-from_entries total (mapped (λ e. (e.0, f e.1)) (map.entries m)) q
      ∙ found_with (map.entries m) q
      ∙ ap (option_map f) (sym (map.get-entries m q))

  pub empty_with : with_values f (map.empty {R = R}) ≡ map.empty
  empty_with = map.same_map total exact _ _ (λ q.
      get_with map.empty q ∙ ap (option_map f) (map.get-empty R q) ∙ sym (map.get-empty R q))

  pub insert_with : (m : map.FinMap R X) (k : K) (v : X) → with_values f (map.insert m k v) ≡ map.insert (with_values f m) k (f v)
  insert_with m k v = map.same_map total exact _ _ (λ q.
      get_with (map.insert m k v) q
      ∙ ap (option_map f) (map.get-insert total m k v q)
      ∙ by (eq_by_cmp R q k) (map.get m q)
      ∙ ap (cond (eq_by_cmp R q k) (Some (f v))) (sym (get_with m q))
      ∙ sym (map.get-insert total (with_values f m) k (f v) q))
    where
      by : (b : Bool) (x : Option X) → option_map f (cond b (Some v) x) ≡ cond b (Some (f v)) (option_map f x)
      by true x = refl
      by false x = refl

  pub remove_with : (m : map.FinMap R X) (k : K) → with_values f (map.remove m k) ≡ map.remove (with_values f m) k
  remove_with m k = map.same_map total exact _ _ (λ q.
      get_with (map.remove m k) q
      ∙ ap (option_map f) (map.get-remove total m k q)
      ∙ by (eq_by_cmp R q k) (map.get m q)
      ∙ ap (cond (eq_by_cmp R q k) None) (sym (get_with m q))
      ∙ sym (map.get-remove total (with_values f m) k q))
    where
      by : (b : Bool) (x : Option X) → option_map f (cond b None x) ≡ cond b None (option_map f x)
      by true x = refl
      by false x = refl

  pub entries_with : (m : map.FinMap R X) → map.entries (with_values f m) ≡ mapped (λ e. (e.0, f e.1)) (map.entries m)
  entries_with m =
      entries_in_order total exact (mapped (λ e. (e.0, f e.1)) (map.entries m))
      (subst (IsStrictlySortedBy R) (sym (keys_of-map_values f (map.entries m))) (sorted_is R (map.entries m) (map.entries_sorted m)))
