-- One number by number at most.
use Rattle.std.proofs.Common.{◌≡◌, ◌≢◌, ℕ, ◌+◌, ◌≤◌, [], ◌∷◌, Bool, true, false, cond, not, length, is_eq, is_some, refl, ap, sym, subst, ◌∙◌, arith}
use Rattle.std.specs.Prelude.{Option, Some, None}
use Rattle.std.specs.FinMap as map
use Rattle.std.specs.FinMap.Entries.{by_order}
use Rattle.std.specs.Option.{option_to_list}
use Rattle.std.specs.Ordering.{nat_cmp}
use Rattle.std.proofs.lemmas.Bool.{false≢true}
use Rattle.std.proofs.lemmas.Cmp.{nat_cmp_total, tied_itself}
use Rattle.doc_index_tables.specs.Blocks.{without}
use Rattle.doc_index_tables.specs.Maps.{NumberMap}
use Rattle.doc_index_tables.specs.TableSteps.{same_number}
use Rattle.doc_index_tables.proofs.CountSteps.{number_is}
use Rattle.doc_index_tables.proofs.PlaceSteps.{IsInOrder, entries_are, found_in, none_yet, put_in, without_in}

in_order : (entry : Option (ℕ × ℕ)) → IsInOrder (option_to_list entry)
in_order None = tt
in_order (Some e) = tt

few : (entry : Option (ℕ × ℕ)) → length (option_to_list entry) ≤ 1
few None = omega arith
few (Some e) = omega arith

gone : (entry : Option (ℕ × ℕ)) (k : ℕ) → is_some (map.find nat_cmp k (option_to_list entry)) ≡ true → [] ≡ without k (option_to_list entry)
gone None k known = refl
gone (Some e) k known = by (is_eq (nat_cmp k e.0)) known
  where
    by : (b : Bool) → is_some (cond b (Some e.1) None) ≡ true → [] ≡ cond (not b) (e ∷ []) []
    by true known = refl
    by false known = absurd (false≢true known)

empty_is : map.from_sorted [] ≡ map.empty {K = ℕ} {X = ℕ} {R = nat_cmp}
empty_is = (none_yet [] refl).1

module _ (entry : Option (ℕ × ℕ)) (m : NumberMap ℕ) (is : map.from_sorted (option_to_list entry) ≡ m) where
  pub one_entries : option_to_list entry ≡ map.entries m
  one_entries = sym (entries_are (option_to_list entry) (in_order entry) m is)

  pub one_len : length (option_to_list entry) ≡ map.len m
  one_len = ap length one_entries ∙ sym (map.len-entries m)

  sought : (k : ℕ) → map.find nat_cmp k (option_to_list entry) ≡ map.get m k
  sought k = found_in (option_to_list entry) (in_order entry) m is k

  pub none_there : (k : ℕ) → entry ≡ None → None ≡ map.get m k
  none_there k none = sym (ap (λ o. map.find nat_cmp k (option_to_list o)) none) ∙ sought k

  module _ (known value k : ℕ) (some : entry ≡ Some (known, value)) where
    there : cond (is_eq (nat_cmp k known)) (Some value) None ≡ map.get m k
    there = sym (ap (λ o. map.find nat_cmp k (option_to_list o)) some) ∙ sought k

    pub its_number : known ≡ k → Some value ≡ map.get m k
    its_number same =
        ap (λ o. cond (is_eq o) (Some value) None) (sym (ap (nat_cmp k) same ∙ tied_itself nat_cmp_total k)) ∙ there

    pub another : known ≢ k → None ≡ map.get m k
    another apart = by (same_number k known) refl ∙ there
      where
        by : (b : Bool) → same_number k known ≡ b → None ≡ cond b (Some value) None
        by true e = absurd (apart (sym (number_is k known e)))
        by false e = refl

    pub set_again : known ≡ k → (v : ℕ) → map.from_sorted ((k, v) ∷ []) ≡ map.insert m k v
    set_again same v =
        (put_in (option_to_list entry) (in_order entry) m is k v ((k, v) ∷ [])
        (ap (λ n. (n, v) ∷ []) (sym same)
        ∙ ap (λ o. by_order o ((k, v) ∷ (known, value) ∷ []) ((known, v) ∷ []) ((known, value) ∷ (k, v) ∷ []))
        (sym (ap (nat_cmp k) same ∙ tied_itself nat_cmp_total k))
        ∙ ap (λ o. map.put nat_cmp k v (option_to_list o)) (sym some))).1

  pub set_alone : (k v : ℕ) → entry ≡ None → map.from_sorted ((k, v) ∷ []) ≡ map.insert m k v
  set_alone k v none =
      (put_in (option_to_list entry) (in_order entry) m is k v ((k, v) ∷ [])
      (ap (λ o. map.put nat_cmp k v (option_to_list o)) (sym none))).1

  pub one_taken : (k : ℕ) → is_some (map.get m k) ≡ true → map.from_sorted [] ≡ map.remove m k
  one_taken k known =
      (without_in (option_to_list entry) (in_order entry) m is k [] (gone entry k (ap is_some (sought k) ∙ known))).1

  -- the same in a block
  pub block_of_none : (b : NumberMap ℕ) → b ≡ map.empty → entry ≡ None → b ≡ m
  block_of_none b empty none = empty ∙ sym empty_is ∙ ap (λ o. map.from_sorted (option_to_list o)) (sym none) ∙ is

  pub block_of_one : (k v : ℕ) (b new : NumberMap ℕ) → b ≡ map.empty → new ≡ map.insert b k v → entry ≡ Some (k, v) → new ≡ m
  block_of_one k v b new empty set some =
      set ∙ ap (λ n. map.insert n k v) empty ∙ sym (put_in [] tt map.empty empty_is k v ((k, v) ∷ []) refl).1
      ∙ ap (λ o. map.from_sorted (option_to_list o)) (sym some) ∙ is

  pub one_at_most : (b : NumberMap ℕ) → b ≡ m → map.len b ≤ 1
  one_at_most b same = subst (λ n. n ≤ 1) (one_len ∙ ap map.len (sym same)) (few entry)

pub two_at_most : (k v : ℕ) (b new : NumberMap ℕ) → map.len b ≤ 1 → new ≡ map.insert b k v → map.len new ≤ 2
two_at_most k v b new one set =
    subst (λ n. n ≤ 2) (sym (ap map.len set ∙ map.len-insert nat_cmp_total b k v)) (by one (map.contains_key b k))
  where
    by : map.len b ≤ 1 → (c : Bool) → cond c (map.len b) (map.len b + 1) ≤ 2
    by one true = omega (arith, one)
    by one false = omega (arith, one)
