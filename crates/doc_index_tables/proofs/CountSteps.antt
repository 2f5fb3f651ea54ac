-- What a table has after its numbers are set and taken, one key after another.
use Rattle.std.proofs.Common.{◌≡◌, ℕ, ◌-◌, ◌<◌, suc, zero, List, [], ◌∷◌, Bool, true, false, cond, ◌&&◌, ◌==◌, drop, length, get_or, eqb→eq, refl, ap, sym, subst, T, ◌∙◌, arith}
use Rattle.std.specs.Prelude.{◌≤◌, OnErr, OnOk, Result, Ok, Err, is_err, Option, Some, None, is_some, if◌then◌else◌}
use Rattle.std.specs.Cmp.Lexicographic.{slice_cmp}
use Rattle.std.specs.FinMap as map
use Rattle.std.specs.Ordering.{nat_cmp, is_eq}
use Rattle.std.proofs.lemmas.Cmp.{nat_list_cmp_total, nat_cmp_total, tied_itself}
use Rattle.std.proofs.lemmas.Map.Lookups.{exact_unsigned}
use Rattle.std.proofs.Common.{drop-cons}
use Rattle.doc_index_tables.specs.Maps.{NumberMap, TextMap}
use Rattle.doc_index_tables.specs.TableSteps.{HasCounts, HasSame, LacksCounts, NumberTable, left_in_row, number_at, number_in, row_or_empty, same_number, same_text, with_number, without_number}
use Rattle.doc_index_tables.proofs.TableSteps.{same_text as text_is}
use Rattle.doc_page_parts.proofs.Orders.{is_eq_true}
use Rattle.doc_page_parts.proofs.Options.{is_some_false}

pub number_is : (m n : ℕ) → same_number m n ≡ true → m ≡ n
number_is m n e = exact_unsigned m n (is_eq_true (nat_cmp m n) e)

pub number_itself : (n : ℕ) → same_number n n ≡ true
number_itself n = ap is_eq (tied_itself nat_cmp_total n)

pub text_itself : (t : List ℕ) → same_text t t ≡ true
text_itself t = ap is_eq (tied_itself nat_list_cmp_total t)

in_row : (row : Option (NumberMap ℕ)) (n : ℕ) → map.get (row_or_empty row) n ≡ number_in row n
in_row None n = map.get-empty nat_cmp n
in_row (Some row) n = refl

module _ (table : NumberTable) (text : List ℕ) (n : ℕ) where
  row_set : (row : NumberMap ℕ) (x : Option ℕ) (q : List ℕ) (m : ℕ) → map.get row m ≡ cond (same_number m n) x (number_at table text m)
      → number_at (map.insert table text row) q m ≡ cond (same_text q text && same_number m n) x (number_at table q m)
  row_set row x q m has =
      ap (λ r. number_in r m) (map.get-insert nat_list_cmp_total table text row q) ∙ by (same_text q text) refl
    where
      by : (b : Bool) → same_text q text ≡ b
          → number_in (cond b (Some row) (map.get table q)) m ≡ cond (b && same_number m n) x (number_at table q m)
      by true e = has ∙ ap (λ t. cond (same_number m n) x (number_at table t m)) (sym (text_is q text e))
      by false e = refl

  pub at_set : (value : ℕ) (q : List ℕ) (m : ℕ)
      → number_at (with_number table text n value) q m ≡ cond (same_text q text && same_number m n) (Some value) (number_at table q m)
  at_set value q m =
      row_set (map.insert (row_or_empty (map.get table text)) n value) (Some value) q m
      (map.get-insert nat_cmp_total (row_or_empty (map.get table text)) n value m
      ∙ ap (cond (same_number m n) (Some value)) (in_row (map.get table text) m))

  left_at : (m : ℕ) → map.get (left_in_row table text n) m ≡ cond (same_number m n) None (number_at table text m)
  left_at m =
      map.get-remove nat_cmp_total (row_or_empty (map.get table text)) n m
      ∙ ap (cond (same_number m n) None) (in_row (map.get table text) m)

  pub at_taken : (q : List ℕ) (m : ℕ)
      → number_at (without_number table text n) q m ≡ cond (same_text q text && same_number m n) None (number_at table q m)
  at_taken q m = by (map.len (left_in_row table text n) == 0) refl
    where
      empty_left : (map.len (left_in_row table text n) == 0) ≡ true → None ≡ cond (same_number m n) None (number_at table text m)
      empty_left e =
          sym (map.get-empty nat_cmp m)
          ∙ ap (λ r. map.get r m) (sym (map.empty_of_len (left_in_row table text n) (eqb→eq _ _ (subst T (sym e) tt))))
          ∙ left_at m

      gone : (b : Bool) → same_text q text ≡ b → None ≡ cond (same_number m n) None (number_at table text m)
          → number_in (cond b None (map.get table q)) m ≡ cond (b && same_number m n) None (number_at table q m)
      gone true e none = none ∙ ap (λ t. cond (same_number m n) None (number_at table t m)) (sym (text_is q text e))
      gone false e none = refl

      by : (b : Bool) → (map.len (left_in_row table text n) == 0) ≡ b
          → number_at (if b then map.remove table text else map.insert table text (left_in_row table text n)) q m
          ≡ cond (same_text q text && same_number m n) None (number_at table q m)
      by true e =
          ap (λ r. number_in r m) (map.get-remove nat_list_cmp_total table text q)
          ∙ gone (same_text q text) refl (empty_left e)
      by false e = row_set (left_in_row table text n) None q m (left_at m)

abbrev pub found : List ℕ → List (List ℕ × ℕ) → Option ℕ
found q es = map.find (slice_cmp nat_cmp) q es

-- a table has the counts of these entries under a number, and else what another has
abbrev pub HasEntries : List (List ℕ × ℕ) → ℕ → NumberTable → NumberTable → Type 0
HasEntries es slot old table =
    (q : List ℕ) (n : ℕ) → number_at table q n ≡ cond (same_number n slot) (found q es) (number_at old q n)

abbrev pub LacksEntries : List (List ℕ × ℕ) → ℕ → NumberTable → NumberTable → Type 0
LacksEntries es slot old table =
    (q : List ℕ) (n : ℕ) → number_at table q n ≡ cond (same_number n slot && is_some (found q es)) None (number_at old q n)

module _ (slot : ℕ) (old table : NumberTable) where
  pub one_set : (e : List ℕ × ℕ) (es : List (List ℕ × ℕ)) → HasEntries es slot old table
      → HasEntries (e ∷ es) slot old (with_number table e.0 slot e.1)
  one_set e es has q n =
      at_set table e.0 slot e.1 q n ∙ ap (cond (same_text q e.0 && same_number n slot) (Some e.1)) (has q n)
      ∙ by (same_text q e.0) (same_number n slot) (found q es) (number_at old q n)
    where
      by : (b c : Bool) (x y : Option ℕ) → cond (b && c) (Some e.1) (cond c x y) ≡ cond c (cond b (Some e.1) x) y
      by true true x y = refl
      by true false x y = refl
      by false true x y = refl
      by false false x y = refl

  pub one_taken : (e : List ℕ × ℕ) (es : List (List ℕ × ℕ)) → LacksEntries es slot old table
      → LacksEntries (e ∷ es) slot old (without_number table e.0 slot)
  one_taken e es lacks q n =
      at_taken table e.0 slot q n ∙ ap (cond (same_text q e.0 && same_number n slot) None) (lacks q n)
      ∙ by (same_text q e.0) (same_number n slot) (found q es) (number_at old q n)
    where
      by : (b c : Bool) (x y : Option ℕ)
          → cond (b && c) None (cond (c && is_some x) None y) ≡ cond (c && is_some (cond b (Some e.1) x)) None y
      by true true x y = refl
      by true false x y = refl
      by false true x y = refl
      by false false x y = refl

  found_later : (es : List (List ℕ × ℕ)) (i : ℕ) (q : List ℕ) → found q es ≡ None → found q (drop i es) ≡ None
  found_later [] zero q none = none
  found_later [] (suc i) q none = none
  found_later (e ∷ es) zero q none = none
  found_later (e ∷ es) (suc i) q none = found_later es i q (by (same_text q e.0) none)
    where
      by : (b : Bool) → cond b (Some e.1) (found q es) ≡ None → found q es ≡ None
      by true e = cc
      by false e = e

  -- all that was set is taken again
  pub undone : (es : List (List ℕ × ℕ)) (i : ℕ) (counts : TextMap ℕ) (new : NumberTable) → map.from_entries es ≡ counts
      → ((q : List ℕ) → number_at old q slot ≡ None) → HasEntries (drop i es) slot old table
      → LacksCounts counts slot table new → HasSame old new
  undone es i counts new is free has lacks q n =
      lacks q n ∙ ap (cond (same_number n slot && map.contains_key counts q) None) (has q n)
      ∙ by (same_number n slot) (map.contains_key counts q) refl refl
    where
      by : (b c : Bool) → same_number n slot ≡ b → map.contains_key counts q ≡ c
          → cond (b && c) None (cond b (found q (drop i es)) (number_at old q n)) ≡ number_at old q n
      by true true e f = sym (ap (number_at old q) (number_is n slot e) ∙ free q)
      by true false e f =
          found_later es i q (sym (map.get-from_entries nat_list_cmp_total es q) ∙ ap (λ m. map.get m q) is ∙ is_some_false _ f)
          ∙ sym (ap (number_at old q) (number_is n slot e) ∙ free q)
      by false c e f = refl

module _ (es : List (List ℕ × ℕ)) (counts : TextMap ℕ) (is : map.from_entries es ≡ counts) (slot : ℕ) (old table : NumberTable) where
  found_is : (q : List ℕ) → found q es ≡ map.get counts q
  found_is q = sym (map.get-from_entries nat_list_cmp_total es q) ∙ ap (λ m. map.get m q) is

  pub all_set : HasEntries es slot old table → HasCounts counts slot old table
  all_set has q n = has q n ∙ ap (λ x. cond (same_number n slot) x (number_at old q n)) (found_is q)

  pub all_taken : LacksEntries es slot old table → LacksCounts counts slot old table
  all_taken lacks q n = lacks q n ∙ ap (λ x. cond (same_number n slot && is_some x) None (number_at old q n)) (found_is q)

pub drop_all : {X : Type 0} (xs : List X) → drop (length xs) xs ≡ []
drop_all [] = refl
drop_all (x ∷ xs) = drop_all xs

drop_none : {X : Type 0} (xs : List X) → drop 0 xs ≡ xs
drop_none [] = refl
drop_none (x ∷ xs) = refl

before : (i n : ℕ) → 0 < i → i ≤ n → i - 1 < n
before i n some within = omega (arith, some, within)

again : (i : ℕ) → 0 < i → suc (i - 1) ≡ i
again i some = omega (arith, some)

dropped : {X : Type 0} (xs : List X) (i : ℕ) (x : X) → 0 < i → i ≤ length xs → x ≡ get_or xs (i - 1) x → drop (i - 1) xs ≡ x ∷ drop i xs
dropped xs i x some within is =
    drop-cons xs (i - 1) x (before i (length xs) some within) ∙ ap (λ y. y ∷ drop (suc (i - 1)) xs) (sym is)
    ∙ ap (λ j. x ∷ drop j xs) (again i some)

module _ (items : List (List ℕ × ℕ)) (slot : ℕ) (old table new : NumberTable) (i : ℕ) where
  pub set_next : (e : List ℕ × ℕ) (key : List ℕ) → 0 < i → i ≤ length items → e ≡ get_or items (i - 1) e → key ≡ e.0
      → new ≡ with_number table key slot e.1 → HasEntries (drop i items) slot old table → HasEntries (drop (i - 1) items) slot old new
  set_next e key some within is same next done =
      subst (λ es. HasEntries es slot old new) (sym (dropped items i e some within is))
      (subst (λ t. HasEntries (e ∷ drop i items) slot old t) (sym (next ∙ ap (λ k. with_number table k slot e.1) same))
      (one_set slot old table e (drop i items) done))

  pub taken_next : (e : List ℕ × ℕ) (key : List ℕ) → 0 < i → i ≤ length items → e ≡ get_or items (i - 1) e → key ≡ e.0
      → new ≡ without_number table key slot → LacksEntries (drop i items) slot old table → LacksEntries (drop (i - 1) items) slot old new
  taken_next e key some within is same next done =
      subst (λ es. LacksEntries es slot old new) (sym (dropped items i e some within is))
      (subst (λ t. LacksEntries (e ∷ drop i items) slot old t) (sym (next ∙ ap (λ k. without_number table k slot) same))
      (one_taken slot old table e (drop i items) done))

  pub set_first : (counts : TextMap ℕ) → map.from_entries items ≡ counts → i ≡ 0 → HasEntries (drop i items) slot old table
      → HasCounts counts slot old table
  set_first counts is none done =
      all_set items counts is slot old table
      (subst (λ es. HasEntries es slot old table) (ap (λ j. drop j items) none ∙ drop_none items) done)

  pub taken_first : (counts : TextMap ℕ) → map.from_entries items ≡ counts → i ≡ 0 → LacksEntries (drop i items) slot old table
      → LacksCounts counts slot old table
  taken_first counts is none done =
      all_taken items counts is slot old table
      (subst (λ es. LacksEntries es slot old table) (ap (λ j. drop j items) none ∙ drop_none items) done)

-- counts that were set and are taken again
pub given_back : (counts : TextMap ℕ) (slot : ℕ) (old table new : NumberTable) → ((q : List ℕ) → number_at old q slot ≡ None)
    → HasCounts counts slot old table → LacksCounts counts slot table new → HasSame old new
given_back counts slot old table new free has lacks q n =
    lacks q n ∙ ap (cond (same_number n slot && map.contains_key counts q) None) (has q n)
    ∙ by (same_number n slot) (map.contains_key counts q) refl refl
  where
    by : (b c : Bool) → same_number n slot ≡ b → map.contains_key counts q ≡ c
        → cond (b && c) None (cond b (map.get counts q) (number_at old q n)) ≡ number_at old q n
    by true true e f = sym (ap (number_at old q) (number_is n slot e) ∙ free q)
    by true false e f = is_some_false _ f ∙ sym (ap (number_at old q) (number_is n slot e) ∙ free q)
    by false c e f = refl

pub ok_then : {X E P : Type 0} (r : Result X E) → is_err r ≡ false → OnOk r P → P
ok_then (Ok x) e h = h
ok_then (Err x) e h = cc

pub err_then : {X E P : Type 0} (r : Result X E) → is_err r ≡ true → OnErr r P → P
err_then (Ok x) e h = cc
err_then (Err x) e h = h
