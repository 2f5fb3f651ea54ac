-- Maps by texts that a `BTreeMap` with `String` keys keeps.
use Rattle.std.proofs.Common.{◌-◌, ◌≡◌, ℕ, List, [], ◌∷◌, Bool, true, false, cond, String, string_bytes, refl, ap, sym, ◌∙◌}
use Rattle.std.specs.Prelude.{Option, Some, None, is_some, Result, Ok, Err, OnOk}
use Rattle.std.specs.declared.cmp.Ordering.{Ordering}
use Rattle.std.specs.declared.cmp.Ordering.TheVariants.{Less, Equal, Greater}
use Rattle.std.specs.BTreeMap.{BTreeMap, UpdatesBy, is_at}
use Rattle.std.specs.Map.{lookup}
use Rattle.std.specs.Ordering.{nat_cmp, is_eq, eq_by_cmp}
use Rattle.std.specs.String.{string_cmp}
use Rattle.std.specs.Cmp.Lexicographic.{slice_cmp}
use Rattle.std.specs.FinMap as map
use Rattle.std.proofs.lemmas.Cmp.{nat_list_cmp_total, nat_cmp_total}
use Rattle.std.proofs.lemmas.Map.Lookups.{exact_bytes}
use Rattle.std.proofs.lemmas.Map.Text.{btree_map_updates_text, is_eq-slice_cmp}
use Rattle.doc_page_parts.proofs.Maps.{inserted, looked_up, removed}
use Rattle.doc_page_parts.proofs.Orders.{is_eq_true}
use Rattle.doc_index_tables.specs.Maps.{NumberMap, TextMap, by_bytes, text_map}
use Rattle.doc_index_tables.specs.TableSteps.{NumberTable, row_or_empty, left_in_row, with_number}

looked_up_bytes : {A X : Type 0} (es : List (String A × X)) (text : List ℕ)
    → lookup (is_at (λ k. slice_cmp nat_cmp text (string_bytes k))) es ≡ lookup (is_at (slice_cmp nat_cmp text)) (by_bytes es)
looked_up_bytes [] text = refl
looked_up_bytes (e ∷ es) text = ap (cond (is_eq (slice_cmp nat_cmp text (string_bytes e.0))) (Some e.1)) (looked_up_bytes es text)

-- a look-up by bytes is one in the map
pub looked_up_text : {A X : Type 0} (es : List (String A × X)) (text : List ℕ)
    → lookup (is_at (λ k. slice_cmp nat_cmp text (string_bytes k))) es
    ≡ map.get (map.from_entries {R = slice_cmp nat_cmp} (by_bytes es)) text
looked_up_text es text = looked_up_bytes es text ∙ looked_up nat_list_cmp_total exact_bytes (by_bytes es) text

module _ {A X : Type 0} (m n : BTreeMap (String A) X) (text : List ℕ) where
  looked_up_after : (w : Option X) → UpdatesBy string_cmp (λ k. slice_cmp nat_cmp text (string_bytes k)) m n w
      → (q : List ℕ) → lookup (is_at (slice_cmp nat_cmp q)) (by_bytes n.entries)
      ≡ cond (is_at (slice_cmp nat_cmp text) q) w (lookup (is_at (slice_cmp nat_cmp q)) (by_bytes m.entries))
  looked_up_after w updates q =
      sym (looked_up_bytes n.entries q) ∙ btree_map_updates_text text m n w updates q
      ∙ ap (λ b. cond b w (lookup (is_at (λ k. slice_cmp nat_cmp q (string_bytes k))) m.entries)) (sym (is_eq-slice_cmp text q))
      ∙ ap (cond (is_eq (slice_cmp nat_cmp text q)) w) (looked_up_bytes m.entries q)

  pub inserted_text : (v : X) → UpdatesBy string_cmp (λ k. slice_cmp nat_cmp text (string_bytes k)) m n (Some v)
      → text_map n ≡ map.insert (text_map m) text v
  inserted_text v updates =
      inserted nat_list_cmp_total exact_bytes (by_bytes m.entries) (by_bytes n.entries) text v (looked_up_after (Some v) updates)

  pub removed_text : UpdatesBy string_cmp (λ k. slice_cmp nat_cmp text (string_bytes k)) m n None
      → text_map n ≡ map.remove (text_map m) text
  removed_text updates =
      removed nat_list_cmp_total exact_bytes (by_bytes m.entries) (by_bytes n.entries) text (looked_up_after None updates)

pub equal_from : (r : Ordering) → is_eq r ≡ true → r ≡ Equal
equal_from Less e = cc
equal_from Equal e = refl
equal_from Greater e = cc

pub same_text : (q k : List ℕ) → eq_by_cmp (slice_cmp nat_cmp) q k ≡ true → q ≡ k
same_text q k e = exact_bytes q k (is_eq_true (slice_cmp nat_cmp q k) e)

pub on_ok : {X E P Q : Type 0} (r : Result X E) → (P → Q) → OnOk r P → OnOk r Q
on_ok (Ok x) f h = f h
on_ok (Err e) f h = tt

module _ {X : Type 0} (m : TextMap X) (text : List ℕ) where
  -- what stands at a key set once more changes nothing
  pub set_again : (v : X) → map.get m text ≡ Some v → map.insert m text v ≡ m
  set_again v stands = map.same_map nat_list_cmp_total exact_bytes _ _ (λ q.
      map.get-insert nat_list_cmp_total m text v q ∙ by q (eq_by_cmp (slice_cmp nat_cmp) q text) refl)
    where
      by : (q : List ℕ) (b : Bool) → eq_by_cmp (slice_cmp nat_cmp) q text ≡ b → cond b (Some v) (map.get m q) ≡ map.get m q
      by q true e = sym stands ∙ ap (map.get m) (sym (same_text q text e))
      by q false e = refl

  -- a key that was set and then removed
  pub set_and_removed : (v : X) → map.remove (map.insert m text v) text ≡ map.remove m text
  set_and_removed v = map.same_map nat_list_cmp_total exact_bytes _ _ (λ q.
      map.get-remove nat_list_cmp_total (map.insert m text v) text q
      ∙ ap (cond (eq_by_cmp (slice_cmp nat_cmp) q text) None) (map.get-insert nat_list_cmp_total m text v q)
      ∙ by (eq_by_cmp (slice_cmp nat_cmp) q text) (map.get m q)
      ∙ sym (map.get-remove nat_list_cmp_total m text q))
    where
      by : (b : Bool) (x : Option X) → cond b None (cond b (Some v) x) ≡ cond b None x
      by true x = refl
      by false x = refl

-- a row that stands
module _ (table : NumberTable) (text : List ℕ) (row : NumberMap ℕ) (stands : map.get table text ≡ Some row) where
  pub number_set : (n value : ℕ) → map.insert table text (map.insert row n value) ≡ with_number table text n value
  number_set n value = ap (λ r. map.insert table text (map.insert (row_or_empty r) n value)) (sym stands)

  pub left_is : (n : ℕ) → map.remove row n ≡ left_in_row table text n
  left_is n = ap (λ r. map.remove (row_or_empty r) n) (sym stands)

abbrev empty_row : NumberMap ℕ
empty_row = map.empty

-- no row leaves nothing
pub nothing_left : (table : NumberTable) (text : List ℕ) (n : ℕ) → map.get table text ≡ None → 0 ≡ map.len (left_in_row table text n)
nothing_left table text n none =
    sym (ap (λ r. map.len (map.remove (row_or_empty r) n)) none ∙ map.len-remove nat_cmp_total empty_row n
    ∙ ap (λ b. cond b (map.len empty_row - 1) (map.len empty_row)) (ap is_some (map.get-empty nat_cmp n)) ∙ map.len-empty nat_cmp ℕ)
