-- Sets of texts that a `BTreeMap` with `String` keys keeps, and looks into them.
use Rattle.std.proofs.Common.{◌≡◌, ℕ, List, [], ◌∷◌, ◌++◌, Bool, true, false, not, cond, ◌&&◌, String, string_bytes, refl, ap, sym, ◌∙◌}
use Rattle.std.specs.Prelude.{Option, Some, None}
use Rattle.std.specs.BTreeMap.{BTreeMap}
use Rattle.std.specs.BTreeMap.Range.{entries_between}
use Rattle.std.specs.FinMap as map
use Rattle.std.specs.List.{last_or}
use Rattle.std.specs.List.Sorted.{IsStrictlySortedBy}
use Rattle.std.specs.Map.{keys_of}
use Rattle.std.specs.Ordering.{is_le, is_lt, ordering_reverse}
use Rattle.std.specs.String.{string_cmp}
use Rattle.std.specs.declared.cmp.Ordering.{Ordering}
use Rattle.std.specs.declared.cmp.Ordering.TheVariants.{Less, Equal, Greater}
use Rattle.std.specs.declared.ops.Bound.TheVariants.{Included, Excluded, Unbounded}
use Rattle.std.proofs.lemmas.Cmp.{nat_list_cmp_total}
use Rattle.std.proofs.lemmas.Map.Lookups.{exact_bytes}
use Rattle.doc_page_parts.proofs.Maps.{entries_in_order}
use Rattle.doc_index_tables.specs.Maps.{by_bytes, text_map}
use Rattle.doc_index_tables.proofs.EntrySteps.{sorted_bytes}
use Rattle.doc_rows.specs.Looks.{first_of, last_of, from_text, before_text, first_from, last_before}

-- the last one stands behind all others
pub last_behind : {X : Type 0} (o : Option X) (xs : List X) (x : X) → last_or o (xs ++ x ∷ []) ≡ Some x
last_behind o [] x = refl
last_behind o (y ∷ xs) x = last_behind (Some y) xs x

-- where one reaches the other, this doesn't come before it
turned : (o r : Ordering) → r ≡ ordering_reverse o → (is_le o && true) ≡ not (is_lt r)
turned Less r e = ap (λ r. not (is_lt r)) (sym e)
turned Equal r e = ap (λ r. not (is_lt r)) (sym e)
turned Greater r e = ap (λ r. not (is_lt r)) (sym e)

not_past : (o r : Ordering) → r ≡ ordering_reverse o → not (is_le o) ≡ is_lt r
not_past Less r e = ap is_lt (sym e)
not_past Equal r e = ap is_lt (sym e)
not_past Greater r e = ap is_lt (sym e)

module _ {A X : Type 0} where
  abbrev texts : List (String A × X) → List (List ℕ)
  texts es = keys_of (by_bytes es)

  -- the keys of the map
  keys_are : (m : BTreeMap (String A) X) → IsStrictlySortedBy string_cmp (keys_of m.entries) → texts m.entries ≡ map.keys (text_map m)
  keys_are m sorted = ap keys_of (sym (entries_in_order nat_list_cmp_total exact_bytes (by_bytes m.entries)
      (sorted_bytes m.entries sorted)))

  kept : (e : String A × X) (b c : Bool) (es : List (String A × X)) (them : List (List ℕ)) → b ≡ c → texts es ≡ them
      → texts (cond b (e ∷ es) es) ≡ cond c (string_bytes e.0 ∷ them) them
  kept e b true es them same are = ap (λ b. texts (cond b (e ∷ es) es)) same ∙ ap (λ ts. string_bytes e.0 ∷ ts) are
  kept e b false es them same are = ap (λ b. texts (cond b (e ∷ es) es)) same ∙ are

  -- what a range from a text on holds
  from_on : (from : String A) (es : List (String A × X)) → texts (entries_between string_cmp (Included from) Unbounded es)
      ≡ from_text (string_bytes from) (texts es)
  from_on from [] = refl
  from_on from (e ∷ es) =
      kept e _ _ (entries_between string_cmp (Included from) Unbounded es) (from_text (string_bytes from) (texts es))
      (turned (string_cmp from e.0) (string_cmp e.0 from) (nat_list_cmp_total.antisymm (string_bytes e.0) (string_bytes from)))
      (from_on from es)

  -- what a range up to a text holds
  up_to : (before : String A) (es : List (String A × X)) → texts (entries_between string_cmp Unbounded (Excluded before) es)
      ≡ before_text (string_bytes before) (texts es)
  up_to before [] = refl
  up_to before (e ∷ es) =
      kept e _ _ (entries_between string_cmp Unbounded (Excluded before) es) (before_text (string_bytes before) (texts es))
      (not_past (string_cmp before e.0) (string_cmp e.0 before) (nat_list_cmp_total.antisymm (string_bytes e.0) (string_bytes before)))
      (up_to before es)

  module _ (m : BTreeMap (String A) X) (sorted : IsStrictlySortedBy string_cmp (keys_of m.entries)) (text : String A) where
    pub first_is : (e : String A × X) (t all : List (String A × X)) → all ≡ entries_between string_cmp (Included text) Unbounded m.entries
        → all ≡ e ∷ t → Some (string_bytes e.0) ≡ first_from (string_bytes text) (map.keys (text_map m))
    first_is e t all between step =
        ap (λ es. first_of (texts es)) (sym step ∙ between) ∙ ap first_of (from_on text m.entries)
        ∙ ap (first_from (string_bytes text)) (keys_are m sorted)

    pub no_first : (all : List (String A × X)) → all ≡ entries_between string_cmp (Included text) Unbounded m.entries → all ≡ []
        → None ≡ first_from (string_bytes text) (map.keys (text_map m))
    no_first all between step =
        ap (λ es. first_of (texts es)) (sym step ∙ between) ∙ ap first_of (from_on text m.entries)
        ∙ ap (first_from (string_bytes text)) (keys_are m sorted)

    pub last_is : (e : String A × X) (t all : List (String A × X)) → all ≡ entries_between string_cmp Unbounded (Excluded text) m.entries
        → all ≡ t ++ e ∷ [] → Some (string_bytes e.0) ≡ last_before (string_bytes text) (map.keys (text_map m))
    last_is e t all between step =
        sym (texts_last None t) ∙ ap (λ es. last_of (texts es)) (sym step ∙ between) ∙ ap last_of (up_to text m.entries)
        ∙ ap (last_before (string_bytes text)) (keys_are m sorted)
      where
        texts_last : (o : Option (List ℕ)) (t : List (String A × X)) → last_or o (texts (t ++ e ∷ [])) ≡ Some (string_bytes e.0)
        texts_last o [] = refl
        texts_last o (f ∷ t) = texts_last (Some (string_bytes f.0)) t

    pub no_last : (all : List (String A × X)) → all ≡ entries_between string_cmp Unbounded (Excluded text) m.entries → all ≡ []
        → None ≡ last_before (string_bytes text) (map.keys (text_map m))
    no_last all between step =
        ap (λ es. last_of (texts es)) (sym step ∙ between) ∙ ap last_of (up_to text m.entries)
        ∙ ap (last_before (string_bytes text)) (keys_are m sorted)
