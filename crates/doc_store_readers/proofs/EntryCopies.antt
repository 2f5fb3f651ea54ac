-- Steps of the copying of a map, whose entries are copied in their order.
use Rattle.std.proofs.Common.{◌≡◌, ℕ, List, [], ◌∷◌, ◌++◌, cond, refl, ap, sym, subst, ◌∙◌}
use Rattle.std.specs.Prelude.{Some, None}
use Rattle.std.specs.BTreeMap.{BTreeMap, Updates}
use Rattle.std.specs.FinMap as map
use Rattle.std.specs.Cmp.Lexicographic.{slice_cmp}
use Rattle.std.specs.List.{AllByRecursion}
use Rattle.std.specs.List.Sorted.{IsStrictlySortedBy}
use Rattle.std.specs.Map.{keys_of}
use Rattle.std.specs.Ordering.{nat_cmp, is_eq, ordering_reverse}
use Rattle.std.specs.declared.cmp.Ordering.TheVariants.{Less}
use Rattle.std.proofs.lemmas.Cmp.{nat_list_cmp_total}
use Rattle.std.proofs.lemmas.List.{append_assoc}
use Rattle.std.proofs.lemmas.Map.Lookups.{exact_bytes}
use Rattle.doc_page_parts.proofs.Maps.{inserted}

-- a key that is before all of these is before that one of them
before_one : {V : Type 0} (key other : List ℕ) (value : V) (done rest : List (List ℕ × V))
    → AllByRecursion (λ y. slice_cmp nat_cmp key y ≡ Less) (keys_of (done ++ (other, value) ∷ rest)) → slice_cmp nat_cmp key other ≡ Less
before_one key other value [] rest all = all.0
before_one key other value (entry ∷ done) rest all = before_one key other value done rest all.1

-- of sorted keys none comes again
not_yet : {V : Type 0} (done rest : List (List ℕ × V)) (key : List ℕ) (value : V)
    → IsStrictlySortedBy (slice_cmp nat_cmp) (keys_of (done ++ (key, value) ∷ rest)) → map.find (slice_cmp nat_cmp) key done ≡ None
unfolding IsStrictlySortedBy
not_yet [] rest key value sorted = refl
not_yet (entry ∷ done) rest key value sorted =
    ap (λ order. cond (is_eq order) (Some entry.1) (map.find (slice_cmp nat_cmp) key done)) (nat_list_cmp_total.antisymm key entry.0
    ∙ ap ordering_reverse (before_one entry.0 key value done rest sorted.0))
    ∙ not_yet done rest key value sorted.1

-- one more entry was copied
module _ {V : Type 0} (done items rest all : List (List ℕ × V)) (key : List ℕ) (value : V) (whole : done ++ items ≡ all)
    (step : items ≡ (key, value) ∷ rest) (sorted : IsStrictlySortedBy (slice_cmp nat_cmp) (keys_of all)) where
  abbrev pub so_far : List (List ℕ × V)
  so_far = done ++ (key, value) ∷ []

  pub still_whole : so_far ++ rest ≡ all
  still_whole = append_assoc done ((key, value) ∷ []) rest ∙ ap (λ left. done ++ left) (sym step) ∙ whole

  fresh : map.find (slice_cmp nat_cmp) key done ≡ None
  fresh = not_yet done rest key value
      (subst (λ entries. IsStrictlySortedBy (slice_cmp nat_cmp) (keys_of entries)) (sym (ap (λ left. done ++ left) (sym step) ∙ whole)) sorted)

  pub one_copied : map.insert (map.from_entries {R = slice_cmp nat_cmp} done) key value ≡ map.from_entries so_far
  one_copied = sym (map.from_entries_push nat_list_cmp_total exact_bytes done key value fresh)

-- a copy of the next entry is added
pub key_copied : {V : Type 0} (m n : BTreeMap (List ℕ) V) (key : List ℕ) (copy value : V) (done items rest all : List (List ℕ × V))
    → copy ≡ value → Updates (slice_cmp nat_cmp) m n key (Some copy)
    → map.from_entries {R = slice_cmp nat_cmp} m.entries ≡ map.from_entries done → done ++ items ≡ all → items ≡ (key, value) ∷ rest
    → IsStrictlySortedBy (slice_cmp nat_cmp) (keys_of all)
    → (after : List (List ℕ × V)) × (map.from_entries {R = slice_cmp nat_cmp} n.entries ≡ map.from_entries after) × (after ++ rest ≡ all)
key_copied m n key copy value done items rest all same updates is whole step sorted = (
  done ++ (key, value) ∷ [],
  inserted nat_list_cmp_total exact_bytes m.entries n.entries key copy updates.0 ∙ (λ i. map.insert (is i) key (same i))
      ∙ one_copied done items rest all key value whole step sorted,
  still_whole done items rest all key value whole step sorted,
)
