-- Steps of the edits of aliases.
use Rattle.std.proofs.Common.{◌≡◌, ℕ, zero, suc, ◌+◌, ◌-◌, List, Bool, true, false, cond, not, bytes_eq, is_some, refl, ap, sym, ◌∙◌, arith}
use Rattle.std.specs.Prelude.{Option, Some, None}
use Rattle.std.specs.FinMap as map
use Rattle.std.specs.Map.{keys_of}
use Rattle.std.specs.List.{filter}
use Rattle.std.specs.List.Sorted.{IsStrictlySortedBy}
use Rattle.std.specs.Cmp.Lexicographic.{slice_cmp}
use Rattle.std.specs.Ordering.{nat_cmp}
use Rattle.std.proofs.lemmas.Cmp.{nat_list_cmp_total}
use Rattle.std.proofs.lemmas.Map.Entries.{option_filter}
use Rattle.std.proofs.lemmas.Map.Lookups.{exact_bytes}
use Rattle.doc_page_parts.proofs.Bools.{clash}
use Rattle.doc_store_readers.proofs.KeySteps.{same_key, get_taken}
use Rattle.doc_store_readers.proofs.MapSteps.{get_filtered}
use Rattle.doc_store.proofs.StoreSteps.{get-without_goal}
use Rattle.doc_store_readers.proofs.MapValues.{contains-map_values, len-map_values}
use Rattle.doc_store_readers.specs.Maps.{TextMap, map_values}
use Rattle.doc_store.specs.Store.{is_goal, without_goal, goal_after, aliases_after}

abbrev Entries : Type 0
Entries = List (List ℕ × List ℕ)

-- ---- the aliases that lead to a path are removed

pub goals_removed : (entries kept : Entries) (path : List ℕ) → IsStrictlySortedBy (slice_cmp nat_cmp) (keys_of entries)
    → kept ≡ filter (λ e. not (bytes_eq e.1 path)) entries
    → map.from_entries {R = slice_cmp nat_cmp} kept ≡ without_goal (map.from_entries entries) path
goals_removed entries kept path sorted is = map.same_map nat_list_cmp_total exact_bytes _ _ (λ q.
    ap (λ es. map.get (map.from_entries {R = slice_cmp nat_cmp} es) q) is
    ∙ get_filtered nat_list_cmp_total exact_bytes (λ goal. not (bytes_eq goal path)) entries q sorted
    ∙ by (map.get (map.from_entries {R = slice_cmp nat_cmp} entries) q)
    ∙ sym (get-without_goal (map.from_entries entries) path q))
  where
    by : (found : Option (List ℕ)) → option_filter (λ goal. not (bytes_eq goal path)) found ≡ cond (not (is_goal path found)) found None
    by None = refl
    by (Some goal) = refl

-- ---- how many aliases stand

one_back : (m : TextMap (List ℕ)) (k : List ℕ) (n : ℕ) → map.len m ≡ n → map.contains_key m k ≡ true → n ≡ n - 1 + 1
one_back m k zero e stands = absurd (clash (map.contains_key m k) stands (ap (λ x. map.contains_key x k) (map.empty_of_len m e)
    ∙ ap is_some (map.get-empty (slice_cmp nat_cmp) k)))
one_back m k (suc n) e stands = omega arith

pub len_where_alias : (m : TextMap (List ℕ)) (k : List ℕ) → map.contains_key m k ≡ true → map.len m ≡ map.len (map.remove m k) + 1
len_where_alias m k stands =
    one_back m k (map.len m) refl stands
    ∙ ap (λ n. n + 1) (sym (map.len-remove nat_list_cmp_total m k ∙ ap (λ b. cond b (map.len m - 1) (map.len m)) stands))

pub len_where_none : (m : TextMap (List ℕ)) (k : List ℕ) → map.contains_key m k ≡ false → map.len m + 1 ≡ map.len (map.remove m k) + 1
len_where_none m k none = ap (λ n. n + 1) (sym (map.len-remove nat_list_cmp_total m k ∙ ap (λ b. cond b (map.len m - 1) (map.len m)) none))

-- how many stand after a move
pub len-aliases_after : (m : TextMap (List ℕ)) (from to : List ℕ) → map.get m from ≡ None
    → map.len (map.remove m to) + 1 ≡ map.len (aliases_after m from to)
unfolding aliases_after
len-aliases_after m from to named =
    let others = map_values (goal_after from to) (map.remove m to) in
    let none : map.contains_key others from ≡ false =
    contains-map_values (goal_after from to) (map.remove m to) from
    ∙ ap is_some (get_taken m to from ∙ ap (cond (same_key from to) None) named) ∙ nothing (same_key from to) in
    ap (λ n. n + 1) (sym (len-map_values (goal_after from to) (map.remove m to)))
    ∙ sym (map.len-insert nat_list_cmp_total others from to ∙ ap (λ b. cond b (map.len others) (map.len others + 1)) none)
  where
    nothing : (b : Bool) → is_some (cond {A = Option (List ℕ)} b None None) ≡ false
    nothing true = refl
    nothing false = refl
