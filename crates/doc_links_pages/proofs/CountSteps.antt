-- Counts of the paths that links write.
use Rattle.std.proofs.Common.{◌≡◌, ℕ, ◌+◌, List, Bool, true, false, cond, refl, ap, arith, sym, ◌∙◌}
use Rattle.std.specs.Prelude.{◌≢◌, Option, Some, None, bytes_eq, unwrap_or}
use Rattle.std.specs.Cmp.Lexicographic.{slice_cmp}
use Rattle.std.specs.FinMap as map
use Rattle.std.specs.Ordering.{eq_by_cmp, nat_cmp}
use Rattle.std.proofs.lemmas.Cmp.{nat_list_cmp_total}
use Rattle.std.proofs.lemmas.Map.Lookups.{exact_bytes}
use Rattle.std.proofs.lemmas.Map.Text.{is_eq-slice_cmp}
use Rattle.doc_index_tables.specs.Maps.{TextMap}
use Rattle.doc_links_pages.specs.KnownSteps.{HasKeys, HasSome, count_at}
use Rattle.doc_resolve.specs.declared.link_kind.LinkKind.{LinkKind}
use Rattle.doc_page_parts.proofs.Orders.{is_eq_true}
use Rattle.doc_page_parts.proofs.Texts.{bytes_eq_true}

none_less : (n : ℕ) → n ≡ n + 0
none_less n = omega arith

pub same_bytes : (x y : List ℕ) → bytes_eq x y ≡ true → x ≡ y
same_bytes x y e = exact_bytes x y (is_eq_true (slice_cmp nat_cmp x y) (is_eq-slice_cmp x y ∙ e))

-- at first nothing is counted
pub none_counted : (path : List ℕ) → count_at map.empty path ≡ 0
none_counted path = ap (λ o. unwrap_or o 0) (map.get-empty (slice_cmp nat_cmp) path)

-- a path is counted once more
pub one_counted : (old new : TextMap ℕ) (written : List ℕ) → new ≡ map.insert old written (count_at old written + 1) → (path : List ℕ)
    → count_at new path ≡ count_at old path + cond (bytes_eq path written) 1 0
one_counted old new written is path =
    ap (λ m. count_at m path) is
    ∙ ap (λ o. unwrap_or o 0) (map.get-insert nat_list_cmp_total old written (count_at old written + 1) path)
    ∙ ap (λ b. unwrap_or (cond b (Some (count_at old written + 1)) (map.get old path)) 0) (is_eq-slice_cmp path written)
    ∙ by (bytes_eq path written) refl
  where
    by : (b : Bool) → bytes_eq path written ≡ b
        → unwrap_or (cond b (Some (count_at old written + 1)) (map.get old path)) 0 ≡ count_at old path + cond b 1 0
    by true e = ap (λ p. count_at old p + 1) (sym (bytes_eq_true path written e))
    by false e = none_less (count_at old path)

no_value : {n : ℕ} → None ≡ Some n → ⊥
no_value is = cc

-- nothing has the count 0
pub none_some : HasSome map.empty
none_some path is = no_value (sym (map.get-empty (slice_cmp nat_cmp) path) ∙ is)

not_zero : (n : ℕ) → Some (n + 1) ≡ Some 0 → ⊥
not_zero n is = let same : n + 1 ≡ 0 = cc in absurd (omega (arith, same))

-- a path that is counted once more has no count of 0
pub one_some : (old new : TextMap ℕ) (written : List ℕ) → new ≡ map.insert old written (count_at old written + 1) → HasSome old
    → HasSome new
one_some old new written made some path is =
    by (eq_by_cmp (slice_cmp nat_cmp) path written)
    (sym (ap (λ m. map.get m path) made ∙ map.get-insert nat_list_cmp_total old written (count_at old written + 1) path) ∙ is)
  where
    by : (b : Bool) → cond b (Some (count_at old written + 1)) (map.get old path) ≡ Some 0 → ⊥
    by true e = not_zero (count_at old written) e
    by false e = some path e

same_count : (x y : Option ℕ) → unwrap_or x 0 ≡ unwrap_or y 0 → x ≢ Some 0 → y ≢ Some 0 → x ≡ y
same_count None None same a b = refl
same_count None (Some n) same a b = absurd (b (ap Some (sym same)))
same_count (Some n) None same a b = absurd (a (ap Some same))
same_count (Some m) (Some n) same a b = ap Some same

-- links have the counts of one map alone
pub same_keys : (links : List LinkKind) (a b : TextMap ℕ) → HasKeys links a → HasKeys links b → a ≡ b
same_keys links a b has_a has_b =
    map.same_map nat_list_cmp_total exact_bytes a b (λ path.
    same_count (map.get a path) (map.get b path) (has_a.0 path ∙ sym (has_b.0 path)) (has_a.1 path) (has_b.1 path))
