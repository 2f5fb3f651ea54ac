-- The paths that links write, one link after the other.
use Rattle.std.proofs.Common.{◌≡◌, ◌∙◌, ℕ, ◌+◌, ◌<◌, length, take, get_or, String, string_bytes, string_cmp, List, [], ◌∷◌, ◌++◌, Bool, true, false, cond, ap, refl, sym}
use Rattle.std.specs.Prelude.{map as mapped, ◌||◌, is_some}
use Rattle.std.specs.BTreeMap.{BTreeMap, IsOrdered}
use Rattle.std.specs.Cmp.Lexicographic.{slice_cmp}
use Rattle.std.specs.FinMap as map
use Rattle.std.specs.List.{list_any}
use Rattle.std.specs.Map.{keys_of}
use Rattle.std.specs.Ordering.{nat_cmp}
use Rattle.std.proofs.lemmas.Cmp.{nat_list_cmp_total}
use Rattle.std.proofs.lemmas.List.{take_more}
use Rattle.std.proofs.lemmas.List.Folds.{list_any-append}
use Rattle.std.proofs.lemmas.Map.Lookups.{exact_bytes}
use Rattle.doc_index_tables.specs.Maps.{by_bytes, text_map}
use Rattle.doc_index_tables.proofs.EntrySteps.{sorted_bytes}
use Rattle.doc_links_pages.specs.Names.{writes}
use Rattle.doc_page_parts.proofs.Maps.{entries_in_order}
use Rattle.doc_resolve.specs.declared.link_kind.LinkKind.{LinkKind}
use Rattle.doc_rows.specs.Rows.{TextSet}
use Rattle.doc_rows_links.specs.LinkRows.{AreTargets}
use Rattle.doc_rows_links.specs.LinkSteps.{HasTarget}
use Rattle.doc_store_readers.proofs.KeySteps.{same_key, contains_set}

module _ {A X : Type 0} where
  keys_bytes : (es : List (String A × X)) → mapped string_bytes (keys_of es) ≡ keys_of (by_bytes es)
  keys_bytes [] = refl
  keys_bytes (e ∷ es) = ap (λ ks. string_bytes e.0 ∷ ks) (keys_bytes es)

  -- the keys of a map of texts, in order
  pub keys_are : (m : BTreeMap (String A) X) → IsOrdered string_cmp m → mapped string_bytes (keys_of m.entries) ≡ map.keys (text_map m)
  keys_are m ordered =
      keys_bytes m.entries
      ∙ ap keys_of (sym (entries_in_order nat_list_cmp_total exact_bytes (by_bytes m.entries) (sorted_bytes m.entries ordered)))

plain : (b : Bool) → b ≡ (b || false)
plain true = refl
plain false = refl

-- a link that writes no path
pub nothing_more : (old : TextSet) (link : LinkKind) → ((t : List ℕ) → writes t link ≡ false) → HasTarget old link old
nothing_more old link none = λ t. plain (map.contains_key old t) ∙ ap (λ b. map.contains_key old t || b) (sym (none t))

-- a link that writes this path
pub one_more : (old new : TextSet) (link : LinkKind) (path : List ℕ) → ((t : List ℕ) → writes t link ≡ same_key t path)
    → new ≡ map.insert old path tt → HasTarget old link new
one_more old new link path wrote is = λ t.
    ap (λ m. map.contains_key m t) is ∙ contains_set old path tt t ∙ by (same_key t path) (map.contains_key old t)
    ∙ ap (λ b. map.contains_key old t || b) (sym (wrote t))
  where
    by : (a b : Bool) → cond a true b ≡ (b || a)
    by true true = refl
    by true false = refl
    by false true = refl
    by false false = refl

pub no_targets : (targets : TextSet) → targets ≡ map.empty → AreTargets [] targets
no_targets targets is = λ t. ap (λ m. map.contains_key m t) is ∙ ap is_some (map.get-empty (slice_cmp nat_cmp) t)

pub next_target : (links : List LinkKind) (i : ℕ) (x : LinkKind) (old new : TextSet) → i < length links → x ≡ get_or links i x
    → AreTargets (take i links) old → HasTarget old x new → AreTargets (take (i + 1) links) new
next_target links i x old new within at are has = λ t.
    has t ∙ (λ j. are t j || plain (writes t x) j)
    ∙ sym (list_any-append (writes t) (take i links) (x ∷ []))
    ∙ ap (list_any (writes t)) (ap (λ r. take i links ++ r ∷ []) at ∙ sym (take_more links i x within))
