-- Maps as contracts see them: how many keys they have, and those by `String` keys.
use Rattle.std.proofs.Common.{◌≡◌, ℕ, List, [], ◌∷◌, Bool, cond, String, string_bytes, refl, ap, sym}
use Rattle.std.proofs.Common.{◌∙◌}
use Rattle.std.specs.Prelude.{Some, None}
use Rattle.std.specs.declared.cmp.Ordering.{Ordering}
use Rattle.std.specs.BTreeMap.{BTreeMap, Updates, UpdatesBy, is_at}
use Rattle.std.specs.Map.{lookup, keys_of}
use Rattle.std.specs.List.{filter}
use Rattle.std.specs.List.Sorted.{IsStrictlySortedBy}
use Rattle.std.specs.Ordering.{nat_cmp, is_eq}
use Rattle.std.specs.String.{string_cmp}
use Rattle.std.specs.Cmp.{IsTotalOrder, eq_by_cmp_equiv}
use Rattle.std.specs.Cmp.Lexicographic.{slice_cmp}
use Rattle.std.specs.FinMap as map
use Rattle.std.proofs.lemmas.Cmp.{nat_list_cmp_total}
use Rattle.std.proofs.lemmas.Map.Entries.{lookup-filter-values, option_filter}
use Rattle.std.proofs.lemmas.Map.Keys.{IsDistinct-from_sorted}
use Rattle.std.proofs.lemmas.Map.Lookups.{CmpEqualImpliesEq, exact_bytes}
use Rattle.std.proofs.lemmas.Map.Text.{btree_map_updates_text, is_eq-slice_cmp}
use Rattle.doc_page_parts.proofs.Maps.{inserted, looked_up, removed}
use Rattle.doc_store_readers.specs.declared.reader.Reader.{Reader}
use Rattle.doc_store_readers.specs.Readers.{entries_shown}

module _ {K X : Type 0} {R : K → K → Ordering} (total : IsTotalOrder R) (exact : CmpEqualImpliesEq R) where
  -- what sorted entries have at a key, once some of them are left out by their values
  pub get_filtered : (p : X → Bool) (es : List (K × X)) (q : K) → IsStrictlySortedBy R (keys_of es)
      → map.get (map.from_entries {R = R} (filter (λ e. p e.1) es)) q ≡ option_filter p (map.get (map.from_entries {R = R} es) q)
  get_filtered p es q sorted =
      sym (looked_up total exact (filter (λ e. p e.1) es) q)
      ∙ lookup-filter-values (eq_by_cmp_equiv total) p q es (IsDistinct-from_sorted R (keys_of es) sorted)
      ∙ ap (option_filter p) (looked_up total exact es q)

-- a look-up by bytes among `String` keys
pub looked_up_shown : {A : Type 0} (es : List (String A × Reader)) (token : List ℕ)
    → lookup (is_at (λ k. slice_cmp nat_cmp token (string_bytes k))) es ≡ lookup (is_at (slice_cmp nat_cmp token)) (entries_shown es)
looked_up_shown [] token = refl
looked_up_shown (e ∷ es) token = ap (cond (is_eq (slice_cmp nat_cmp token (string_bytes e.0))) (Some e.1)) (looked_up_shown es token)

-- an insertion at a `String` key is one at its bytes
pub inserted_shown : {A : Type 0} (m n : BTreeMap (String A) Reader) (key : String A) (reader : Reader)
    → Updates string_cmp m n key (Some reader)
    → map.from_entries {R = slice_cmp nat_cmp} (entries_shown n.entries)
    ≡ map.insert (map.from_entries (entries_shown m.entries)) (string_bytes key) reader
inserted_shown m n key reader updates =
    inserted nat_list_cmp_total exact_bytes (entries_shown m.entries) (entries_shown n.entries) (string_bytes key) reader (λ token.
    sym (looked_up_shown n.entries token) ∙ btree_map_updates_text (string_bytes key) m n (Some reader) updates token
    ∙ ap (λ b. cond b (Some reader) (lookup (is_at (λ k. slice_cmp nat_cmp token (string_bytes k))) m.entries))
    (sym (is_eq-slice_cmp (string_bytes key) token))
    ∙ ap (cond (is_eq (slice_cmp nat_cmp (string_bytes key) token)) (Some reader)) (looked_up_shown m.entries token))

-- the same for a removal
pub removed_shown : {A : Type 0} (m n : BTreeMap (String A) Reader) (token : List ℕ)
    → UpdatesBy string_cmp (λ k. slice_cmp nat_cmp token (string_bytes k)) m n None
    → map.from_entries {R = slice_cmp nat_cmp} (entries_shown n.entries) ≡ map.remove (map.from_entries (entries_shown m.entries)) token
removed_shown m n token updates =
    removed nat_list_cmp_total exact_bytes (entries_shown m.entries) (entries_shown n.entries) token (λ q.
    sym (looked_up_shown n.entries q) ∙ btree_map_updates_text token m n None updates q
    ∙ ap (λ b. cond b None (lookup (is_at (λ k. slice_cmp nat_cmp q (string_bytes k))) m.entries)) (sym (is_eq-slice_cmp token q))
    ∙ ap (cond (is_eq (slice_cmp nat_cmp token q)) None) (looked_up_shown m.entries q))
