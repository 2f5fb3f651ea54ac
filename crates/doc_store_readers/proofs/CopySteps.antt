-- Steps of the copying of readers.
use Rattle.std.proofs.Common.{◌≡◌, ℕ, List, [], ◌∷◌, ◌++◌, String, string_bytes, ap, ◌∙◌}
use Rattle.std.specs.Prelude.{Some}
use Rattle.std.specs.BTreeMap.{BTreeMap, Updates}
use Rattle.std.specs.FinMap as map
use Rattle.std.specs.Cmp.Lexicographic.{slice_cmp}
use Rattle.std.specs.List.{AllByRecursion}
use Rattle.std.specs.List.Sorted.{IsStrictlySortedBy}
use Rattle.std.specs.Map.{keys_of}
use Rattle.std.specs.Ordering.{nat_cmp}
use Rattle.std.specs.String.{string_cmp}
use Rattle.std.specs.declared.cmp.Ordering.TheVariants.{Less}
use Rattle.doc_store_readers.specs.declared.reader.Reader.{Reader}
use Rattle.doc_store_readers.specs.Readers.{by_keys, by_tokens, entries_shown}
use Rattle.doc_store_readers.proofs.EntryCopies.{one_copied, still_whole}
use Rattle.doc_store_readers.proofs.MapSteps.{inserted_shown}

pub token_copied : {A : Type 0} (m n : BTreeMap (String A) Reader) (written token : String A) (copy reader : Reader)
    (done : List (List ℕ × Reader)) (items rest all : List (String A × Reader)) → string_bytes written ≡ string_bytes token → copy ≡ reader
    → Updates string_cmp m n written (Some copy) → by_tokens m.entries ≡ by_keys done → done ++ entries_shown items ≡ entries_shown all
    → items ≡ (token, reader) ∷ rest → IsStrictlySortedBy (slice_cmp nat_cmp) (keys_of (entries_shown all))
    → (after : List (List ℕ × Reader)) × (by_tokens n.entries ≡ by_keys after) × (after ++ entries_shown rest ≡ entries_shown all)
token_copied m n written token copy reader done items rest all same_token same updates is whole step sorted = (
  done ++ (string_bytes token, reader) ∷ [],
  inserted_shown m n written copy updates ∙ (λ i. map.insert (is i) (same_token i) (same i))
      ∙ one_copied done (entries_shown items) (entries_shown rest) (entries_shown all) (string_bytes token) reader whole (ap entries_shown step)
      sorted,
  still_whole done (entries_shown items) (entries_shown rest) (entries_shown all) (string_bytes token) reader whole (ap entries_shown step)
      sorted,
)

-- what is sorted by `String` keys is by their bytes
before_shown : {A : Type 0} (key : String A) (entries : List (String A × Reader))
    → AllByRecursion (λ y. string_cmp key y ≡ Less) (keys_of entries)
    → AllByRecursion (λ y. slice_cmp nat_cmp (string_bytes key) y ≡ Less) (keys_of (entries_shown entries))
before_shown key [] all = tt
before_shown key (entry ∷ entries) all = (all.0, before_shown key entries all.1)

pub sorted_shown : {A : Type 0} (entries : List (String A × Reader)) → IsStrictlySortedBy string_cmp (keys_of entries)
    → IsStrictlySortedBy (slice_cmp nat_cmp) (keys_of (entries_shown entries))
unfolding IsStrictlySortedBy
sorted_shown [] sorted = tt
sorted_shown (entry ∷ entries) sorted = (before_shown entry.0 entries sorted.0, sorted_shown entries sorted.1)
