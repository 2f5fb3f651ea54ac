-- Whom a token finds, once a reader was set or removed.
use Rattle.std.proofs.Common.{◌≡◌, ℕ, List, false, cond, ap, sym, ◌∙◌}
use Rattle.std.specs.Prelude.{bytes_eq, Some, None}
use Rattle.std.specs.FinMap as map
use Rattle.std.specs.Cmp.Lexicographic.{slice_cmp}
use Rattle.std.specs.Ordering.{nat_cmp}
use Rattle.sha2.specs.Sha256.{sha256}
use Rattle.doc_store_readers.specs.declared.reader.Reader.{Reader}
use Rattle.doc_store_readers.specs.Laws.{OthersStay, WhoIsRemovedIsGone, WhoIsSetIsFound}
use Rattle.doc_store_readers.specs.Maps.{TextMap}
use Rattle.doc_store_readers.specs.Readers.{find_in, first_of, no_readers, with_reader, without_reader}
use Rattle.doc_store_readers.proofs.KeySteps.{bytes_eq_is, get_set, get_taken, same_itself}

module _ (m : TextMap Reader) (key : List ℕ) where
  set_here : (reader : Reader) → map.get (map.insert m key reader) key ≡ Some reader
  set_here reader = get_set m key reader key ∙ ap (λ b. cond b (Some reader) (map.get m key)) (same_itself key)

  taken_here : map.get (map.remove m key) key ≡ None
  taken_here = get_taken m key key ∙ ap (λ b. cond b None (map.get m key)) (same_itself key)

  module _ (other : List ℕ) (apart : bytes_eq other key ≡ false) where
    set_elsewhere : (reader : Reader) → map.get (map.insert m key reader) other ≡ map.get m other
    set_elsewhere reader = get_set m key reader other ∙ ap (λ b. cond b (Some reader) (map.get m other)) (sym (bytes_eq_is other key) ∙ apart)

    taken_elsewhere : map.get (map.remove m key) other ≡ map.get m other
    taken_elsewhere = get_taken m key other ∙ ap (λ b. cond b None (map.get m other)) (sym (bytes_eq_is other key) ∙ apart)

-- where there are no readers, nobody is found
pub nobody_found : (token : List ℕ) → find_in no_readers token ≡ None
unfolding find_in
nobody_found token =
    λ i. first_of (map.get-empty (slice_cmp nat_cmp) token i) (map.get-empty (slice_cmp nat_cmp) (sha256 token) i)

pub who_is_set_is_found : WhoIsSetIsFound
unfolding find_in with_reader
who_is_set_is_found readers token reader =
    ap (λ found. first_of found (map.get (map.remove readers.by_digest (sha256 token)) (sha256 token))) (set_here readers.by_token token reader)

pub who_is_removed_is_gone : WhoIsRemovedIsGone
unfolding find_in without_reader
who_is_removed_is_gone readers token = λ i. first_of (taken_here readers.by_token token i) (taken_here readers.by_digest (sha256 token) i)

pub others_stay : OthersStay
unfolding find_in with_reader without_reader
others_stay readers token other apart digests = (
  λ reader. λ i. first_of (set_elsewhere readers.by_token token other apart reader i)
      (taken_elsewhere readers.by_digest (sha256 token) (sha256 other) digests i),
  λ i. first_of (taken_elsewhere readers.by_token token other apart i)
      (taken_elsewhere readers.by_digest (sha256 token) (sha256 other) digests i),
)
