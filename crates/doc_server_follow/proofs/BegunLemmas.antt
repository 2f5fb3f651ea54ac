-- A journal that is followed from now on.
use Rattle.std.proofs.Common.{◌≡◌, ℕ, ◌≤◌, List, [], ◌∷◌, ◌++◌, length, take, refl, ap, ◌∙◌, arith, length-append, append_assoc}
use Rattle.doc_server_journal_records.specs.Records.{Entry, closed_gate, header, seed, chain, texts_of}
use Rattle.doc_server_journal_records.specs.Readings.{IsFound}
use Rattle.doc_server_journal_records.specs.declared.found.Found.{Found}
use Rattle.doc_server_journal_records.proofs.HeaderLemmas.{front_is_header, length_header}
use Rattle.doc_server_follow.specs.Follows.{IsBegun}

counted : (entries : List Entry) → length (texts_of entries) ≡ length entries
counted [] = refl
counted (entry ∷ entries) = omega (arith, counted entries)

module _ (bytes : List ℕ) (found : Found) (is : IsFound bytes found) where
  abbrev behind : List ℕ
  behind = chain (seed is.identity) is.entries ++ closed_gate ∷ is.tail

  headed : bytes ≡ header is.identity ++ behind
  headed = is.records.split ∙ append_assoc (header is.identity) (chain (seed is.identity) is.entries) (closed_gate ∷ is.tail)

  pub has_header : 55 ≤ length bytes
  has_header = omega (
    arith,
    ap (λ (l : List ℕ). length l) headed,
    length-append (header is.identity) behind,
    length_header is.identity is.records.is_identity,
  )

  pub is_begun : (front : List ℕ) (records : ℕ) → front ≡ take 55 bytes → records ≡ length found.texts
      → IsBegun bytes (record {
        followed = record { header = front; end = found.end; records = records; digest = found.digest };
        texts = found.texts;
      })
  is_begun front records front_is records_is = record {
    identity = is.identity;
    entries = is.entries;
    tail = is.tail;
    records = is.records;
    is_tail = is.is_tail;
    texts = is.texts;
    is_at = record {
      is_identity = is.records.is_identity;
      are_entries = is.records.are_entries;
      header = front_is_header bytes front is.identity behind is.records.is_identity front_is headed;
      end = is.end;
      digest = is.digest;
      records = records_is ∙ ap (λ (l : List (List ℕ)). length l) is.texts ∙ counted is.entries;
    };
  }
