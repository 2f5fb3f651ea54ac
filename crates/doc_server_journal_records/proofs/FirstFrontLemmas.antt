-- The record that bytes begin with, part by part.
use Rattle.std.proofs.Common.{◌≡◌, ℕ, ◌+◌, ◌≤◌, List, ◌++◌, length, take, drop, sym, ap, ◌∙◌, arith, length-append, length-take}
use Rattle.std.specs.Int.{w32, to_le_bytes, from_le_bytes}
use Rattle.std.proofs.lemmas.List.{take_at, drop_at, take-append-drop}
use Rattle.doc_server_journal_records.specs.FirstRecords.{text_limit, length_bytes, digest_behind, record_bytes}
use Rattle.doc_server_journal_records.specs.FirstReadings.{IsRecord}
use Rattle.doc_server_journal_records.proofs.FirstRecordLemmas.{length_digest_behind, length_length, length_record, written_length, split_record, in_parts}

length_of : (text : List ℕ) (len : ℕ) → length text ≡ len → length_bytes text ≡ to_le_bytes w32 len
unfolding length_bytes
length_of text len same = ap (λ n. to_le_bytes w32 n) same

pub is_front : (before bytes head behind text after written rest digest : List ℕ) (len : ℕ) → head ≡ take 4 bytes → behind ≡ drop 4 bytes
    → to_le_bytes w32 len ≡ head → len ≤ text_limit → len + 32 ≤ length behind → text ≡ take len behind → after ≡ drop len behind
    → written ≡ take 32 after → rest ≡ drop 32 after → written ≡ digest → digest ≡ digest_behind before text
    → IsRecord before text bytes rest
is_front before bytes head behind text after written rest digest len head_is behind_is len_is fits room text_is after_is written_is
    rest_is same
    digest_is =
    let long : length text ≡ len = omega (arith, ap length text_is, length-take len behind) in
    let first : bytes ≡ head ++ behind = sym (take-append-drop 4 bytes) ∙ ap (λ l. l ++ drop 4 bytes) (sym head_is)
    ∙ ap (λ l. head ++ l) (sym behind_is) in
    let second : behind ≡ text ++ after =
    sym (take-append-drop len behind) ∙ ap (λ l. l ++ drop len behind) (sym text_is) ∙ ap (λ l. text ++ l) (sym after_is) in
    let third : after ≡ written ++ rest =
    sym (take-append-drop 32 after) ∙ ap (λ l. l ++ drop 32 after) (sym written_is) ∙ ap (λ l. written ++ l) (sym rest_is) in
    let whole : bytes ≡ head ++ (text ++ (written ++ rest)) = first ∙ ap (λ l. head ++ l) (second ∙ ap (λ l. text ++ l) third) in
    record {
      within = omega (arith, fits, long);
      split = whole ∙ ap (λ l. l ++ (text ++ (written ++ rest))) (sym (length_of text len long ∙ len_is))
          ∙ ap (λ l. length_bytes text ++ (text ++ (l ++ rest))) (same ∙ digest_is)
          ∙ sym (split_record before text rest);
    }

module _ (before bytes t r : List ℕ) (is : IsRecord before t bytes r) where
  its_parts : bytes ≡ in_parts before t r
  its_parts = is.split ∙ split_record before t r

  pub long_enough : 36 + length t + length r ≡ length bytes
  long_enough = omega (arith, ap length is.split, length-append (record_bytes before t) r, length_record before t)

  module _ (head behind : List ℕ) (head_is : head ≡ take 4 bytes) (behind_is : behind ≡ drop 4 bytes) where
    pub behind_parts : behind ≡ t ++ (digest_behind before t ++ r)
    behind_parts = behind_is ∙ ap (λ l. drop 4 l) its_parts ∙ drop_at (length_bytes t) (t ++ (digest_behind before t ++ r)) 4
        (length_length t)

    pub head_part : head ≡ length_bytes t
    head_part = head_is ∙ ap (λ l. take 4 l) its_parts ∙ take_at (length_bytes t) (t ++ (digest_behind before t ++ r)) 4 (length_length t)

    pub len_is : (len : ℕ) → len ≡ from_le_bytes w32 head → len ≡ length t
    len_is len same = same ∙ ap (λ l. from_le_bytes w32 l) head_part ∙ written_length t is.within

    pub room : length t + 32 ≤ length behind
    room =
        omega (
          arith,
          ap length behind_parts,
          length-append t (digest_behind before t ++ r),
          length-append (digest_behind before t) r,
          length_digest_behind before t,
        )

    pub right_digest : (text after written digest : List ℕ) (len : ℕ) → len ≡ from_le_bytes w32 head → text ≡ take len behind
        → after ≡ drop len behind
        → written ≡ take 32 after → digest ≡ digest_behind before text → written ≡ digest
    right_digest text after written digest len same text_is after_is written_is digest_is =
        let long = sym (len_is len same) in
        let t_is : text ≡ t = text_is ∙ ap (λ l. take len l) behind_parts ∙ take_at t (digest_behind before t ++ r) len long in
        let rest_is : after ≡ digest_behind before t ++ r =
        after_is ∙ ap (λ l. drop len l) behind_parts ∙ drop_at t (digest_behind before t ++ r) len long in
        written_is ∙ ap (λ l. take 32 l) rest_is ∙ take_at (digest_behind before t) r 32 (length_digest_behind before t)
        ∙ ap (λ x. digest_behind before x) (sym t_is)
        ∙ sym digest_is
