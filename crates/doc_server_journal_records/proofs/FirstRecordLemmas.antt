-- Records at the front of bytes.
use Rattle.std.proofs.Common.{◌≡◌, ℕ, zero, suc, ◌+◌, ◌*◌, ◌≤◌, List, ◌++◌, length, take, drop, refl, sym, ap, ◌∙◌, arith, length-append, append_assoc}
use Rattle.std.specs.Prelude.{slice_index}
use Rattle.std.specs.Int.{w32, to_be_bytes, from_le_bytes}
use Rattle.std.proofs.lemmas.List.{take_at, drop_at}
use Rattle.std.proofs.lemmas.Nat.{from_le_bytes-to_le_bytes_4}
use Rattle.sha2.specs.Sha256.{sha256, digest_bytes, final_hash, initial_hash_256}
use Rattle.doc_server_journal_records.specs.FirstRecords.{text_limit, length_bytes, digest_behind, record_bytes}
use Rattle.doc_server_journal_records.specs.FirstReadings.{IsRecord}

length_be : (n : ℕ) → length (to_be_bytes w32 n) ≡ 4
length_be n = refl

length_digest : (h : List ℕ) (n : ℕ) → length (digest_bytes h n) ≡ 4 * n
unfolding digest_bytes
length_digest h zero = refl
length_digest h (suc n) =
    omega (arith, length-append (digest_bytes h n) (to_be_bytes w32 (slice_index h n)), length_digest h n, length_be (slice_index h n))

pub length_sha : (message : List ℕ) → length (sha256 message) ≡ 32
unfolding sha256
length_sha message = omega (arith, length_digest (final_hash initial_hash_256 message) 8)

pub length_digest_behind : (before text : List ℕ) → length (digest_behind before text) ≡ 32
unfolding digest_behind
length_digest_behind before text = length_sha (before ++ length_bytes text ++ text)

pub length_length : (text : List ℕ) → length (length_bytes text) ≡ 4
unfolding length_bytes
length_length text = refl

pub length_record : (before text : List ℕ) → length (record_bytes before text) ≡ 36 + length text
length_record before text =
    omega (
      arith,
      length-append (length_bytes text ++ text) (digest_behind before text),
      length-append (length_bytes text) text,
      length_length text,
      length_digest_behind before text,
    )

-- the length of a text, as it was written
pub written_length : (text : List ℕ) → length text ≤ text_limit → from_le_bytes w32 (length_bytes text) ≡ length text
unfolding length_bytes text_limit
written_length text fits = from_le_bytes-to_le_bytes_4 (length text) (omega (arith, fits))

-- two parts, the first of one length
pub parts : (a b x y : List ℕ) → length a ≡ length b → a ++ x ≡ b ++ y → (a ≡ b) × (x ≡ y)
parts a b x y len same = (
  sym (take_at a x (length a) refl) ∙ ap (λ l. take (length a) l) same ∙ take_at b y (length a) (sym len),
  sym (drop_at a x (length a) refl) ∙ ap (λ l. drop (length a) l) same ∙ drop_at b y (length a) (sym len),
)

-- a record and the rest, in four parts
abbrev pub in_parts : List ℕ → List ℕ → List ℕ → List ℕ
in_parts before text rest = length_bytes text ++ (text ++ (digest_behind before text ++ rest))

pub split_record : (before text rest : List ℕ) → record_bytes before text ++ rest ≡ in_parts before text rest
split_record before text rest =
    append_assoc (length_bytes text ++ text) (digest_behind before text) rest
    ∙ append_assoc (length_bytes text) text (digest_behind before text ++ rest)

-- bytes begin with one record at most
pub record_unique : (before bytes t u r s : List ℕ) → IsRecord before t bytes r → IsRecord before u bytes s → (t ≡ u) × (r ≡ s)
record_unique before bytes t u r s x y =
    let same = sym (split_record before t r) ∙ sym x.split ∙ y.split ∙ split_record before u s in
    let heads = parts (length_bytes t) (length_bytes u) (t ++ (digest_behind before t ++ r)) (u ++ (digest_behind before u ++ s))
    (length_length t ∙ sym (length_length u)) same in
    let len : length t ≡ length u = sym (written_length t x.within) ∙ ap (λ l. from_le_bytes w32 l) heads.0 ∙ written_length u y.within in
    let texts = parts t u (digest_behind before t ++ r) (digest_behind before u ++ s) len heads.1 in
    let digests = parts (digest_behind before t) (digest_behind before u) r s (length_digest_behind before t
    ∙ sym (length_digest_behind before u)) texts.1 in
    (texts.0, digests.1)
