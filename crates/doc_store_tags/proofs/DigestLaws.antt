-- Equal tags are equal digests.
use Rattle.std.proofs.Common.{◌≡◌, ℕ, zero, suc, ◌*◌, ◌<◌, List, [], ◌∷◌, ◌++◌}
use Rattle.std.proofs.Common.{length, take, drop, refl, sym, ap, ◌∙◌, arith, length-append, codes}
use Rattle.std.specs.Prelude.{slice_index}
use Rattle.std.specs.Int.{w32, to_be_bytes, byte_at, bytes_high_first}
use Rattle.std.proofs.lemmas.List.{take_at}
use Rattle.hex.specs.Hex.{IsBytes, encode_lower, lower_digits}
use Rattle.hex.proofs.HexLemmas.{decode_of-encode_lower, decode_of-same, length-encode_with}
use Rattle.sha2.specs.Sha256.{sha256, digest_bytes, final_hash, initial_hash_256}
use Rattle.doc_store_readers.specs.Pages.{Page}
use Rattle.doc_store_tags.specs.Tags.{tagged, tag_of}

-- ---- a digest is 32 bytes

length_digest : (h : List ℕ) (n : ℕ) → length (digest_bytes h n) ≡ 4 * n
unfolding digest_bytes
length_digest h zero = refl
length_digest h (suc n) =
    let four : length (to_be_bytes w32 (slice_index h n)) ≡ 4 = refl in
    omega (arith, length-append (digest_bytes h n) (to_be_bytes w32 (slice_index h n)), length_digest h n, four)

length_sha : (message : List ℕ) → length (sha256 message) ≡ 32
unfolding sha256
length_sha message = omega (arith, length_digest (final_hash initial_hash_256 message) 8)

byte_small : (k n : ℕ) → byte_at k n < 256
byte_small zero n = omega arith
byte_small (suc k) n = omega arith

high_small : (k n i : ℕ) → slice_index (bytes_high_first k n) i < 256
high_small zero n i = omega arith
high_small (suc k) n zero = byte_small k n
high_small (suc k) n (suc i) = high_small k n i

append_small : (xs ys : List ℕ) → IsBytes xs → IsBytes ys → (i : ℕ) → slice_index (xs ++ ys) i < 256
append_small [] ys small tiny i = tiny i
append_small (x ∷ xs) ys small tiny zero = small 0
append_small (x ∷ xs) ys small tiny (suc i) = append_small xs ys (λ k. small (suc k)) tiny i

digest_small : (h : List ℕ) (n : ℕ) → IsBytes (digest_bytes h n)
unfolding digest_bytes
digest_small h zero = λ i. omega arith
digest_small h (suc n) =
    append_small (digest_bytes h n) (to_be_bytes w32 (slice_index h n)) (digest_small h n) (high_small 4 (slice_index h n))

sha_small : (message : List ℕ) → IsBytes (sha256 message)
unfolding sha256
sha_small message = digest_small (final_hash initial_hash_256 message) 8

-- ---- their digits, between quotes

digits_apart : (a b : List ℕ) → length a ≡ 32 → length b ≡ 32 → IsBytes a → IsBytes b
    → codes "\"" ++ encode_lower a ++ codes "\"" ≡ codes "\"" ++ encode_lower b ++ codes "\"" → a ≡ b
digits_apart a b long wide small tiny same =
    let here : length (encode_lower a) ≡ 64 = omega (arith, length-encode_with lower_digits a) in
    let there : length (encode_lower b) ≡ 64 = omega (arith, length-encode_with lower_digits b) in
    let digits : encode_lower a ≡ encode_lower b = sym (take_at (encode_lower a) (codes "\"") 64 here) ∙ ap (λ l. take 64 (drop 1 l)) same
    ∙ take_at (encode_lower b) (codes "\"") 64 there in
    decode_of-same (encode_lower a) a b (decode_of-encode_lower a small) (rw digits (decode_of-encode_lower b tiny))

pub equal_digests : (page other : Page) → tag_of page ≡ tag_of other → sha256 (tagged page) ≡ sha256 (tagged other)
unfolding tag_of
equal_digests page other same =
    digits_apart (sha256 (tagged page)) (sha256 (tagged other)) (length_sha (tagged page)) (length_sha (tagged other))
    (sha_small (tagged page)) (sha_small (tagged other)) same
