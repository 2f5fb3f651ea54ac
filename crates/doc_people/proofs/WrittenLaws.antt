-- Laws of what is told of a broken link.
use Rattle.std.proofs.Common.{◌≡◌, append_assoc, ℕ, ◌+◌, List, [], ◌∷◌, ◌++◌, true, false, not, codes, cond, length, take, drop, refl, ap, sym}
use Rattle.std.proofs.Common.{◌∙◌, arith}
use Rattle.std.specs.Prelude.{nat_lt}
use Rattle.std.specs.List.{list_all, list_any, position_or_len}
use Rattle.std.specs.Str.{is_utf8}
use Rattle.std.proofs.Math.Seq.{drop-append-add, take-append_seam}
use Rattle.std.proofs.lemmas.Bool.{and_parts, cond_both, ltb-true, or_parts, true≢false}
use Rattle.percent_encoding.specs.Percent.{percent_decode, percent_encode_byte}
use Rattle.percent_encoding.proofs.PercentLemmas.{percent_decode-nil, percent_decode-percent_encode_byte, percent_decode_not_percent}
use Rattle.doc_page_encoding.specs.Encoding.{encoded, is_unreserved}
use Rattle.doc_resolve.specs.Links.{decoded_text}
use Rattle.doc_people.specs.BrokenLinks.{is_hash, written_anchor, written_path}
use Rattle.doc_people.specs.Laws.{WrittenAnchorsAreRead, WrittenPathsAreRead}

-- the first `#` stands behind a path that has none
hash_at : (path rest : List ℕ) → list_any is_hash path ≡ false → position_or_len is_hash (path ++ 35 ∷ rest) ≡ length path
hash_at [] rest none = refl
hash_at (b ∷ path) rest none =
    let parts = or_parts (is_hash b) (list_any is_hash path) none in
    let more = hash_at path rest parts.1 in
    let one : 1 + length path ≡ length (b ∷ path) = omega arith in
    ap (λ v. cond (not v) (1 + position_or_len is_hash (path ++ 35 ∷ rest)) 0) parts.0 ∙ ap (λ n. 1 + n) more ∙ one

pub written_paths_are_read : WrittenPathsAreRead
written_paths_are_read path anchor none =
    ap written_path (append_assoc path (codes "#") (encoded anchor))
    ∙ ap (λ n. take n (path ++ 35 ∷ encoded anchor)) (hash_at path (encoded anchor) none) ∙ take-append_seam path (35 ∷ encoded anchor)

decoded : (text : List ℕ) → list_all (λ b. nat_lt b 256) text ≡ true → percent_decode (encoded text) ≡ text
unfolding encoded
decoded [] bytes = percent_decode-nil
decoded (b ∷ text) bytes =
    let parts = and_parts (nat_lt b 256) (list_all (λ c. nat_lt c 256) text) bytes in
    let rest = ap (λ t. b ∷ t) (decoded text parts.1) in
    cond_both (is_unreserved b) (b ∷ []) (percent_encode_byte b) (λ front. percent_decode (front ++ encoded text) ≡ b ∷ text)
    (λ kept. percent_decode_not_percent b (encoded text) (λ e. true≢false (sym kept ∙ ap is_unreserved e)) ∙ rest)
    (λ _. percent_decode-percent_encode_byte b (encoded text) (ltb-true b 256 parts.0) ∙ rest)

read : (text : List ℕ) → list_all (λ b. nat_lt b 256) text ≡ true → is_utf8 text ≡ true → decoded_text (encoded text) ≡ text
read text bytes utf8 =
    ap (λ d. cond (is_utf8 d) d (encoded text)) (decoded text bytes) ∙ ap (λ b. cond b text (encoded text)) utf8

pub written_anchors_are_read : WrittenAnchorsAreRead
written_anchors_are_read path anchor none bytes utf8 =
    ap written_anchor (append_assoc path (codes "#") (encoded anchor))
    ∙ ap (λ n. decoded_text (drop (n + 1) (path ++ 35 ∷ encoded anchor))) (hash_at path (encoded anchor) none)
    ∙ ap decoded_text (drop-append-add path (35 ∷ encoded anchor) 1) ∙ read anchor bytes utf8
