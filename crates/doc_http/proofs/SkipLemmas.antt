-- The bytes from the first that fails a test.
use Rattle.std.proofs.Common.{◌≡◌, ℕ, ◌+◌, ◌-◌, ◌≤◌, Bool, true, false, List, [], ◌∷◌, ◌++◌, cond, length, take, drop, reverse, refl, sym}
use Rattle.std.proofs.Common.{ap, ◌∙◌, arith, length-drop}
use Rattle.std.proofs.Math.Seq.{drop-append_seam}
use Rattle.std.proofs.lemmas.List.{reverse-append, reverse-reverse, length-reverse, take-append-drop}
use Rattle.std.proofs.lemmas.List.Sums.{prefix_len-le-length}
use Rattle.std.specs.List.{prefix_len}
use Rattle.httparse.specs.Grammar.{is_ows, skip_ows, trim_ows}
use Rattle.doc_page_parts.specs.Lines.{stripped}

skip_ows_is : (bytes : List ℕ) → drop (prefix_len is_ows bytes) bytes ≡ skip_ows bytes
skip_ows_is [] = refl
skip_ows_is (b ∷ rest) = by_test (is_ows b) (skip_ows_is rest)
  where
    by_test : (t : Bool) → drop (prefix_len is_ows rest) rest ≡ skip_ows rest
        → drop (cond t (1 + prefix_len is_ows rest) 0) (b ∷ rest) ≡ cond t (skip_ows rest) (b ∷ rest)
    by_test true h = grind (arith, h)
    by_test false h = refl

-- the bytes before the last k
without_last : (bytes : List ℕ) (k : ℕ) → k ≤ length bytes → reverse (drop k (reverse bytes)) ≡ take (length bytes - k) bytes
without_last bytes k within =
    let n = length bytes - k in
    let split : reverse bytes ≡ reverse (drop n bytes) ++ reverse (take n bytes) = ap reverse (sym (take-append-drop n bytes))
    ∙ reverse-append (take n bytes) (drop n bytes) in
    let len : k ≡ length (reverse (drop n bytes)) = omega (arith, length-reverse (drop n bytes), length-drop n bytes) in
    let behind : drop k (reverse bytes) ≡ reverse (take n bytes) = ap (drop k) split
    ∙ ap (λ j. drop j (reverse (drop n bytes) ++ reverse (take n bytes))) len
    ∙ drop-append_seam (reverse (drop n bytes)) (reverse (take n bytes)) in
    ap reverse behind ∙ reverse-reverse (take n bytes)

pub trimmed : (bytes : List ℕ)
    → take (length (drop (prefix_len is_ows bytes) bytes) - prefix_len is_ows (reverse (drop (prefix_len is_ows bytes) bytes)))
    (drop (prefix_len is_ows bytes) bytes) ≡ trim_ows bytes
unfolding trim_ows
trimmed bytes =
    let front = drop (prefix_len is_ows bytes) bytes in
    let within : prefix_len is_ows (reverse front) ≤ length front = omega
    (arith, prefix_len-le-length is_ows (reverse front), length-reverse front) in
    sym (without_last front (prefix_len is_ows (reverse front)) within) ∙ ap reverse (skip_ows_is (reverse front))
    ∙ ap (λ t. reverse (skip_ows (reverse t))) (skip_ows_is bytes)

-- white space of fields is that of lines
pub trimmed_is_stripped : (bytes : List ℕ) → trim_ows bytes ≡ stripped bytes
unfolding stripped
trimmed_is_stripped bytes = sym (trimmed bytes)
