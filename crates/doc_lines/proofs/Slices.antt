-- A text in UTF-8 is cut where the rest of its characters begins.
use Rattle.std.proofs.Common.{◌≡◌, ℕ, ◌+◌, ◌-◌, ◌≤◌, List, ◌++◌, length, take, drop, chars, ap, sym, ◌∙◌, arith, length-append, subst}
use Rattle.std.proofs.Math.Seq.{take-append_seam, drop-append_seam}
use Rattle.std.specs.Str.{IsUtf8, IsCharBoundary, encode_utf8_all}
use Rattle.std.proofs.lemmas.Str.{encodes-chars, encodes-append, chars-append, IsCharBoundary-at_seam}
use Rattle.std.proofs.lemmas.List.{append_cancel_right}
use Rattle.doc_rules.specs.Parsers.{before}
use Rattle.doc_rules.specs.Rests.{IsRest}
use Rattle.doc_rules.proofs.ParserLaws.{before_rest}

-- the bytes before the rest
abbrev front_bytes : (text rest : List ℕ) → IsRest (chars rest) (chars text) → List ℕ
front_bytes text rest h = encode_utf8_all h.front

pub bytes_join : (text rest : List ℕ) (h : IsRest (chars rest) (chars text)) → IsUtf8 text → IsUtf8 rest
    → text ≡ encode_utf8_all h.front ++ rest
bytes_join text rest h u v =
    sym (encodes-chars text u) ∙ (ap encode_utf8_all h.split
    ∙ (encodes-append h.front (chars rest) ∙ ap (λ r. encode_utf8_all h.front ++ r) (encodes-chars rest v)))

pub rest_is_no_longer : (text rest : List ℕ) → IsRest (chars rest) (chars text) → IsUtf8 text → IsUtf8 rest → length rest ≤ length text
rest_is_no_longer text rest h u v =
    let e : length text ≡ length (front_bytes text rest h ++ rest) = ap length (bytes_join text rest h u v) in
    let f : length (front_bytes text rest h ++ rest) ≡ length (front_bytes text rest h) + length rest = length-append
    (front_bytes text rest h) rest in
    omega arith

pub seam : (text rest : List ℕ) (h : IsRest (chars rest) (chars text)) → IsUtf8 text → IsUtf8 rest
    → length text - length rest ≡ length (encode_utf8_all h.front)
seam text rest h u v =
    let e : length text ≡ length (front_bytes text rest h ++ rest) = ap length (bytes_join text rest h u v) in
    let f : length (front_bytes text rest h ++ rest) ≡ length (front_bytes text rest h) + length rest = length-append
    (front_bytes text rest h) rest in
    omega arith

pub seam_is_boundary : (text rest : List ℕ) → IsRest (chars rest) (chars text) → IsUtf8 text → IsUtf8 rest
    → IsCharBoundary text (length text - length rest)
seam_is_boundary text rest h u v =
    subst (λ (n : ℕ). IsCharBoundary text n) (sym (seam text rest h u v))
    (IsCharBoundary-at_seam text (encode_utf8_all h.front) rest (bytes_join text rest h u v) v)

-- the slice before the rest, and the rest, are the text
pub front_joins : (text rest front : List ℕ) → IsRest (chars rest) (chars text) → IsUtf8 text → IsUtf8 rest → IsUtf8 front
    → front ≡ take (length text - length rest) text →
    chars text ≡ chars front ++ chars rest
front_joins text rest front h u v w e =
    let s : text ≡ front_bytes text rest h ++ rest = bytes_join text rest h u v in
    let same : front ≡ front_bytes text rest h =
    e ∙ (ap (λ n. take n text) (seam text rest h u v) ∙ (ap (take (length (front_bytes text rest h))) s
    ∙ take-append_seam (front_bytes text rest h) rest)) in
    let whole : text ≡ front ++ rest = s ∙ ap (λ xs. xs ++ rest) (sym same) in
    ap chars whole ∙ chars-append front rest w

pub front_is_before : (text rest front : List ℕ) → IsRest rest text → text ≡ front ++ rest → front ≡ before rest text
front_is_before text rest front h e = append_cancel_right front (before rest text) rest (sym e ∙ before_rest rest text h)

-- the bytes behind the slice are the rest
pub rest_is_behind : (text rest : List ℕ) → IsRest (chars rest) (chars text) → IsUtf8 text → IsUtf8 rest
    → drop (length text - length rest) text ≡ rest
rest_is_behind text rest h u v =
    ap (λ n. drop n text) (seam text rest h u v) ∙ (ap (drop (length (front_bytes text rest h))) (bytes_join text rest h u v)
    ∙ drop-append_seam (front_bytes text rest h) rest)
