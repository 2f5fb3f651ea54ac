-- How many bytes the ends of a text have.
use Rattle.std.proofs.Common.{◌≡◌, ℕ, ◌+◌, ◌<◌, ◌≤◌, List, [], ◌∷◌, ◌++◌, length, chars, ap, sym, ◌∙◌, arith, length-append}
use Rattle.std.specs.Prelude.{encode_utf8, encode_utf8_all}
use Rattle.std.specs.Char.{len_utf8}
use Rattle.std.specs.Str.{IsUtf8}
use Rattle.std.proofs.lemmas.Str.{encodes-append, encodes-chars, length-encode, len_utf8_bounds}
use Rattle.doc_rules.specs.Characters.{Text}
use Rattle.doc_rules.specs.Rests.{IsRest}
use Rattle.doc_inlines_marks.specs.ToldSteps.{size}

-- as the code counts it
pub size_of : (text : List ℕ) → IsUtf8 text → size (chars text) ≡ length text
size_of text u = ap length (encodes-chars text u)

size_append : (front rest : Text) → size (front ++ rest) ≡ size front + size rest
size_append front rest = ap length (encodes-append front rest) ∙ length-append (encode_utf8_all front) (encode_utf8_all rest)

pub rest_is_no_larger : (rest text : Text) → IsRest rest text → size rest ≤ size text
rest_is_no_larger rest text h =
    let e : size text ≡ size (h.front ++ rest) = ap size h.split in
    let f : size (h.front ++ rest) ≡ size h.front + size rest = size_append h.front rest in
    omega arith

-- one character more is a byte more at least
pub grows : (c : ℕ) (front rest : Text) → size rest < size (c ∷ (front ++ rest))
grows c front rest =
    let e : size (c ∷ (front ++ rest)) ≡ length (encode_utf8 c) + size (front ++ rest) = length-append (encode_utf8 c)
    (encode_utf8_all (front ++ rest)) in
    let f : size (front ++ rest) ≡ size front + size rest = size_append front rest in
    let g : length (encode_utf8 c) ≡ len_utf8 c = length-encode c in
    let h : 1 ≤ len_utf8 c = (len_utf8_bounds c).0 in
    omega arith

pub tails : (c d : ℕ) (xs ys : Text) → c ∷ xs ≡ d ∷ ys → xs ≡ ys
tails c d xs ys e = cc

-- of two ends of a text the smaller is an end of the larger
ends_nest : (one other a b : Text) → one ++ a ≡ other ++ b → size a ≤ size b → IsRest a b
ends_nest one [] a b e h = record { front = one; split = sym e }
ends_nest [] (d ∷ other) a b e h =
    let larger : size b < size (d ∷ (other ++ b)) = grows d other b in
    let same : size a ≡ size (d ∷ (other ++ b)) = ap size e in
    absurd (omega arith)
ends_nest (c ∷ one) (d ∷ other) a b e h = ends_nest one other a b (tails c d (one ++ a) (other ++ b) e) h

pub smaller_end : (a b text : Text) → IsRest a text → IsRest b text → size a ≤ size b → IsRest a b
smaller_end a b text h g le = ends_nest h.front g.front a b (sym h.split ∙ g.split) le
