-- Escaping by runs: what was written and the run that waits are together the escaped front of the text.
use Rattle.std.proofs.Common.{◌≡◌, ℕ, ◌+◌, ◌-◌, ◌<◌, ◌≤◌, List, [], ◌∷◌, ◌++◌, length, get_or, take, drop, sym, ap, ◌∙◌, arith, length-drop}
use Rattle.std.specs.Prelude.{slice_range}
use Rattle.std.specs.List.{flat_map}
use Rattle.std.specs.Str.{IsUtf8, IsCharBoundary}
use Rattle.std.proofs.lemmas.List.{append-nil, append_assoc, take_more, get_or-drop}
use Rattle.std.proofs.lemmas.List.Concat.{flat_map-append}
use Rattle.std.proofs.lemmas.Str.{IsCharBoundary-after_ascii}
use Rattle.doc_page_parts.specs.Escaping.{escaped, escaped_byte}

-- nothing is escaped before the first byte
pub escaped_none : (text old new : List ℕ) → new ≡ old → new ++ slice_range text 0 0 ≡ old ++ escaped (take 0 text)
unfolding escaped
escaped_none text old new same = ap (λ out. out ++ []) same

-- one more byte
escaped-take : (bs : List ℕ) (i : ℕ) → i < length bs → escaped (take (i + 1) bs) ≡ escaped (take i bs) ++ escaped_byte (get_or bs i 0)
unfolding escaped
escaped-take bs i h =
    ap (flat_map escaped_byte) (take_more bs i 0 h)
    ∙ flat_map-append escaped_byte (take i bs) (get_or bs i 0 ∷ [])
    ∙ ap (λ r. flat_map escaped_byte (take i bs) ++ r) (append-nil (escaped_byte (get_or bs i 0)))

slice_range_more : (bs : List ℕ) (s i : ℕ) → s ≤ i → i < length bs → slice_range bs s (i + 1) ≡ slice_range bs s i ++ get_or bs i 0 ∷ []
slice_range_more bs s i le h =
    let one : i + 1 - s ≡ (i - s) + 1 = omega arith in
    let within : i - s < length (drop s bs) = omega (arith, length-drop s bs) in
    let place : s + (i - s) ≡ i = omega arith in
    ap (λ n. take n (drop s bs)) one
    ∙ take_more (drop s bs) (i - s) 0 within
    ∙ ap (λ b. slice_range bs s i ++ b ∷ []) (get_or-drop s bs (i - s) 0 ∙ ap (λ n. get_or bs n 0) place)

-- a byte that is written as it is waits in the run
pub run_grows : (start out text bytes : List ℕ) (s i : ℕ) → bytes ≡ text → s ≤ i → i < length bytes
    → get_or bytes i 0 ∷ [] ≡ escaped_byte (get_or bytes i 0) → out ++ slice_range text s i ≡ start ++ escaped (take i text)
    → out ++ slice_range text s (i + 1) ≡ start ++ escaped (take (i + 1) text)
run_grows start out text bytes s i same le h plain so_far =
    let fits : i < length text = omega (arith, ap length same) in
    let here : get_or text i 0 ∷ [] ≡ escaped_byte (get_or text i 0) = ap (λ (bs : List ℕ). get_or bs i 0 ∷ []) (sym same) ∙ plain
    ∙ ap (λ (bs : List ℕ). escaped_byte (get_or bs i 0)) same in
    ap (λ r. out ++ r) (slice_range_more text s i le fits)
    ∙ sym (append_assoc out (slice_range text s i) (get_or text i 0 ∷ []))
    ∙ ap (λ r. r ++ get_or text i 0 ∷ []) so_far
    ∙ append_assoc start (escaped (take i text)) (get_or text i 0 ∷ [])
    ∙ ap (λ r. start ++ (escaped (take i text) ++ r)) here
    ∙ ap (λ r. start ++ r) (sym (escaped-take text i fits))

-- a byte that is written as a reference ends the run, and the next run begins after it
pub run_ends : (start out after new text bytes run reference : List ℕ) (s i : ℕ) → bytes ≡ text → i < length bytes
    → reference ≡ escaped_byte (get_or bytes i 0) → run ≡ slice_range text s i → after ≡ out ++ run → new ≡ after ++ reference
    → out ++ slice_range text s i ≡ start ++ escaped (take i text)
    → new ++ slice_range text (i + 1) (i + 1) ≡ start ++ escaped (take (i + 1) text)
run_ends start out after new text bytes run reference s i same h written cut first second so_far =
    let fits : i < length text = omega (arith, ap length same) in
    let none : i + 1 - (i + 1) ≡ 0 = omega arith in
    ap (λ n. new ++ take n (drop (i + 1) text)) none
    ∙ append-nil new ∙ second
    ∙ ap (λ r. r ++ reference) (first ∙ ap (λ r. out ++ r) cut ∙ so_far)
    ∙ append_assoc start (escaped (take i text)) reference
    ∙ ap (λ r. start ++ (escaped (take i text) ++ r)) (written ∙ ap (λ (bs : List ℕ). escaped_byte (get_or bs i 0)) same)
    ∙ ap (λ r. start ++ r) (sym (escaped-take text i fits))

-- a text may be cut after an ASCII byte
pub cut_after : (text bytes : List ℕ) (i : ℕ) → IsUtf8 text → bytes ≡ text → i < length bytes → get_or bytes i 0 < 128
    → IsCharBoundary text (i + 1)
cut_after text bytes i utf8 same h ascii =
    IsCharBoundary-after_ascii text i utf8 (omega (arith, ap length same)) (omega (arith, ap (λ (bs : List ℕ). get_or bs i 0) same))
