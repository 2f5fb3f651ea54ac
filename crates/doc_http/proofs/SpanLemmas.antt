-- Where a head lies: inside the bytes, at the same place when more bytes come.
use Rattle.std.proofs.Common.{◌≡◌, ℕ, ◌+◌, ◌-◌, ◌≤◌, List, [], ◌∷◌, ◌++◌, Bool, true, false, cond, length, take, refl, ap, sym, ◌∙◌, subst}
use Rattle.std.proofs.Common.{arith, nat_eq}
use Rattle.std.specs.Prelude.{Option, Some, None, nat_le, ⊤}
use Rattle.std.specs.List.{starts_with}
use Rattle.std.proofs.lemmas.Bool.{le-leb}
use Rattle.std.proofs.lemmas.List.{take-append-le, length-take, length-append}
use Rattle.doc_http.specs.declared.head.HeadSpan.{HeadSpan}
use Rattle.doc_http.specs.declared.head.HeadSpan.TheVariants.{Unfinished, TooLong, At}
use Rattle.doc_http_bodies.specs.Places.{line_end, blank_line, behind, place_of, lines_len}
use Rattle.doc_http_bodies.proofs.PlaceLemmas.{Within, place_within, Stays, lines_stay, take_grows}
use Rattle.doc_http.specs.Heads.{head_span_of, head_span_in, head_span_at, skip_empty_lines, head_limit}

-- ---- inside the bytes

skipped : (text : List ℕ) → length (skip_empty_lines text) ≤ length text
skipped [] = omega arith
skipped (a ∷ []) = omega arith
skipped (a ∷ b ∷ rest) = by_test (skipped rest) (starts_with nat_eq (a ∷ b ∷ rest) line_end)
  where
    by_test : length (skip_empty_lines rest) ≤ length rest → (t : Bool)
        → length (cond t (skip_empty_lines rest) (a ∷ b ∷ rest)) ≤ length (a ∷ b ∷ rest)
    by_test h true = omega arith
    by_test h false = omega arith

-- a length that was found is at least 4, which CR LF CR LF takes, and at most n
abbrev pub IsLength : ℕ → Option ℕ → Type 0
IsLength n None = ⊤
IsLength n (Some len) = (4 ≤ len) × (len ≤ n)

length_within : (n : ℕ) (place : Option ℕ) → Within 4 n place → IsLength n (behind 4 place)
length_within n None h = tt
length_within n (Some place) h = (omega arith, omega arith)

pub head_within : (text : List ℕ) → IsLength (length text) (lines_len text)
head_within text = length_within (length text) (place_of blank_line text) (place_within blank_line text)

-- a head lies in the first n bytes
abbrev pub IsInside : ℕ → HeadSpan → Type 0
IsInside n Unfinished = ⊤
IsInside n TooLong = ⊤
IsInside n (At start end) = (start ≤ end) × (end ≤ n)

inside_at : (full : Bool) (start n k : ℕ) (found : Option ℕ) → IsLength n found → start + n ≤ k → IsInside k (head_span_at full start found)
inside_at true start n k None h le = tt
inside_at false start n k None h le = tt
inside_at full start n k (Some len) h le = (omega arith, omega arith)

inside_in : (front : List ℕ) (full : Bool) → IsInside (length front) (head_span_in front full)
inside_in front full =
    inside_at full (length front - length (skip_empty_lines front)) (length (skip_empty_lines front)) (length front)
    (lines_len (skip_empty_lines front)) (head_within (skip_empty_lines front)) (omega (arith, skipped front))

inside_more : (k n : ℕ) (span : HeadSpan) → k ≤ n → IsInside k span → IsInside n span
inside_more k n Unfinished le h = tt
inside_more k n TooLong le h = tt
inside_more k n (At start end) le h = (h.0, omega arith)

pub span_inside : (bytes : List ℕ) → IsInside (length bytes) (head_span_of bytes)
unfolding head_span_of
span_inside bytes =
    inside_more (length (take head_limit bytes)) (length bytes) (head_span_in (take head_limit bytes) (nat_le head_limit (length bytes)))
    (omega (arith, length-take head_limit bytes)) (inside_in (take head_limit bytes) (nat_le head_limit (length bytes)))

-- it lies in the bytes that it may take
pub span_in_limit : (bytes : List ℕ) → IsInside head_limit (head_span_of bytes)
unfolding head_span_of
span_in_limit bytes =
    inside_more (length (take head_limit bytes)) head_limit (head_span_in (take head_limit bytes) (nat_le head_limit (length bytes)))
    (omega (arith, length-take head_limit bytes)) (inside_in (take head_limit bytes) (nat_le head_limit (length bytes)))

-- the places of a head that was found
pub places : (bytes : List ℕ) (start end : ℕ) → At start end ≡ head_span_of bytes → (start ≤ end) × (end ≤ length bytes)
places bytes start end is = let P : HeadSpan → Type 0 = λ span. IsInside (length bytes) span in subst P (sym is) (span_inside bytes)

-- ---- as many bytes as a head may take

-- a head, or none
abbrev pub IsSettled : HeadSpan → Type 0
IsSettled Unfinished = ⊥
IsSettled TooLong = ⊤
IsSettled (At start end) = ⊤

settled_at : (start : ℕ) (found : Option ℕ) → IsSettled (head_span_at true start found)
settled_at start None = tt
settled_at start (Some len) = tt

pub span_settled : (bytes : List ℕ) → head_limit ≤ length bytes → IsSettled (head_span_of bytes)
unfolding head_span_of
span_settled bytes enough =
    let full : nat_le head_limit (length bytes) ≡ true = le-leb _ _ enough in
    let front = take head_limit bytes in
    rw full (settled_at (length front - length (skip_empty_lines front)) (lines_len (skip_empty_lines front)))

-- ---- more bytes

four_in : (text : List ℕ) (n : ℕ) → lines_len text ≡ Some n → 4 ≤ length text
four_in text n e =
    let P : Option ℕ → Type 0 = λ found. IsLength (length text) found in
    let both : (4 ≤ n) × (n ≤ length text) = subst P e (head_within text) in
    omega arith

pub skip_stays : (x more : List ℕ) → 2 ≤ length (skip_empty_lines x) → skip_empty_lines (x ++ more) ≡ skip_empty_lines x ++ more
skip_stays [] more le = absurd (omega arith)
skip_stays (a ∷ []) more le = absurd (omega arith)
skip_stays (a ∷ b ∷ rest) more le = by_test (skip_stays rest more) (starts_with nat_eq (a ∷ b ∷ rest) line_end) le
  where
    by_test : (2 ≤ length (skip_empty_lines rest) → skip_empty_lines (rest ++ more) ≡ skip_empty_lines rest ++ more) → (t : Bool)
        → 2 ≤ length (cond t (skip_empty_lines rest) (a ∷ b ∷ rest))
        → cond t (skip_empty_lines (rest ++ more)) (a ∷ b ∷ (rest ++ more)) ≡ cond t (skip_empty_lines rest) (a ∷ b ∷ rest) ++ more
    by_test h true le = h le
    by_test h false le = refl

-- a place that was settled stays
abbrev pub StaysSettled : HeadSpan → HeadSpan → Type 0
StaysSettled Unfinished later = ⊤
StaysSettled TooLong later = later ≡ TooLong
StaysSettled (At start end) later = later ≡ At start end

found_stays : (x more : List ℕ) (full : Bool) (found : Option ℕ) → lines_len (skip_empty_lines x) ≡ found
    → StaysSettled (head_span_at false (length x - length (skip_empty_lines x)) found) (head_span_in (x ++ more) full)
found_stays x more full None is = tt
found_stays x more full (Some len) is =
    let four : 4 ≤ length (skip_empty_lines x) = four_in (skip_empty_lines x) len is in
    let two : 2 ≤ length (skip_empty_lines x) = omega arith in
    let same : skip_empty_lines (x ++ more) ≡ skip_empty_lines x ++ more = skip_stays x more two in
    let start : length (x ++ more) - length (skip_empty_lines (x ++ more))
    ≡ length x - length (skip_empty_lines x) = omega (
      arith,
      ap length same,
      length-append x more,
      length-append (skip_empty_lines x)
          more,
      skipped x,
    ) in
    let P : Option ℕ → Type 0 = λ found. Stays found (lines_len (skip_empty_lines x ++ more)) in
    let again : lines_len (skip_empty_lines x ++ more) ≡ Some len = subst P is (lines_stay (skip_empty_lines x) more) in
    ap (λ s. head_span_at full s (lines_len (skip_empty_lines (x ++ more)))) start
    ∙ ap (λ found. head_span_at full (length x - length (skip_empty_lines x)) found) (ap lines_len same ∙ again)

itself : (span : HeadSpan) → StaysSettled span span
itself Unfinished = tt
itself TooLong = refl
itself (At start end) = refl

pub span_stays : (bytes more : List ℕ) → StaysSettled (head_span_of bytes) (head_span_of (bytes ++ more))
unfolding head_span_of
span_stays bytes more = by_test (nat_le head_limit (length bytes)) refl
  where
    by_test : (t : Bool) → nat_le head_limit (length bytes) ≡ t
        → StaysSettled (head_span_in (take head_limit bytes) t)
        (head_span_in (take head_limit (bytes ++ more)) (nat_le head_limit (length (bytes ++ more))))
    by_test true e =
        let le : head_limit ≤ length bytes = grind (arith) in
        let full : nat_le head_limit (length (bytes ++ more)) ≡ true = le-leb _ _ (omega (arith, length-append bytes more)) in
        rw (full, take-append-le head_limit bytes more le) (itself (head_span_in (take head_limit bytes) true))
    by_test false e =
        let grown = take_grows head_limit bytes (bytes ++ more) (more, refl) in
        rw (grown.1) (found_stays (take head_limit bytes) grown.0 (nat_le head_limit (length (bytes ++ more)))
        (lines_len (skip_empty_lines (take head_limit bytes))) refl)
