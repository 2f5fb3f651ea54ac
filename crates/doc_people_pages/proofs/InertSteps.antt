-- Disarming by runs: what was written, the run that waits and what the rest of the text becomes are together the text, disarmed.
use Rattle.std.proofs.Common.{◌≡◌, ◌≢◌, ◌&&◌, ◌||◌, ℕ, ◌+◌, ◌-◌, ◌<◌, ◌≤◌, List, [], ◌∷◌, ◌++◌, Bool, true, false, length, get_or, take, drop, codes, cond, sym}
use Rattle.std.proofs.Common.{ap, ◌∙◌, arith, refl, length-drop}
use Rattle.std.specs.Prelude.{slice_range}
use Rattle.std.specs.Char.{eq_ignore_ascii_case}
use Rattle.std.specs.Str.{IsUtf8, IsCharBoundary, str_eq_ignore_ascii_case}
use Rattle.std.proofs.lemmas.Bool.{false_from_ne_true}
use Rattle.std.proofs.lemmas.Bool.Decides.{nat_tests}
use Rattle.std.proofs.lemmas.List.{append-nil, append_assoc, at_drop_all, drop_more, take_all, take_more, take_rest, get_or-drop}
use Rattle.std.proofs.lemmas.Str.{IsCharBoundary-before_ascii, IsCharBoundary-after_ascii}
use Rattle.doc_people.specs.Inert.{begins_form_or_frame, begins_in_any_case, disarmed}

-- ---- a word at the front of a text

and_false : (e v : Bool) → false ≡ v → false ≡ (e && v)
and_false true v same = same
and_false false v same = refl

pub begins_short : (word text : List ℕ) → length text < length word → false ≡ begins_in_any_case word text
begins_short [] text short = absurd (omega (arith, short))
begins_short (w ∷ word) [] short = refl
begins_short (w ∷ word) (b ∷ rest) short =
    let less : length rest < length word = omega (arith, short) in
    and_false (eq_ignore_ascii_case b w) (begins_in_any_case word rest) (begins_short word rest less)

front_begins : (word text : List ℕ) → length word ≤ length text
    → str_eq_ignore_ascii_case (take (length word) text) word ≡ begins_in_any_case word text
front_begins [] text within = refl
front_begins (w ∷ word) [] within = absurd (omega (arith, within))
front_begins (w ∷ word) (b ∷ rest) within =
    let less : length word ≤ length rest = omega (arith, within) in
    ap (λ v. eq_ignore_ascii_case b w && v) (front_begins word rest less)

pub front_tested : (word text : List ℕ) (same : Bool) → length word ≤ length text
    → same ≡ str_eq_ignore_ascii_case (take (length word) text) word → same ≡ begins_in_any_case word text
front_tested word text same within tested = tested ∙ front_begins word text within

-- ---- what begins a form or a frame

-- only `<` does
in_front : (e x y : Bool) → ((e && x) || (e && y)) ≡ true → e ≡ true
in_front true x y begins = refl
in_front false x y begins = begins

angle : (b : ℕ) → eq_ignore_ascii_case b 60 ≡ true → b ≡ 60
angle b same = grind (arith, nat_tests)

starts : (b : ℕ) (rest : List ℕ) → begins_form_or_frame (b ∷ rest) ≡ true → b ≡ 60
starts b rest begins =
    angle b (in_front (eq_ignore_ascii_case b 60) (begins_in_any_case (codes "form") rest) (begins_in_any_case (codes "iframe") rest) begins)

-- at a place of a text
pub starts_at : (text : List ℕ) (i : ℕ) → i < length text → begins_form_or_frame (drop i text) ≡ true → get_or text i 0 ≡ 60
starts_at text i within begins = starts (get_or text i 0) (drop (i + 1) text)
    (sym (ap begins_form_or_frame (drop_more text i 0 within)) ∙ begins)

pub begins_not : (text : List ℕ) (i : ℕ) → i < length text → get_or text i 0 ≢ 60 → false ≡ begins_form_or_frame (drop i text)
begins_not text i within other =
    sym (false_from_ne_true (begins_form_or_frame (drop i text)) (λ begins. other (starts_at text i within begins)))

pub begins_rest : (text rest : List ℕ) (i : ℕ) (begins : Bool) → rest ≡ take (length text - i) (drop i text)
    → begins ≡ begins_form_or_frame rest → begins ≡ begins_form_or_frame (drop i text)
begins_rest text rest i begins cut tested = tested ∙ ap begins_form_or_frame (cut ∙ take_rest text i)

-- a text may be cut before such a tag, and behind its `<`
pub cut_before : (text : List ℕ) (i : ℕ) (begins : Bool) → i < length text → begins ≡ begins_form_or_frame (drop i text) → begins ≡ true
    → IsCharBoundary text i
cut_before text i begins within tested held =
    let here : get_or text i 0 ≡ 60 = starts_at text i within (sym tested ∙ held) in
    IsCharBoundary-before_ascii text i within (omega (arith, here))

pub cut_behind : (text : List ℕ) (i : ℕ) (begins : Bool) → IsUtf8 text → i < length text → begins ≡ begins_form_or_frame (drop i text)
    → begins ≡ true → IsCharBoundary text (i + 1)
cut_behind text i begins utf8 within tested held =
    let here : get_or text i 0 ≡ 60 = starts_at text i within (sym tested ∙ held) in
    IsCharBoundary-after_ascii text i utf8 within (omega (arith, here))

-- ---- runs

run_more : (text : List ℕ) (s i : ℕ) → s ≤ i → i < length text → slice_range text s (i + 1) ≡ slice_range text s i ++ get_or text i 0 ∷ []
run_more text s i le within =
    let one : i + 1 - s ≡ (i - s) + 1 = omega arith in
    let inside : i - s < length (drop s text) = omega (arith, length-drop s text) in
    let place : s + (i - s) ≡ i = omega arith in
    ap (λ n. take n (drop s text)) one
    ∙ take_more (drop s text) (i - s) 0 inside
    ∙ ap (λ b. slice_range text s i ++ b ∷ []) (get_or-drop s text (i - s) 0 ∙ ap (λ n. get_or text n 0) place)

disarmed_at : (text : List ℕ) (i : ℕ) → i < length text
    → disarmed (drop i text)
    ≡ cond (begins_form_or_frame (drop i text)) (codes "&lt;") (get_or text i 0 ∷ []) ++ disarmed (drop (i + 1) text)
unfolding disarmed
disarmed_at text i within =
    let cut = drop_more text i 0 within in
    ap disarmed cut
    ∙ ap (λ t. cond (begins_form_or_frame t) (codes "&lt;") (get_or text i 0 ∷ []) ++ disarmed (drop (i + 1) text)) (sym cut)

-- nothing is written yet
pub none_disarmed : (text old new : List ℕ) → new ≡ old → (new ++ slice_range text 0 0) ++ disarmed (drop 0 text) ≡ old ++ disarmed text
none_disarmed text old new same = ap (λ t. t ++ disarmed text) (append-nil new ∙ same)

-- a byte that stays waits in the run
pub run_grows : (text start out : List ℕ) (s i : ℕ) (begins : Bool) → s ≤ i → i < length text
    → begins ≡ begins_form_or_frame (drop i text) → begins ≡ false
    → (out ++ slice_range text s i) ++ disarmed (drop i text) ≡ start ++ disarmed text
    → (out ++ slice_range text s (i + 1)) ++ disarmed (drop (i + 1) text) ≡ start ++ disarmed text
run_grows text start out s i begins le within tested held so_far =
    let rest = disarmed (drop (i + 1) text) in
    let here : List ℕ = get_or text i 0 ∷ [] in
    ap (λ r. (out ++ r) ++ rest) (run_more text s i le within)
    ∙ ap (λ r. r ++ rest) (sym (append_assoc out (slice_range text s i) here))
    ∙ append_assoc (out ++ slice_range text s i) here rest
    ∙ ap (λ r. (out ++ slice_range text s i) ++ r)
    (sym (disarmed_at text i within ∙ ap (λ b. cond b (codes "&lt;") here ++ rest) (sym tested ∙ held)))
    ∙ so_far

-- a `<` that doesn't ends the run
pub run_ends : (text start out run after new : List ℕ) (s i : ℕ) (begins : Bool) → i < length text
    → begins ≡ begins_form_or_frame (drop i text) → begins ≡ true
    → run ≡ slice_range text s i → after ≡ out ++ run → new ≡ after ++ codes "&lt;"
    → (out ++ slice_range text s i) ++ disarmed (drop i text) ≡ start ++ disarmed text
    → (new ++ slice_range text (i + 1) (i + 1)) ++ disarmed (drop (i + 1) text) ≡ start ++ disarmed text
run_ends text start out run after new s i begins within tested held cut first second so_far =
    let rest = disarmed (drop (i + 1) text) in
    let here : List ℕ = get_or text i 0 ∷ [] in
    let none : i + 1 - (i + 1) ≡ 0 = omega arith in
    ap (λ n. (new ++ take n (drop (i + 1) text)) ++ rest) none
    ∙ ap (λ t. t ++ rest) (append-nil new ∙ second ∙ ap (λ t. t ++ codes "&lt;") (first ∙ ap (λ r. out ++ r) cut))
    ∙ append_assoc (out ++ slice_range text s i) (codes "&lt;") rest
    ∙ ap (λ r. (out ++ slice_range text s i) ++ r)
    (sym (disarmed_at text i within ∙ ap (λ b. cond b (codes "&lt;") here ++ rest) (sym tested ∙ held)))
    ∙ so_far

-- the last run ends the text
pub last_run : (text start out run new : List ℕ) (s i : ℕ) → length text ≤ i → s ≤ i → run ≡ drop s text
    → new ≡ out ++ run
    → (out ++ slice_range text s i) ++ disarmed (drop i text) ≡ start ++ disarmed text
    → new ≡ start ++ disarmed text
unfolding disarmed
last_run text start out run new s i past le cut written so_far =
    let none : disarmed (drop i text) ≡ [] = at_drop_all disarmed text i past in
    let all = take_all (i - s) (drop s text) (omega (arith, length-drop s text)) in
    written ∙ ap (λ r. out ++ r) (cut ∙ sym all)
    ∙ sym (append-nil (out ++ slice_range text s i)) ∙ ap (λ t. (out ++ slice_range text s i) ++ t) (sym none) ∙ so_far
