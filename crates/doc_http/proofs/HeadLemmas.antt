-- Where a head ends, step by step.
use Rattle.std.proofs.Common.{◌≡◌, ℕ, ◌+◌, ◌-◌, ◌<◌, ◌≤◌, Bool, true, false, List, [], ◌∷◌, ◌++◌, None, cond, length, drop, refl, sym, ap}
use Rattle.std.proofs.Common.{subst, ◌∙◌, arith, nat_eq, length-drop, drop-drop, length-append}
use Rattle.std.proofs.lemmas.Bool.{and_parts}
use Rattle.std.proofs.lemmas.List.{drop-append-le}
use Rattle.std.specs.Prelude.{nat_le}
use Rattle.std.specs.List.{starts_with}
use Rattle.doc_http_bodies.specs.Places.{line_end, blank_line, place_of, lines_len, IsSearched}
use Rattle.doc_http_bodies.proofs.PlaceLemmas.{behind_none, searched_more, searched_none}
use Rattle.doc_http.specs.Heads.{skip_empty_lines, head_span_in, head_span_at}
use Rattle.doc_http.specs.declared.head.HeadSearch.{HeadSearch}
use Rattle.doc_http.specs.KnowledgeSteps.{CameTo}
use Rattle.doc_http.proofs.SpanLemmas.{skip_stays}

-- no empty line stands at the front
pub no_empty_line : (text : List ℕ) → starts_with nat_eq text line_end ≡ false → skip_empty_lines text ≡ text
no_empty_line [] miss = refl
no_empty_line (a ∷ []) miss = refl
no_empty_line (a ∷ b ∷ rest) miss = ap (λ x. cond x (skip_empty_lines rest) (a ∷ b ∷ rest)) miss

one_empty_line : (text : List ℕ) → starts_with nat_eq text line_end ≡ true → skip_empty_lines text ≡ skip_empty_lines (drop 2 text)
one_empty_line [] hit = refl
one_empty_line (a ∷ []) hit = let both = and_parts (nat_eq 13 a) false hit in absurd (cc)
one_empty_line (a ∷ b ∷ rest) hit = ap (λ x. cond x (skip_empty_lines rest) (a ∷ b ∷ rest)) hit

-- an empty line stands at `at`
pub empty_line_at : (text : List ℕ) (at : ℕ) → starts_with nat_eq (drop at text) line_end ≡ true
    → skip_empty_lines (drop at text) ≡ skip_empty_lines (drop (at + 2) text)
empty_line_at text at hit = one_empty_line (drop at text) hit ∙ ap skip_empty_lines (drop-drop 2 at text)

-- what is found behind the empty lines at the front
pub span_in_front : (front : List ℕ) (full : Bool) (start : ℕ) → start ≤ length front → drop start front ≡ skip_empty_lines front
    → head_span_at full start (lines_len (drop start front)) ≡ head_span_in front full
span_in_front front full start within rest =
    let place : length front - length (skip_empty_lines front) ≡ start = omega (arith, ap length rest, length-drop start front, within) in
    rw (place, rest) refl

-- ---- what is known when more bytes follow

-- empty lines are skipped on behind those that were skipped
skip_more : (front more : List ℕ) → skip_empty_lines (front ++ more) ≡ skip_empty_lines (skip_empty_lines front ++ more)
skip_more [] more = refl
skip_more (a ∷ []) more = refl
skip_more (a ∷ b ∷ rest) more = by_test (skip_more rest more) (starts_with nat_eq (a ∷ b ∷ rest) line_end) refl
  where
    by_test : skip_empty_lines (rest ++ more) ≡ skip_empty_lines (skip_empty_lines rest ++ more) → (t : Bool)
        → starts_with nat_eq (a ∷ b ∷ rest) line_end ≡ t
        → skip_empty_lines (a ∷ b ∷ (rest ++ more)) ≡ skip_empty_lines (cond t (skip_empty_lines rest) (a ∷ b ∷ rest) ++ more)
    by_test h true e = ap (λ x. cond x (skip_empty_lines (rest ++ more)) (a ∷ b ∷ (rest ++ more))) e ∙ h
    by_test h false e = refl

-- where no head ends in these bytes, none begins to end in what has more behind them before their last three
searched_behind : (front more : List ℕ) → lines_len (skip_empty_lines front) ≡ None
    → IsSearched blank_line (length (skip_empty_lines front) - 3) (skip_empty_lines (front ++ more))
searched_behind front more none = by_test (nat_le 4 (length (skip_empty_lines front))) refl
  where
    by_test : (t : Bool) → nat_le 4 (length (skip_empty_lines front)) ≡ t
        → IsSearched blank_line (length (skip_empty_lines front) - 3) (skip_empty_lines (front ++ more))
    by_test true e =
        let le : 4 ≤ length (skip_empty_lines front) = grind (arith) in
        subst (λ x. IsSearched blank_line (length (skip_empty_lines front) - 3) x) (sym (skip_stays front more (omega arith)))
        (searched_more blank_line (skip_empty_lines front) more (length (skip_empty_lines front) - 3)
        (behind_none 4 (place_of blank_line (skip_empty_lines front)) none) (omega arith) (omega arith))
    by_test false e =
        let lt : length (skip_empty_lines front) < 4 = grind (arith) in
        let none_yet : 0 ≡ length (skip_empty_lines front) - 3 = omega arith in
        subst (λ n. IsSearched blank_line n (skip_empty_lines (front ++ more))) none_yet
        (searched_none blank_line (skip_empty_lines (front ++ more)))

-- the search that came to the end of these bytes
pub came_more : (front more text : List ℕ) (start : ℕ) (search : HeadSearch) → start ≤ length front
    → drop start front ≡ skip_empty_lines front
    → text ≡ drop start front → search.start ≡ start → search.searched ≡ length text - 3 → None ≡ lines_len text
    → CameTo search (front ++ more)
came_more front more text start search within rest is start_is count none =
    let here : text ≡ skip_empty_lines front = is ∙ rest in
    let len : search.searched ≡ length (skip_empty_lines front) - 3 = count ∙ ap (λ t. length t - 3) here in
    let behind_start : drop search.start (front ++ more) ≡ skip_empty_lines front ++ more =
    ap (λ n. drop n (front ++ more)) start_is ∙ drop-append-le start front more within ∙ ap (λ t. t ++ more) rest in (
      omega (arith, within, start_is, length-append front more),
      skip_more front more ∙ ap skip_empty_lines (sym behind_start),
      subst (λ n. IsSearched blank_line n (skip_empty_lines (front ++ more))) (sym len)
          (searched_behind front more (ap lines_len (sym here) ∙ sym none)),
    )

pub came_nowhere : (front : List ℕ) → CameTo (record { start = 0; searched = 0 }) front
came_nowhere front = (omega arith, refl, searched_none blank_line (skip_empty_lines front))
