-- What a reader of inlines makes behind a backtick and a '<' is what is found there.
use Rattle.std.proofs.Common.{◌≡◌, ℕ, suc, ◌+◌, ◌-◌, ◌≤◌, Bool, true, false, not, ◌&&◌, ◌==◌, List, [], ◌∷◌, ◌++◌, replicate, length, take}
use Rattle.std.proofs.Common.{drop, refl, ap, sym, ◌∙◌, Option, Some, None, option_map, codes, arith, length-drop, eqb-true}
use Rattle.doc_rules.specs.Characters.{Text}
use Rattle.doc_rules.specs.Parsers.{is, ◌then◌, before, run_length}
use Rattle.doc_rules.specs.Tags.{raw_html}
use Rattle.doc_rules.specs.Autolinks.{uri, mail}
use Rattle.doc_rules.specs.Inlines as inlines
use Rattle.doc_rules.specs.Inlines.{Inline, Literal, Code}
use Rattle.doc_rules.specs.CodeSpans.{before_backticks, code_text, code_span}
use Rattle.doc_rules.specs.Reading.{Step, as_literal, autolink, address, left_angle}
use Rattle.doc_inlines_marks.specs.CodeSpans.{code_span_at}
use Rattle.doc_inlines_marks.specs.Enclosed.{Uri, Mail, Raw, enclosed_behind, enclosed_at}
use Rattle.doc_inlines_marks.specs.Reads.{code_read, angle_read}
use Rattle.doc_inlines_marks.proofs.RunLaws.{run_split}
use Rattle.doc_inlines_marks.proofs.CodeSpanLaws.{span_of, by_place}

-- ---- how far a code span goes

counted : Text → Bool → ℕ
unfolding run_length
counted rest b = elim b [ true ↦ suc (run_length 96 rest) | false ↦ 0 ]

run_within : (text : Text) → run_length 96 text ≤ length text
unfolding run_length counted
run_within [] = omega arith
run_within (c ∷ rest) = at (run_within rest) (96 == c)
  where
    at : run_length 96 rest ≤ length rest → (b : Bool) → counted rest b ≤ suc (length rest)
    at h true = omega arith
    at h false = omega arith

and_last : (a b c : Bool) → (a && (b && c)) ≡ true → c ≡ true
and_last true true c e = e
and_last true false c e = absurd cc
and_last false b c e = absurd cc

chosen : ℕ → ℕ → Text → Bool → Option ℕ
unfolding before_backticks
chosen n c rest b = elim b [ true ↦ Some 0 | false ↦ option_map suc (before_backticks n c rest) ]

place_within : (n last : ℕ) (text : Text) (k : ℕ) → before_backticks n last text ≡ Some k → k + n ≤ length text
unfolding before_backticks chosen
place_within n last [] k e = absurd cc
place_within n last (c ∷ rest) k e = at (λ j f. place_within n c rest j f)
    ((c == 96) && (not (last == 96) && (run_length 96 (c ∷ rest) == n))) refl e
  where
    further : ((j : ℕ) → before_backticks n c rest ≡ Some j → j + n ≤ length rest) → (found : Option ℕ) → before_backticks n c rest ≡ found
        → option_map suc found ≡ Some k → k + n ≤ suc (length rest)
    further go None f g = absurd cc
    further go (Some j) f g = let same : suc j ≡ k = cc in let h : j + n ≤ length rest = go j f in omega arith

    at : ((j : ℕ) → before_backticks n c rest ≡ Some j → j + n ≤ length rest) → (b : Bool)
        → ((c == 96) && (not (last == 96) && (run_length 96 (c ∷ rest) == n))) ≡ b → chosen n c rest b ≡ Some k → k + n ≤ suc (length rest)
    at go true f g =
        let none : 0 ≡ k = cc in
        let same : run_length 96 (c ∷ rest) ≡ n = eqb-true (run_length 96 (c ∷ rest)) n
        (and_last (c == 96) (not (last == 96)) (run_length 96 (c ∷ rest) == n) f) in
        let h : run_length 96 (c ∷ rest) ≤ suc (length rest) = run_within (c ∷ rest) in
        omega arith
    at go false f g = further go (before_backticks n c rest) refl g

taken_by : (n : ℕ) (text : Text) → n ≤ length text → n ≡ length text - length (drop n text)
taken_by n text h = let e : length (drop n text) ≡ length text - n = length-drop n text in omega arith

-- ---- behind a backtick

made_by : List Inline → Text → Option ℕ → Step
unfolding code_span
made_by made rest found =
    let n : ℕ = run_length 96 rest in
    elim found [
      | Some k ↦ (Code (code_text (take k (drop n rest))) ∷ made, n + k + suc n)
      | None ↦ (replicate (suc n) (Literal 96) ++ made, n)
    ]

pub code_span_reads : (made : List Inline) (text : Text) → code_span made text ≡ code_read made text (code_span_at text)
unfolding code_span made_by span_of
code_span_reads made text = at (before_backticks (suc (run_length 96 text)) 0 (drop (run_length 96 text) text)) refl
    ∙ sym (ap (code_read made text) (by_place text))
  where
    at : (found : Option ℕ) → before_backticks (suc (run_length 96 text)) 0 (drop (run_length 96 text) text) ≡ found
        → made_by made text found ≡ code_read made text (span_of (run_length 96 text) text found)
    at None e =
        ap (λ (n : ℕ). (replicate (suc n) (Literal 96) ++ made, n)) (taken_by (run_length 96 text) text (run_within text))
    at (Some k) e =
        let a : k + suc (run_length 96 text) ≤ length (drop (run_length 96 text) text) = place_within (suc (run_length 96 text)) 0
        (drop (run_length 96 text) text) k e in
        let b : length (drop (run_length 96 text) text) ≡ length text - run_length 96 text = length-drop (run_length 96 text) text in
        let c : run_length 96 text ≤ length text = run_within text in
        let d : run_length 96 text + k + suc (run_length 96 text) ≤ length text = omega arith in
        ap (λ (n : ℕ). (Code (code_text (take k (drop (run_length 96 text) text))) ∷ made, n))
        (taken_by (run_length 96 text + k + suc (run_length 96 text)) text d)

-- where no code span begins, the text behind is what is behind the run
pub run_is_taken : (text behind : Text) → (None, behind) ≡ code_span_at text → text ≡ replicate (length text - length behind) 96 ++ behind
unfolding span_of
run_is_taken text behind e = at (before_backticks (suc (run_length 96 text)) 0 (drop (run_length 96 text) text)) (e ∙ by_place text)
  where
    at : (found : Option ℕ) → (None, behind) ≡ span_of (run_length 96 text) text found
        → text ≡ replicate (length text - length behind) 96 ++ behind
    at None f =
        let same : drop (run_length 96 text) text ≡ behind = ap (λ (found : Option Text × Text). found.1) (sym f) in
        run_split text
        ∙ (ap (λ n. replicate n 96 ++ drop (run_length 96 text) text) (taken_by (run_length 96 text) text (run_within text))
        ∙ ap (λ t. replicate (length text - length t) 96 ++ t) same)
    at (Some k) f = let none : None ≡ Some (code_text (take k (drop (run_length 96 text) text))) = ap
        (λ (found : Option Text × Text). found.0) f in absurd cc

-- ---- behind a '<'

pub left_angle_reads : (made : List Inline) (inside : Text) → left_angle made inside ≡ angle_read made inside (enclosed_at (60 ∷ inside))
unfolding left_angle enclosed_at enclosed_behind
left_angle_reads made inside = at ((uri then is 62) inside)
  where
    raw : (found : Option Text)
        → (elim found [
          | Some after ↦ (inlines.Raw (before after (60 ∷ inside)) ∷ made, length inside - length after)
          | None ↦ as_literal 60
              made
        ]) ≡
        angle_read made inside (elim found [ Some after ↦ Some (Raw (before after (60 ∷ inside)), after) | None ↦ None ])
    raw (Some after) = refl
    raw None = refl

    either : (found : Option Text) → (elim found [
      | Some after ↦ (autolink (codes "mailto:" ++ address after inside) (address after inside) made, length inside - length after)
      | None ↦ elim (raw_html (60 ∷ inside)) [
        | Some after ↦ (inlines.Raw (before after (60 ∷ inside)) ∷ made, length inside - length after)
        | None ↦ as_literal 60 made
      ]
    ]) ≡ angle_read made inside (elim found [
      | Some after ↦ Some (Mail (address after inside), after)
      | None ↦ elim (raw_html (60 ∷ inside)) [ Some after ↦ Some (Raw (before after (60 ∷ inside)), after) | None ↦ None ]
    ])
    either (Some after) = refl
    either None = raw (raw_html (60 ∷ inside))

    at : (found : Option Text) → (elim found [
      | Some after ↦ (autolink (address after inside) (address after inside) made, length inside - length after)
      | None ↦ elim ((mail then is 62) inside) [
        | Some after ↦ (autolink (codes "mailto:" ++ address after inside) (address after inside) made, length inside - length after)
        | None ↦ elim (raw_html (60 ∷ inside))
            [ Some after ↦ (inlines.Raw (before after (60 ∷ inside)) ∷ made, length inside - length after) | None ↦ as_literal 60 made ]
      ]
    ]) ≡ angle_read made inside (elim found [
      | Some after ↦ Some (Uri (address after inside), after)
      | None ↦ elim ((mail then is 62) inside) [
        | Some after ↦ Some (Mail (address after inside), after)
        | None ↦ elim (raw_html (60 ∷ inside)) [ Some after ↦ Some (Raw (before after (60 ∷ inside)), after) | None ↦ None ]
      ]
    ])
    at (Some after) = refl
    at None = either ((mail then is 62) inside)
