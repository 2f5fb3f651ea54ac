-- The code span behind a backtick, from what the searches found.
use Rattle.std.proofs.Common.{◌≡◌, ℕ, suc, ◌+◌, ◌<◌, ◌++◌, length, take, drop, get_or, refl, ap, sym, ◌∙◌, subst, Option, Some, None, arith}
use Rattle.std.proofs.Common.{append_assoc, length-append}
use Rattle.std.proofs.Math.Seq.{take-append_seam, drop-append-add}
use Rattle.doc_rules.specs.Characters.{Text}
use Rattle.doc_rules.specs.Parsers.{run_length}
use Rattle.doc_rules.specs.CodeSpans.{before_backticks, code_text}
use Rattle.doc_rules.specs.Rests.{IsRest}
use Rattle.doc_inlines_marks.specs.CodeSpans.{code_span_at}
use Rattle.doc_inlines_marks.specs.PlaceSteps.{StandsBefore}
use Rattle.doc_inlines_marks.specs.declared.backticks.Backticks.{Backticks}
use Rattle.doc_inlines_marks.specs.ToldSteps.{size, Lacks, TellsOfRuns}
use Rattle.doc_inlines_marks.specs.RunSteps.{IsSpan, IsCodeText}
use Rattle.doc_inlines_marks.specs.LearnSteps.{HasLearned}
use Rattle.doc_inlines_marks.proofs.SearchSteps.{IsBehindRun, split_at_run, copies, ticks}
use Rattle.doc_inlines_marks.proofs.Sizes.{smaller_end}

unfoldable pub span_of : ℕ → Text → Option ℕ → Option Text × Text
unfolding code_span_at
span_of n rest found = elim found [
  | Some k ↦ (Some (code_text (take k (drop n rest))), drop (n + k + suc n) rest)
  | None ↦ (None, drop n rest)
]

pub by_place : (text : Text) → code_span_at text ≡ span_of (run_length 96 text) text
    (before_backticks (suc (run_length 96 text)) 0 (drop (run_length 96 text) text))
unfolding code_span_at span_of
by_place text = refl

-- ---- none

same_place : (k : ℕ) (text rest : Text) (found : Option ℕ) → IsBehindRun rest text → k ≡ run_length 96 text + 1
    → before_backticks k 0 rest ≡ found →
    before_backticks (suc (run_length 96 text)) 0 (drop (run_length 96 text) text) ≡ found
same_place k text rest found b e f =
    let same : suc (run_length 96 text) ≡ k = omega arith in
    ap (λ n. before_backticks n 0 (drop (run_length 96 text) text)) same ∙ (ap (before_backticks k 0) (sym b) ∙ f)

pub no_span : (k : ℕ) (text rest : Text) → IsBehindRun rest text → k ≡ run_length 96 text + 1 → before_backticks k 0 rest ≡ None
    → (None, rest) ≡ code_span_at text
unfolding span_of
no_span k text rest b e f =
    ap (λ (t : Text). (None, t)) b ∙ sym (by_place text ∙ ap (span_of (run_length 96 text) text) (same_place k text rest None b e f))

-- ---- one

behind_span : (n : ℕ) (text rest content behind : Text) → text ≡ ticks n ++ rest → rest ≡ content ++ (ticks (suc n) ++ behind)
    → drop (n + length content + suc n) text ≡ behind
behind_span n text rest content behind e f =
    let whole : text ≡ (ticks n ++ (content ++ ticks (suc n))) ++ behind =
    e ∙ (ap (λ t. ticks n ++ t) (f ∙ sym (append_assoc content (ticks (suc n)) behind))
    ∙ sym (append_assoc (ticks n) (content ++ ticks (suc n)) behind)) in
    let a : length (ticks n ++ (content ++ ticks (suc n))) ≡ length (ticks n) + length (content ++ ticks (suc n)) = length-append (ticks n)
    (content ++ ticks (suc n)) in
    let b : length (content ++ ticks (suc n)) ≡ length content + length (ticks (suc n)) = length-append content (ticks (suc n)) in
    let c : length (ticks n) ≡ n = copies n in
    let d : length (ticks (suc n)) ≡ suc n = copies (suc n) in
    let count : n + length content + suc n ≡ length (ticks n ++ (content ++ ticks (suc n))) + 0 = omega arith in
    ap (λ k. drop k text) count ∙ (ap (drop (length (ticks n ++ (content ++ ticks (suc n))) + 0)) whole
    ∙ drop-append-add (ticks n ++ (content ++ ticks (suc n))) behind 0)

pub one_span : (k : ℕ) (text rest content behind slice : Text) → IsBehindRun rest text → k ≡ run_length 96 text + 1
    → IsSpan k content behind rest → IsCodeText slice content → (Some slice, behind) ≡ code_span_at text
unfolding span_of
one_span k text rest content behind slice b e h g =
    let n : ℕ = run_length 96 text in
    let same : k ≡ suc n = omega arith in
    let split : rest ≡ content ++ (ticks (suc n) ++ behind) = h.split ∙ ap (λ j. content ++ (ticks j ++ behind)) same in
    let taken : content ≡ take (length content) (drop n text) = sym (take-append_seam content (ticks (suc n) ++ behind))
    ∙ ap (take (length content)) (sym split ∙ b) in
    let left : behind ≡ drop (n + length content + suc n) text = sym
    (behind_span n text rest content behind (split_at_run text rest b) split) in
    ap (λ (t : Text). (Some t, behind)) (g.value ∙ ap code_text taken)
    ∙ (ap (λ (t : Text). (Some (code_text (take (length content) (drop n text))), t)) left
    ∙ sym (by_place text ∙ ap (span_of n text) (same_place k text rest (Some (length content)) b e h.place)))

-- ---- where it stands

pub span_stands : (k : ℕ) (text rest content behind slice : Text) → IsBehindRun rest text → IsSpan k content behind rest
    → IsCodeText slice content → StandsBefore slice behind text
span_stands k text rest content behind slice b h g = record {
  front = ticks (run_length 96 text) ++ g.front;
  between = g.back ++ ticks k;
  split =
      split_at_run text rest b
      ∙ (ap (λ t. ticks (run_length 96 text) ++ t) (h.split ∙ ap (λ t. t ++ (ticks k ++ behind)) g.split)
      ∙ regrouped (ticks (run_length 96 text)) g.front slice g.back (ticks k) behind);
}
  where
    regrouped : (a b c d e f : Text) → a ++ ((b ++ (c ++ d)) ++ (e ++ f)) ≡ (a ++ b) ++ (c ++ ((d ++ e) ++ f))
    regrouped a b c d e f =
        ap (λ t. a ++ t) (append_assoc b (c ++ d) (e ++ f) ∙ ap (λ t. b ++ t) (append_assoc c d (e ++ f)
        ∙ ap (λ t. c ++ t) (sym (append_assoc d e f))))
        ∙ sym (append_assoc a b (c ++ ((d ++ e) ++ f)))

pub span_rest : (k : ℕ) (text rest content behind : Text) → IsBehindRun rest text → IsSpan k content behind rest → IsRest behind text
span_rest k text rest content behind b h = record {
  front = ticks (run_length 96 text) ++ (content ++ ticks k);
  split =
      split_at_run text rest b
      ∙ (ap (λ t. ticks (run_length 96 text) ++ t) (h.split ∙ sym (append_assoc content (ticks k) behind))
      ∙ sym (append_assoc (ticks (run_length 96 text)) (content ++ ticks k) behind));
}

-- ---- what is learned

pub told_nothing : (learned : Backticks) (whole : Text) → learned.learned ≡ 0 → TellsOfRuns learned whole
told_nothing learned whole e = λ n rest ends starts lacks. let l : size rest < learned.learned = lacks.0 in absurd (omega arith)

pub told_all : (learned : Backticks) (whole rest : Text) → IsRest rest whole → HasLearned learned rest → TellsOfRuns learned whole
told_all learned whole rest ends h = λ n s inner starts lacks.
    let few : size s < learned.learned = lacks.0 in
    let all : learned.learned ≡ size rest = h.all in
    let nested : IsRest s rest = smaller_end s rest whole inner ends (omega arith) in
    h.places n s nested starts (subst (λ (d : ℕ). size s < get_or learned.places.items n d) all lacks.1)

-- no run of this length stands there
pub lacked : (learned : Backticks) (whole rest : Text) (k left : ℕ) → TellsOfRuns learned whole → IsRest rest whole
    → run_length 96 rest ≡ 0 → size rest ≡ left → Lacks learned k left → before_backticks k 0 rest ≡ None
lacked learned whole rest k left told ends starts e lacks = told k rest ends starts (subst (Lacks learned k) (sym e) lacks)
