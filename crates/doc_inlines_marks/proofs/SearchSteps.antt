-- The searches over runs of backticks, step by step.
use Rattle.std.proofs.Common.{◌≡◌, ◌≢◌, ℕ, zero, suc, ◌+◌, ◌<◌, ◌≤◌, Bool, true, false, ◌==◌, List, [], ◌∷◌, ◌++◌, replicate, length, drop}
use Rattle.std.proofs.Common.{get_or, refl, ap, sym, ◌∙◌, Some, None, option_map, arith, append_assoc, length-append, ne_eqb, eqb-true}
use borrow.Author.Tests.{eqb-false}
use Rattle.std.proofs.lemmas.List.{append_cancel_right}
use Rattle.doc_rules.specs.Characters.{Text}
use Rattle.doc_rules.specs.Parsers.{run_length}
use Rattle.doc_rules.specs.CodeSpans.{before_backticks}
use Rattle.doc_rules.specs.Rests.{IsRest}
use Rattle.doc_rules.proofs.ParserLaws.{is_all, is_rest_again, rest_is_shorter}
use Rattle.doc_inlines_marks.specs.ToldSteps.{size}
use Rattle.doc_inlines_marks.specs.RunSteps.{IsToRun, IsSpan, IsLearned}
use Rattle.doc_inlines_marks.proofs.RunLaws.{none_further, added, over_gap, run_found, over_run, run_split, run_ends, none_behind}
use Rattle.doc_inlines_marks.proofs.Sizes.{tails, smaller_end}

-- ---- a run, and what is behind it

-- behind the run at the front of a text
abbrev pub IsBehindRun : Text → Text → Type 0
IsBehindRun behind start = behind ≡ drop (run_length 96 start) start

pub split_at_run : (start behind : Text) → IsBehindRun behind start → start ≡ replicate (run_length 96 start) 96 ++ behind
split_at_run start behind e = run_split start ∙ ap (λ t. replicate (run_length 96 start) 96 ++ t) (sym e)

pub ends_at_run : (start behind : Text) → IsBehindRun behind start → run_length 96 behind ≡ 0
ends_at_run start behind e = ap (run_length 96) e ∙ run_ends start

pub behind_run : (start behind : Text) → IsBehindRun behind start → IsRest behind start
behind_run start behind e = record { front = replicate (run_length 96 start) 96; split = split_at_run start behind e }

past_run : (n k : ℕ) (rest : Text) → run_length 96 rest ≡ 0 → 0 < k → (k ≡ n → ⊥)
    → before_backticks n 0 (replicate k 96 ++ rest) ≡ option_map (λ j. k + j) (before_backticks n 0 rest)
past_run n zero rest h l ne = absurd (omega arith)
past_run n (suc m) rest h l ne = over_run n m rest h (ne_eqb (suc m) n ne)

at_run : (n k : ℕ) (rest : Text) → run_length 96 rest ≡ 0 → 0 < n → k ≡ n → before_backticks n 0 (replicate k 96 ++ rest) ≡ Some 0
at_run n zero rest h l e = absurd (omega arith)
at_run n (suc m) rest h l e = run_found n m rest h (sym e)

pub to_run_rest : (start rest : Text) → IsToRun start rest → IsRest start rest
to_run_rest start rest h = record { front = h.gap; split = h.split }

abbrev pub ticks : ℕ → Text
ticks k = replicate k 96

pub copies : (k : ℕ) → length (ticks k) ≡ k
copies zero = refl
copies (suc k) = ap suc (copies k)

-- a run that is not the one that is sought leaves less
pub shorter_behind : (start behind rest : Text) → IsToRun start rest → IsBehindRun behind start → 0 < run_length 96 start
    → length behind < length rest
shorter_behind start behind rest h e l =
    let a : length start ≤ length rest = rest_is_shorter start rest (to_run_rest start rest h) in
    let b : length start ≡ length (replicate (run_length 96 start) 96 ++ behind) = ap length (split_at_run start behind e) in
    let d : length (replicate (run_length 96 start) 96 ++ behind) ≡ length (ticks (run_length 96 start)) + length behind = length-append
    (replicate (run_length 96 start) 96) behind in
    let f : length (ticks (run_length 96 start)) ≡ run_length 96 start = copies (run_length 96 start) in
    omega arith

-- ---- the end of a code span

-- nothing that is sought stands in front of the rest
pub record Sought (n : ℕ) (text rest : Text) : Type 0 where
  pub front : Text
  pub split : text ≡ front ++ rest
  pub value : before_backticks n 0 text ≡ option_map (λ k. length front + k) (before_backticks n 0 rest)

pub sought_rest : (n : ℕ) (text rest : Text) → Sought n text rest → IsRest rest text
sought_rest n text rest h = record { front = h.front; split = h.split }

pub sought_first : (n : ℕ) (text : Text) → Sought n text text
sought_first n text = record { front = []; split = refl; value = sym (none_further (before_backticks n 0 text)) }

sought_over : (n : ℕ) (text rest gap behind : Text) → Sought n text rest → rest ≡ gap ++ behind
    → before_backticks n 0 rest ≡ option_map (λ k. length gap + k) (before_backticks n 0 behind) → Sought n text behind
sought_over n text rest gap behind h e v = record {
  front = h.front ++ gap;
  split = h.split ∙ (ap (λ t. h.front ++ t) e ∙ sym (append_assoc h.front gap behind));
  value = h.value ∙ (ap (option_map (λ k. length h.front + k)) v
      ∙ (added (length h.front) (length gap) (before_backticks n 0 behind)
      ∙ ap (λ m. option_map (λ k. m + k) (before_backticks n 0 behind)) (sym (length-append h.front gap))));
}

gap_value : (n : ℕ) (rest start : Text) (h : IsToRun start rest)
    → before_backticks n 0 rest ≡ option_map (λ k. length h.gap + k) (before_backticks n 0 start)
gap_value n rest start h = ap (before_backticks n 0) h.split ∙ over_gap n 0 h.gap start h.plain refl

pub sought_start : (n : ℕ) (text rest start : Text) → Sought n text rest → IsToRun start rest → Sought n text start
sought_start n text rest start h g = sought_over n text rest g.gap start h g.split (gap_value n rest start g)

run_value : (n : ℕ) (start behind : Text) → IsBehindRun behind start → 0 < run_length 96 start → (run_length 96 start ≡ n → ⊥) →
    before_backticks n 0 start ≡ option_map (λ k. run_length 96 start + k) (before_backticks n 0 behind)
run_value n start behind e l ne = ap (before_backticks n 0) (split_at_run start behind e)
    ∙ past_run n (run_length 96 start) behind (ends_at_run start behind e) l ne

pub sought_behind : (n : ℕ) (text rest start behind : Text) → Sought n text rest → IsToRun start rest → IsBehindRun behind start
    → 0 < run_length 96 start → (run_length 96 start ≡ n → ⊥) → Sought n text behind
sought_behind n text rest start behind h g e l ne =
    sought_over n text start (replicate (run_length 96 start) 96) behind (sought_start n text rest start h g) (split_at_run start behind e)
    (run_value n start behind e l ne ∙ ap (λ m. option_map (λ k. m + k) (before_backticks n 0 behind)) (sym (copies (run_length 96 start))))

plus_zero : (m : ℕ) → m + 0 ≡ m
plus_zero m = omega arith

pub span_found : (n : ℕ) (text rest start behind content : Text) → Sought n text rest → IsToRun start rest → IsBehindRun behind start
    → 0 < n → run_length 96 start ≡ n → text ≡ content ++ start → IsSpan n content behind text
span_found n text rest start behind content h g e l same joins =
    let s : Sought n text start = sought_start n text rest start h g in
    let here : before_backticks n 0 start ≡ Some 0 =
    ap (before_backticks n 0) (split_at_run start behind e) ∙ at_run n (run_length 96 start) behind (ends_at_run start behind e) l same in
    let front : s.front ≡ content = append_cancel_right s.front content start (sym s.split ∙ joins) in record {
      place = s.value ∙ (ap (option_map (λ k. length s.front + k)) here
          ∙ (ap Some (plus_zero (length s.front)) ∙ ap (λ t. Some (length t)) front));
      split = joins ∙ (ap (λ t. content ++ t) (split_at_run start behind e) ∙ ap (λ k. content ++ (replicate k 96 ++ behind)) same);
    }

none_at_end : (n : ℕ) (start : Text) → start ≡ [] → before_backticks n 0 start ≡ None
unfolding before_backticks
none_at_end n start e = ap (before_backticks n 0) e

pub span_missing : (n : ℕ) (text rest start : Text) → Sought n text rest → IsToRun start rest → run_length 96 start ≡ 0
    → before_backticks n 0 text ≡ None
span_missing n text rest start h g e =
    let s : Sought n text start = sought_start n text rest start h g in
    s.value ∙ ap (option_map (λ k. length s.front + k)) (none_at_end n start (g.stops e))

-- ---- the places of runs

-- what is known while the rest is still to be gone over: where a run is not in the rest, and its place is behind, it stands nowhere
pub record Learning (places : List ℕ) (text rest : Text) : Type 0 where
  pub end : IsRest rest text
  pub known : (n : ℕ) (s : Text) → IsRest s text → run_length 96 s ≡ 0 → size s < get_or places n (size text)
      → before_backticks n 0 rest ≡ None → before_backticks n 0 s ≡ None

pub learning_first : (places : List ℕ) (text : Text) → Learning places text text
learning_first places text = record {
  end = is_all text;
  known = λ n s h g l e. none_behind n 0 h.front s (ap (before_backticks n 0) (sym h.split) ∙ e) g;
}

pub learned_all : (places : List ℕ) (text rest start : Text) → Learning places text rest → IsToRun start rest → run_length 96 start ≡ 0
    → IsLearned places text
learned_all places text rest start h g e = λ n s ends starts small.
    h.known n s ends starts small (gap_value n rest start g ∙ ap (option_map (λ k. length g.gap + k)) (none_at_end n start (g.stops e)))

-- what does not begin inside a run stands behind it
past_copies : (k : ℕ) (front s behind : Text) → front ++ s ≡ replicate k 96 ++ behind → run_length 96 s ≡ 0 → IsRest s behind
unfolding run_length
past_copies zero front s behind e h = record { front = front; split = sym e }
past_copies (suc k) [] s behind e h = let f : run_length 96 s ≡ suc (run_length 96 (replicate k 96 ++ behind)) = ap (run_length 96) e in
    absurd (omega arith)
past_copies (suc k) (d ∷ front) s behind e h = past_copies k front s behind (tails d 96 (front ++ s) (replicate k 96 ++ behind) e) h

smaller_place : (n k place : ℕ) (old new : List ℕ) (none : ℕ) → get_or new k none ≡ place → n ≡ k → (m : ℕ) → m < get_or new n none
    → m < place
smaller_place n k place old new none e same m l =
    let f : get_or new n none ≡ place = ap (λ j. get_or new j none) same ∙ e in
    omega arith

pub learning_on : (old new : List ℕ) (text rest start behind : Text) → Learning old text rest → IsToRun start rest
    → IsBehindRun behind start → 0 < run_length 96 start →
    get_or new (run_length 96 start) (size text) ≡ size start
    → ((n : ℕ) → (n ≡ run_length 96 start → ⊥) → get_or new n (size text) ≡ get_or old n (size text)) → Learning new text behind
learning_on old new text rest start behind h g e l here others =
    let start_end : IsRest start text = is_rest_again text rest start (to_run_rest start rest g) h.end in record {
      end = is_rest_again text start behind (behind_run start behind e) start_end;
      known = λ n s ends starts small none. at n s ends starts small none start_end (n == run_length 96 start) refl;
    }
  where
    same_length : (n : ℕ) (s : Text) → IsRest s text → run_length 96 s ≡ 0 → size s < get_or new n (size text)
        → before_backticks n 0 behind ≡ None → IsRest start text → n ≡ run_length 96 start → before_backticks n 0 s ≡ None
    same_length n s ends starts small none start_end same =
        let less : size s < size start = smaller_place n (run_length 96 start) (size start) old new (size text) here same (size s) small in
        let inner : IsRest s start = smaller_end s start text ends start_end (omega arith) in
        let after : IsRest s behind = past_copies (run_length 96 start) inner.front s behind (sym inner.split
        ∙ split_at_run start behind e) starts in
        none_behind n 0 after.front s (ap (before_backticks n 0) (sym after.split) ∙ none) starts

    other_length : (n : ℕ) (s : Text) → IsRest s text → run_length 96 s ≡ 0 → size s < get_or new n (size text)
        → before_backticks n 0 behind ≡ None → (n ≡ run_length 96 start → ⊥) → before_backticks n 0 s ≡ None
    other_length n s ends starts small none ne =
        let kept : get_or new n (size text) ≡ get_or old n (size text) = others n ne in
        h.known n s ends starts (omega arith)
        (gap_value n rest start g ∙ ap (option_map (λ k. length g.gap + k)) (run_value n start behind e l (λ q. ne (sym q))
        ∙ ap (option_map (λ k. run_length 96 start + k)) none))

    at : (n : ℕ) (s : Text) → IsRest s text → run_length 96 s ≡ 0 → size s < get_or new n (size text) → before_backticks n 0 behind ≡ None
        → IsRest start text → (b : Bool) → (n == run_length 96 start) ≡ b → before_backticks n 0 s ≡ None
    at n s ends starts small none start_end true f = same_length n s ends starts small none start_end (eqb-true n (run_length 96 start) f)
    at n s ends starts small none start_end false f = other_length n s ends starts small none (eqb-false n (run_length 96 start) f)

-- the same as the code notes it
pub learning_noted : (old new : List ℕ) (text rest start behind : Text) (none k place : ℕ) → Learning old text rest → IsToRun start rest
    → IsBehindRun behind start → 0 < run_length 96 start →
    k ≡ run_length 96 start → size text ≡ none → size start ≡ place → get_or new k none ≡ place
    → ((n : ℕ) → n ≢ k → get_or new n none ≡ get_or old n none) → Learning new text behind
learning_noted old new text rest start behind none k place h g e l count all here at others =
    learning_on old new text rest start behind h g e l
    (ap (get_or new (run_length 96 start)) all ∙ (ap (λ j. get_or new j none) (sym count) ∙ (at ∙ sym here)))
    (λ n ne. ap (get_or new n) all ∙ (others n (λ q. ne (q ∙ count)) ∙ ap (get_or old n) (sym all)))
