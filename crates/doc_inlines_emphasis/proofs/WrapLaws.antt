-- Emphasis from a place on: the marks of the code before and after, and the places that stay.
use Rattle.std.proofs.Common.{◌≡◌, ℕ, ◌-◌, ◌≤◌, List, ◌++◌, length, take, drop, ap, sym, ◌∙◌, subst, arith, min, append_assoc}
use Rattle.std.proofs.lemmas.List.{length-take-le, take-append-le, take-take, take-map, drop-map, take_rest, length-take}
use Rattle.doc_rules.specs.Emphasis.{emphasis_of}
use Rattle.doc_inlines_emphasis.specs.Marks.{Placed, ArePlaced, seen}
use Rattle.doc_inlines_emphasis.proofs.Stretches.{Agree, placed_same, placed_until}
use Rattle.doc_inlines_marks.specs.declared.mark_ref.MarkRef.{MarkRef}
use Rattle.doc_inlines_marks.specs.Views.{inlines_shown}
use Rattle.doc_inlines_emphasis.specs.declared.run.Run.{Run}
use Rattle.doc_inlines_emphasis.specs.declared.marks.Place.{Place}
use Rattle.doc_inlines_emphasis.specs.RunSteps.{placed_shown, all_placed}
use Rattle.doc_inlines_emphasis.specs.Steps.{IsWrapped}
use Rattle.doc_inlines_emphasis.specs.Views.{marks_shown, StandsApart}
use Rattle.doc_inlines_emphasis.proofs.NumberLaws.{as_many}
use Rattle.doc_inlines_emphasis.proofs.MarkLaws.{placed_from, middle_placed, agree_front}

-- ---- what the code passes

abbrev pub part_from : Place → List Run → List Run
part_from from runs = take (length runs - from.runs) (drop from.runs runs)

pub part_is : (from : Place) (runs : List Run) → all_placed (part_from from runs) ≡ drop from.runs (all_placed runs)
part_is from runs = ap all_placed (take_rest runs from.runs) ∙ sym (drop-map placed_shown from.runs runs)

part_stands : (items : List MarkRef) (runs : List Run) (from : Place) → StandsApart items (all_placed runs) from
    → ArePlaced (marks_shown items) from.marks (length items) (all_placed (part_from from runs))
part_stands items runs from h = subst (λ t. ArePlaced (marks_shown items) from.marks (length items) t) (sym (part_is from runs)) h.behind

pub passed_part : (items : List MarkRef) (runs held : List Run) (from : Place) → held ≡ runs → StandsApart items (all_placed runs) from
    → ArePlaced (marks_shown items) 0 (length items) (all_placed (part_from from held))
passed_part items runs held from f h =
    subst (λ t. ArePlaced (marks_shown items) 0 (length items) (all_placed (part_from from t))) (sym f)
    (placed_from (marks_shown items) from.marks (length items) 0 (all_placed (part_from from runs)) (part_stands items runs from h)
    (omega arith))

-- ---- what stands then

-- the marks and the runs before and after emphasis from a place on
pub record Wraps (items next : List MarkRef) (runs left : List Run) (from : Place) : Type 0 where
  pub place : StandsApart items (all_placed runs) from
  pub wrapped : IsWrapped from.marks items next (part_from from runs)
  pub left_are : left ≡ take from.runs runs

pub wraps : (items next : List MarkRef) (runs held left : List Run) (from : Place) → held ≡ runs
    → StandsApart items (all_placed runs) from →
    ((place : ℕ) → ArePlaced (marks_shown items) place (length items) (all_placed (part_from from held))
    → IsWrapped place items next (part_from from held)) →
    left ≡ take from.runs runs → Wraps items next runs left from
wraps items next runs held left from f h w g =
    let here : (place : ℕ) → ArePlaced (marks_shown items) place (length items) (all_placed (part_from from runs))
    → IsWrapped place items next (part_from from runs) =
    subst (λ t. (place : ℕ) → ArePlaced (marks_shown items) place (length items) (all_placed (part_from from t))
    → IsWrapped place items next (part_from from t)) f w in
    record { place = h; wrapped = here from.marks (part_stands items runs from h); left_are = g }

module _ (items next : List MarkRef) (runs left : List Run) (from : Place) (w : Wraps items next runs left from) where
  pub wrap_runs : all_placed left ≡ take from.runs (all_placed runs)
  wrap_runs = ap all_placed w.left_are ∙ sym (take-map placed_shown from.runs runs)

  pub wrap_emphasis : inlines_shown (drop from.marks next) ≡ emphasis_of
      (seen (marks_shown items) from.marks (length items) (drop from.runs (all_placed runs)))
  wrap_emphasis = w.wrapped.emphasis ∙ ap (λ t. emphasis_of (seen (marks_shown items) from.marks (length items) t)) (part_is from runs)

  agree : Agree (marks_shown items) (marks_shown next) 0 from.marks
  agree = agree_front items next from.marks w.wrapped.keeps.front

  pub wrap_sound : ArePlaced (marks_shown next) 0 (length next) (all_placed left)
  wrap_sound =
      let fits : from.marks ≤ length items = w.place.marks in
      let long : length next ≡ length items = w.wrapped.keeps.size in
      subst (λ t. ArePlaced (marks_shown next) 0 (length next) t) (sym wrap_runs)
      (placed_until (marks_shown next) 0 from.marks (length next) (take from.runs (all_placed runs))
      (placed_same (marks_shown items) (marks_shown next) 0 from.marks (take from.runs (all_placed runs)) w.place.before agree)
      (omega arith))

  pub wrap_place : (place : Place) → place.marks ≤ from.marks → place.runs ≤ from.runs → StandsApart items (all_placed runs) place
      → StandsApart next (all_placed left) place
  wrap_place place low few h =
      let r : List Placed = all_placed runs in
      let fits : from.marks ≤ length items = w.place.marks in
      let runs_fit : from.runs ≤ length (all_placed runs) = w.place.runs_fit in
      let long : length next ≡ length items = w.wrapped.keeps.size in
      let many : length (take from.runs (all_placed runs)) ≡ min from.runs (length (all_placed runs)) = length-take from.runs
      (all_placed runs) in
      let both : ArePlaced (marks_shown items) place.marks from.marks (drop place.runs (take from.runs r)) = middle_placed items r from
      place w.place h low few in
      subst (λ t. StandsApart next t place) (sym wrap_runs)
      (record {
        marks = omega arith;
        runs_fit = omega arith;
        before =
            subst (λ t. ArePlaced (marks_shown next) 0 place.marks t) (sym (take-take place.runs from.runs r few))
            (placed_same (marks_shown items) (marks_shown next) 0 place.marks (take place.runs r) h.before
            (λ i a b. agree i a (omega arith)));
        behind =
            placed_until (marks_shown next) place.marks from.marks (length next) (drop place.runs (take from.runs r))
            (placed_same (marks_shown items) (marks_shown next) place.marks from.marks (drop place.runs (take from.runs r)) both
            (λ i a b. agree i (omega arith) b)) (omega arith);
      })

-- the runs before the place are those that are kept
pub kept_front : (f n : ℕ) (held runs more rest : List Run) → held ≡ runs → n ≡ length runs → f ≤ length (all_placed runs)
    → take f (take n ((take f held ++ more) ++ rest)) ≡ take f runs
kept_front f n held runs more rest e long fits =
    let many : length (all_placed runs) ≡ length runs = as_many runs in
    let same : length held ≡ length runs = ap length e in
    let size : length (take f held) ≡ f = length-take-le f held (omega arith) in
    take-take f n ((take f held ++ more) ++ rest) (omega arith)
    ∙ (ap (take f) (append_assoc (take f held) more rest)
    ∙ (take-append-le f (take f held) (more ++ rest) (omega arith) ∙ (take-take f f held (omega arith) ∙ ap (take f) e)))
