-- The runs of the code by their numbers.
use Rattle.std.proofs.Common.{◌≡◌, ◌⊎◌, inl, inr, ℕ, ◌+◌, ◌-◌, ◌<◌, Bool, true, false, List, length, get_or, set, refl, ap, ap₂, sym, ◌∙◌}
use Rattle.std.proofs.Common.{subst, Option, None, arith}
use Rattle.std.specs.Prelude.{suc, ◌≤◌, Some, slice_index, if◌then◌else◌}
use Rattle.std.proofs.lemmas.List.{map-set, get_or-map, length-map}
use Rattle.doc_rules.specs.Inlines as rules
use Rattle.doc_rules.specs.Emphasis.{matches}
use Rattle.doc_inlines_emphasis.specs.Marks.{Placed, less_closer}
use Rattle.doc_inlines_emphasis.specs.Openers.{closer_kind, IsDelimiter, MissedFrom, NearestIs, AreBounds, Ascend, StandBefore}
use Rattle.doc_inlines_emphasis.specs.NumberSteps.{no_run, numbered, run_numbered, taken_opener, paired_runs}
use Rattle.doc_inlines_emphasis.specs.PassSteps.{Stacked}
use Rattle.doc_inlines_emphasis.proofs.BoundLaws.{missed_more, missed_below}
use Rattle.doc_inlines_emphasis.proofs.NumberLoops.{stacked_failed}
use Rattle.doc_inlines_emphasis.specs.declared.delimiter.Delimiter.{Delimiter}
use Rattle.doc_inlines_emphasis.specs.declared.delimiter.Delimiter.TheVariants.{Star, Underscore, Tilde, TwoTildes}
use Rattle.doc_inlines_emphasis.specs.declared.run.Run.{Run}
use Rattle.doc_inlines_emphasis.specs.RunSteps.{delimiter, char_of, length_by, run_shown, placed_shown, all_placed}

pub numbered_is : (runs : List Run) (n : ℕ) (d : Run) → n < length runs → numbered (all_placed runs) n ≡ placed_shown (get_or runs n d)
numbered_is runs n d h = get_or-map placed_shown runs n d no_run h

pub run_is : (runs : List Run) (n : ℕ) (d : Run) → n < length runs → run_numbered (all_placed runs) n ≡ run_shown (get_or runs n d)
run_is runs n d h = ap (λ (p : Placed). p.run) (numbered_is runs n d h)

pub as_many : (runs : List Run) → length (all_placed runs) ≡ length runs
as_many runs = length-map runs placed_shown

pub delimiter_is : (run : Run) → IsDelimiter (char_of run) (length_by run.delimiter run.length)
delimiter_is run = at run.delimiter
  where
    at : (d : Delimiter) → IsDelimiter (delimiter d) (length_by d run.length)
    at Star = inl (inl refl)
    at Underscore = inl (inr refl)
    at Tilde = inr (refl, inl refl)
    at TwoTildes = inr (refl, inr refl)

-- a search goes down by one
abbrev Above : List Run → List ℕ → Run → ℕ → Type 0
Above runs openers closer n = MissedFrom (run_numbered (all_placed runs)) openers (run_shown closer) n

step_down : (runs : List Run) (openers : List ℕ) (closer : Run) (place : ℕ) → 0 < place → Above runs openers closer place
    → Above runs openers closer (suc (place - 1))
step_down runs openers closer place some missed at least less = missed at (omega arith) less

-- the test of the code on the run at a place of the stack
tested : (runs : List Run) (openers : List ℕ) (closer d : Run) (n : ℕ) (m : Bool) → n < length openers → StandBefore (length runs) openers
    → matches (run_shown (get_or runs (slice_index openers n) d)) (run_shown closer) ≡ m
    → matches (run_numbered (all_placed runs) (slice_index openers n)) (run_shown closer) ≡ m
tested runs openers closer d n m h before e =
    ap (λ (r : rules.Run). matches r (run_shown closer)) (run_is runs (slice_index openers n) d (before n h)) ∙ e

pub search_missed : (runs : List Run) (openers : List ℕ) (closer d : Run) (place : ℕ) → 0 < place → place ≤ length openers
    → StandBefore (length runs) openers → Above runs openers closer place
    → matches (run_shown (get_or runs (slice_index openers (place - 1)) d)) (run_shown closer) ≡ false
    → Above runs openers closer (place - 1)
search_missed runs openers closer d place some within before missed e =
    missed_more (run_numbered (all_placed runs)) openers (run_shown closer) (place - 1) (step_down runs openers closer place some missed)
    (tested runs openers closer d (place - 1) false (omega arith) before e)

pub search_found : (runs : List Run) (openers : List ℕ) (closer d : Run) (place : ℕ) → 0 < place → place ≤ length openers
    → StandBefore (length runs) openers → Above runs openers closer place
    → matches (run_shown (get_or runs (slice_index openers (place - 1)) d)) (run_shown closer) ≡ true
    → NearestIs (run_numbered (all_placed runs)) openers (run_shown closer) (Some (place - 1))
search_found runs openers closer d place some within before missed e =
    (omega arith, tested runs openers closer d (place - 1) true (omega arith) before e, step_down runs openers closer place some missed)

pub search_ended : (runs : List Run) (openers bounds : List ℕ) (closer : Run) (place kind : ℕ) → 0 < place → place ≤ length openers
    → AreBounds bounds (run_numbered (all_placed runs)) openers → Ascend openers → closer.closes ≡ true
    → Above runs openers closer place → kind ≡ closer_kind (run_shown closer)
    → slice_index openers (place - 1) < slice_index bounds kind
    → NearestIs (run_numbered (all_placed runs)) openers (run_shown closer) None
search_ended runs openers bounds closer place kind some within bounded ascend closes missed e less =
    missed_below bounds (run_numbered (all_placed runs)) openers (run_shown closer) (place - 1) bounded ascend (closes, delimiter_is closer)
    (step_down runs openers closer place some missed) (omega arith)
    (subst (λ k. slice_index openers (place - 1) < slice_index bounds k) e less)

-- what is found among the openers that were looked at, for a run as it is
pub nearest_told : (runs : List Run) (openers looked : List ℕ) (number : ℕ) (d : Run) (found : Option ℕ) → number < length runs
    → looked ≡ openers → NearestIs (run_numbered (all_placed runs)) looked (run_shown (get_or runs number d)) found
    → NearestIs (run_numbered (all_placed runs)) openers (run_numbered (all_placed runs) number) found
nearest_told runs openers looked number d found within is near =
    subst (λ (r : rules.Run). NearestIs (run_numbered (all_placed runs)) openers r found) (sym (run_is runs number d within))
    (subst (λ xs. NearestIs (run_numbered (all_placed runs)) xs (run_shown (get_or runs number d)) found) is near)

pub stand_within : (number size : ℕ) (openers : List ℕ) → StandBefore number openers → number < size → StandBefore size openers
stand_within number size openers before within place less = let h = before place less in omega arith

-- a search that fails sets the bound
pub search_failed : (runs : List Run) (openers looked bounds : List ℕ) (number kind : ℕ) (d : Run)
    → Stacked (all_placed runs) openers bounds number → number < length runs →
    (run_numbered (all_placed runs) number).closes ≡ true → looked ≡ openers
    → NearestIs (run_numbered (all_placed runs)) looked (run_shown (get_or runs number d)) None →
    kind ≡ closer_kind (run_shown (get_or runs number d)) → kind < length bounds
    → Stacked (all_placed runs) openers (set bounds kind number) number
search_failed runs openers looked bounds number kind d s size closes is near e within =
    let same : run_numbered (all_placed runs) number ≡ run_shown (get_or runs number d) = run_is runs number d size in
    let kinds : closer_kind (run_numbered (all_placed runs) number) ≡ kind = ap closer_kind same ∙ sym e in
    let missed : NearestIs (run_numbered (all_placed runs)) openers (run_numbered (all_placed runs) number) None =
    subst (λ (r : rules.Run). NearestIs (run_numbered (all_placed runs)) openers r None) (sym same)
    (subst (λ xs. NearestIs (run_numbered (all_placed runs)) xs (run_shown (get_or runs number d)) None) is near) in
    subst (λ k. Stacked (all_placed runs) openers (set bounds k number) number) kinds
    (stacked_failed (all_placed runs) openers bounds number s (closes, chars number d size) missed (omega arith))
  where
    chars : (n : ℕ) (e : Run) → n < length runs → IsDelimiter (run_numbered (all_placed runs) n).char (run_numbered (all_placed runs) n).length
    chars n e h = subst (λ (r : rules.Run). IsDelimiter r.char r.length) (sym (run_is runs n e h)) (delimiter_is (get_or runs n e))

-- delimiters are taken of two runs
pub taken_is : (runs : List Run) (o c n : ℕ) (d e : Run) → o < length runs → c < length runs →
    all_placed (set (set runs o (record (get_or runs o d) { left = (get_or runs o d).left - n })) c
    (record (get_or runs c e) { first = (get_or runs c e).first + n; left = (get_or runs c e).left - n }))
    ≡ paired_runs (all_placed runs) o c n
taken_is runs o c n d e h g =
    let x : Run = record (get_or runs o d) { left = (get_or runs o d).left - n } in
    let y : Run = record (get_or runs c e) { first = (get_or runs c e).first + n; left = (get_or runs c e).left - n } in
    map-set placed_shown (set runs o x) c y
    ∙ ap₂ (λ ys p. set ys c p) (map-set placed_shown runs o x
    ∙ ap (set (all_placed runs) o) (ap (taken_opener n) (sym (numbered_is runs o d h)))) (ap (less_closer n) (sym (numbered_is runs c e g)))
