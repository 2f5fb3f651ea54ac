-- The loops over runs by their numbers: what holds before each run, and at the present one, with the openers and the bounds.
use Rattle.std.proofs.Common.{◌≡◌, ◌⊎◌, inl, inr, ℕ, suc, ◌+◌, ◌-◌, ◌<◌, ◌≤◌, Bool, true, false, List, [], ◌∷◌, ◌++◌, length, get_or, set}
use Rattle.std.proofs.Common.{take, drop, refl, sym, ◌∙◌, subst, None, arith}
use Rattle.std.specs.Prelude.{nat_lt, ◌&&◌, flat_map}
use Rattle.std.proofs.Math.Seq.{drop-cons}
use Rattle.std.proofs.Math.ListN.{drop_of_length-le}
use Rattle.doc_rules.specs.Inlines.{Inline, as_text}
use Rattle.doc_rules.specs.Emphasis.{emphasis_of}
use Rattle.doc_inlines_emphasis.specs.OnePass.{passed, passed_once}
use Rattle.doc_inlines_emphasis.specs.Openers.{closer_kind, IsCloser, NearestIs, AreBounds, ReachTo}
use Rattle.doc_inlines_emphasis.specs.Marks.{Marks, Placed, stretch, seen, ArePlaced, ArePlain, IsPaired}
use Rattle.doc_inlines_emphasis.specs.NumberSteps.{no_run, numbered, run_numbered, stack_of, paired_runs, paired_openers, joined_openers}
use Rattle.doc_inlines_emphasis.proofs.OnePassLaws.{one_pass_suffices}
use Rattle.doc_inlines_emphasis.proofs.BoundLaws.{bounds_of_none, bounds_set, bounds_taken, bounds_pushed, bounds_changed, reach_set}
use Rattle.doc_inlines_emphasis.proofs.BoundLaws.{reach_further, ascend_taken, ascend_pushed, before_taken, before_pushed, open_taken}
use Rattle.doc_inlines_emphasis.proofs.BoundLaws.{open_pushed}
use Rattle.doc_inlines_emphasis.proofs.Stretches.{AllMiss}
use Rattle.doc_inlines_emphasis.specs.PassSteps.{Walks, ClosesAt, Stacked, WalksAt}
use Rattle.doc_inlines_emphasis.proofs.Walks.{walks_first, closes_first, walks_next, walks_last, none_closes}
use Rattle.doc_inlines_emphasis.proofs.InPlaceLaws.{pair_before}
use Rattle.doc_inlines_emphasis.proofs.Numbers.{none_on_stack, stack_split, stack_pushed, pair_alike}

-- ---- the first run

pub starts_at : (marks : Marks) (a b : ℕ) (runs : List Placed) (number : ℕ) → ArePlain marks → ArePlaced marks a b (drop number runs) →
    WalksAt marks a b runs [] number (passed [] (seen marks a b (drop number runs)))
starts_at marks a b runs number h g = walks_first marks a b (drop number runs) h g

pub stacked_first : (runs : List Placed) (bounds : List ℕ) (number : ℕ) → ReachTo number bounds → Stacked runs [] bounds number
stacked_first runs bounds number r = record {
  bounded = bounds_of_none bounds (run_numbered runs);
  ascend = λ i j l k. absurd (omega arith);
  before = λ place l. absurd (omega arith);
  reach = r;
  opening = λ place l. absurd (omega arith);
}

-- ---- a run comes

pub comes_at : (marks : Marks) (a b : ℕ) (runs : List Placed) (openers : List ℕ) (number : ℕ) (goal : List Inline)
    → WalksAt marks a b runs openers number goal → number < length runs →
    ClosesAt marks a b runs openers number goal
comes_at marks a b runs openers number goal w l =
    closes_first marks a b (stack_of runs openers) (numbered runs number) (drop (suc number) runs) goal
    (subst (λ t. Walks marks a b (stack_of runs openers) t goal) (drop-cons runs number no_run l) w)

-- ---- a pair

pub stacked_pair : (runs : List Placed) (openers bounds : List ℕ) (number place n : ℕ) → Stacked runs openers bounds number
    → number < length runs → place < length openers →
    Stacked (paired_runs runs (get_or openers place 0) number n) (paired_openers runs openers place n) bounds number
stacked_pair runs openers bounds number place n s size l = by (nat_lt n (run_numbered runs (get_or openers place 0)).left)
  where
    next : List Placed
    next = paired_runs runs (get_or openers place 0) number n

    ahead : get_or openers place 0 < number
    ahead = s.before place l

    bounded : AreBounds bounds (run_numbered next) openers
    bounded = bounds_changed bounds (run_numbered runs) (run_numbered next) openers
        (pair_alike runs (get_or openers place 0) number n ahead size) s.bounded

    upto : (k : ℕ) → Stacked next (take k openers) bounds number
    upto k = record {
      bounded = bounds_taken bounds (run_numbered next) openers k bounded;
      ascend = ascend_taken openers k s.ascend;
      before = before_taken openers number k s.before;
      reach = s.reach;
      opening = open_taken (run_numbered runs) (run_numbered next) openers k (pair_alike runs (get_or openers place 0) number n ahead size)
          s.opening;
    }

    by : (m : Bool) → Stacked next (elim m as (λ _. List ℕ) [ true ↦ take (suc place) openers | false ↦ take place openers ]) bounds number
    by true = upto (suc place)
    by false = upto place

-- ---- a search fails

pub stacked_failed : (runs : List Placed) (openers bounds : List ℕ) (number : ℕ) → Stacked runs openers bounds number
    → IsCloser (run_numbered runs number) →
    NearestIs (run_numbered runs) openers (run_numbered runs number) None → closer_kind (run_numbered runs number) < length bounds →
    Stacked runs openers (set bounds (closer_kind (run_numbered runs number)) number) number
stacked_failed runs openers bounds number s c h l = record {
  bounded = bounds_set bounds (run_numbered runs) openers (run_numbered runs number) number s.bounded c h;
  ascend = s.ascend;
  before = s.before;
  reach = reach_set bounds (closer_kind (run_numbered runs number)) number s.reach l;
  opening = s.opening;
}

-- ---- a run is passed: it has no delimiters left, or may not close, or has no opener

pub passed_at : (marks : Marks) (a b : ℕ) (runs : List Placed) (openers : List ℕ) (number : ℕ) (goal : List Inline)
    → ClosesAt marks a b runs openers number goal →
    ((run_numbered runs number).left ≡ 0) ⊎ AllMiss (run_numbered runs number) (stack_of runs openers)
    → WalksAt marks a b runs (joined_openers runs openers number) (suc number) goal
passed_at marks a b runs openers number goal h done =
    subst (λ t. Walks marks a b t (drop (suc number) runs) goal)
    (sym (by ((run_numbered runs number).opens && nat_lt 0 (run_numbered runs number).left)))
    (walks_next marks a b (stack_of runs openers) (numbered runs number) (drop (suc number) runs) goal h done)
  where
    by : (m : Bool) → stack_of runs (elim m as (λ _. List ℕ) [ true ↦ openers ++ (number ∷ []) | false ↦ openers ])
        ≡ elim m as (λ _. List Placed) [ true ↦ stack_of runs openers ++ (numbered runs number ∷ []) | false ↦ stack_of runs openers ]
    by true = stack_pushed runs openers number
    by false = refl

pub emptied_at : (marks : Marks) (a b : ℕ) (runs : List Placed) (openers : List ℕ) (number : ℕ) (goal : List Inline)
    → ClosesAt marks a b runs openers number goal →
    (run_numbered runs number).left ≡ 0 → WalksAt marks a b runs (joined_openers runs openers number) (suc number) goal
emptied_at marks a b runs openers number goal h e = passed_at marks a b runs openers number goal h (inl e)

pub failed_at : (marks : Marks) (a b : ℕ) (runs : List Placed) (openers : List ℕ) (number : ℕ) (goal : List Inline)
    → ClosesAt marks a b runs openers number goal →
    NearestIs (run_numbered runs) openers (run_numbered runs number) None
    → WalksAt marks a b runs (joined_openers runs openers number) (suc number) goal
failed_at marks a b runs openers number goal h e = passed_at marks a b runs openers number goal h
    (inr (none_on_stack runs openers (run_numbered runs number) e))

pub not_closing_at : (marks : Marks) (a b : ℕ) (runs : List Placed) (openers : List ℕ) (number : ℕ) (goal : List Inline)
    → ClosesAt marks a b runs openers number goal →
    (run_numbered runs number).closes ≡ false → WalksAt marks a b runs (joined_openers runs openers number) (suc number) goal
not_closing_at marks a b runs openers number goal h e = passed_at marks a b runs openers number goal h
    (inr (none_closes (run_numbered runs number) (stack_of runs openers) e))

first_true : (x y : Bool) → (x && y) ≡ true → x ≡ true
first_true true y e = refl
first_true false y e = absurd cc

pub stacked_next : (runs : List Placed) (openers bounds : List ℕ) (number : ℕ) → Stacked runs openers bounds number
    → Stacked runs (joined_openers runs openers number) bounds (suc number)
stacked_next runs openers bounds number s = by ((run_numbered runs number).opens && nat_lt 0 (run_numbered runs number).left) refl
  where
    by : (m : Bool) → ((run_numbered runs number).opens && nat_lt 0 (run_numbered runs number).left) ≡ m
        → Stacked runs (elim m as (λ _. List ℕ) [ true ↦ openers ++ (number ∷ []) | false ↦ openers ]) bounds (suc number)
    by true e = record {
      bounded = bounds_pushed bounds (run_numbered runs) openers number s.bounded s.reach;
      ascend = ascend_pushed openers number s.ascend s.before;
      before = before_pushed openers number s.before;
      reach = reach_further bounds number (suc number) s.reach (omega arith);
      opening = open_pushed (run_numbered runs) openers number s.opening
          (first_true (run_numbered runs number).opens (nat_lt 0 (run_numbered runs number).left) e);
    }
    by false e = record {
      bounded = s.bounded;
      ascend = s.ascend;
      before = λ place l. let k : get_or openers place 0 < number = s.before place l in omega arith;
      reach = reach_further bounds number (suc number) s.reach (omega arith);
      opening = s.opening;
    }

-- ---- the end

-- when the runs are gone through, the marks stand for the emphasis of what was seen at first
pub ends_at : (marks next : Marks) (a b : ℕ) (runs left : List Placed) (openers : List ℕ) (number : ℕ)
    → WalksAt next a b left openers number (passed [] (seen marks a b runs)) → length left ≤ number →
    flat_map as_text (stretch next a (b - a)) ≡ emphasis_of (seen marks a b runs)
unfolding passed_once
ends_at marks next a b runs left openers number w l =
    walks_last next a b (stack_of left openers) (passed [] (seen marks a b runs))
    (subst (λ t. Walks next a b (stack_of left openers) t (passed [] (seen marks a b runs))) (drop_of_length-le left l) w)
    ∙ one_pass_suffices (seen marks a b runs)

-- and a pair changes no mark before the first place
pub pair_keeps : (marks next : Marks) (a b : ℕ) (runs : List Placed) (openers : List ℕ) (number place n : ℕ) (goal : List Inline)
    → ClosesAt marks a b runs openers number goal → place < length openers →
    IsPaired marks next ((numbered runs (get_or openers place 0)).first + ((run_numbered runs (get_or openers place 0)).left - n))
    (numbered runs number).first (run_numbered runs number).char n →
    (i : ℕ) → i < a → get_or marks i [] ≡ get_or next i []
pair_keeps marks next a b runs openers number place n goal h l p i less =
    let c : Placed = numbered runs number in
    let placed : ArePlaced marks a c.first (stack_of runs (take place openers)
    ++ (numbered runs (get_or openers place 0) ∷ stack_of runs (drop (suc place) openers))) =
    subst (λ t. ArePlaced marks a c.first t) (stack_split runs openers place l) h.stands.before in
    pair_before marks next a c.first (stack_of runs (take place openers)) (numbered runs (get_or openers place 0))
    (stack_of runs (drop (suc place) openers)) c.run.char n placed p i less
