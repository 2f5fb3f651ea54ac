-- Runs by their numbers: the stack of openers as runs, the bounds, and a pair as the code writes it.
use Rattle.std.proofs.Common.{◌≡◌, ◌≢◌, ◌⊎◌, inl, inr, ℕ, suc, ◌+◌, ◌-◌, ◌<◌, ◌≤◌, Bool, true, false, List, [], ◌∷◌, ◌++◌, length, get_or}
use Rattle.std.proofs.Common.{set, take, drop, refl, ap, ap₂, sym, ◌∙◌, subst, Some, None, arith, get_or-set_other, get_or-set_same}
use Rattle.std.proofs.Common.{length-set, min, append-nil}
use Rattle.std.specs.Prelude.{nat_lt, ◌==◌}
use Rattle.std.proofs.Math.Seq.{take-suc, drop-cons}
use Rattle.std.proofs.lemmas.List.{take-append-drop, get_or-drop, get_or-take, drop-set-lt, map-append, length-drop, length-take}
use Rattle.std.proofs.lemmas.Bool.Decides.{eqb_tells}
use Rattle.doc_rules.specs.Inlines.{Inline, Run}
use Rattle.doc_rules.specs.Emphasis.{matches, strength}
use Rattle.doc_inlines_emphasis.specs.Openers.{NearestIs, Ascend, StandBefore, OpenAlike}
use Rattle.doc_inlines_emphasis.specs.Marks.{Marks, Placed, IsPaired, less_opener, less_closer}
use Rattle.doc_inlines_emphasis.specs.NumberSteps.{no_run, numbered, run_numbered, stack_of, taken_opener, paired_runs, paired_openers}
use Rattle.doc_inlines_emphasis.proofs.Stretches.{AllMiss}
use Rattle.doc_inlines_emphasis.specs.PassSteps.{Closes, ClosesAt}
use Rattle.doc_inlines_emphasis.proofs.Walks.{closes_pair}

-- ---- stacks

all_miss : (runs : List Placed) (c : Run) (xs : List ℕ) → ((place : ℕ) → place < length xs
    → matches (run_numbered runs (get_or xs place 0)) c ≡ false) → AllMiss c (stack_of runs xs)
all_miss runs c [] h = tt
all_miss runs c (x ∷ xs) h =
    let first : 0 < length (x ∷ xs) = omega arith in
    (h 0 first, all_miss runs c xs (λ place l. let more : suc place < length (x ∷ xs) = omega arith in h (suc place) more))

-- where no opener is found none of the stack opens
pub none_on_stack : (runs : List Placed) (openers : List ℕ) (c : Run) → NearestIs (run_numbered runs) openers c None
    → AllMiss c (stack_of runs openers)
none_on_stack runs openers c h = all_miss runs c openers (λ place l. h place (omega arith) l)

-- where one is found none above it does
pub above_misses : (runs : List Placed) (openers : List ℕ) (c : Run) (n : ℕ) → NearestIs (run_numbered runs) openers c (Some n)
    → AllMiss c (stack_of runs (drop (suc n) openers))
above_misses runs openers c n h = all_miss runs c (drop (suc n) openers) (λ place l. one place l)
  where
    one : (place : ℕ) → place < length (drop (suc n) openers)
        → matches (run_numbered runs (get_or (drop (suc n) openers) place 0)) c ≡ false
    one place l =
        let size : length (drop (suc n) openers) ≡ length openers - suc n = length-drop (suc n) openers in
        ap (λ k. matches (run_numbered runs k) c) (get_or-drop (suc n) openers place 0) ∙ h.2 (suc n + place) (omega arith) (omega arith)

-- the stack below, at and above a place
pub stack_split : (runs : List Placed) (openers : List ℕ) (n : ℕ) → n < length openers →
    stack_of runs openers ≡ stack_of runs (take n openers) ++ (numbered runs (get_or openers n 0) ∷ stack_of runs (drop (suc n) openers))
stack_split runs openers n l =
    ap (stack_of runs) (sym (take-append-drop n openers))
    ∙ (map-append (numbered runs) (take n openers) (drop n openers)
    ∙ ap (λ t. stack_of runs (take n openers) ++ stack_of runs t) (drop-cons openers n 0 l))

-- the stack up to a place
stack_up_to : (runs : List Placed) (openers : List ℕ) (n : ℕ) → n < length openers
    → stack_of runs (take (suc n) openers) ≡ stack_of runs (take n openers) ++ (numbered runs (get_or openers n 0) ∷ [])
stack_up_to runs openers n l = ap (stack_of runs) (take-suc openers n 0 l)
    ∙ map-append (numbered runs) (take n openers) (get_or openers n 0 ∷ [])

-- a run joins the stack
pub stack_pushed : (runs : List Placed) (openers : List ℕ) (number : ℕ)
    → stack_of runs (openers ++ (number ∷ [])) ≡ stack_of runs openers ++ (numbered runs number ∷ [])
stack_pushed runs openers number = map-append (numbered runs) openers (number ∷ [])

same_stack : (runs next : List Placed) (xs : List ℕ) → ((place : ℕ) → place < length xs
    → numbered next (get_or xs place 0) ≡ numbered runs (get_or xs place 0)) → stack_of next xs ≡ stack_of runs xs
same_stack runs next [] h = refl
same_stack runs next (x ∷ xs) h =
    let first : 0 < length (x ∷ xs) = omega arith in
    ap₂ (λ p ps. p ∷ ps) (h 0 first) (same_stack runs next xs (λ place l. let more : suc place
    < length (x ∷ xs) = omega arith in h (suc place) more))

-- ---- what a pair writes

other_run : (runs : List Placed) (o c n k : ℕ) → k ≢ o → k ≢ c → numbered (paired_runs runs o c n) k ≡ numbered runs k
other_run runs o c n k h g =
    get_or-set_other (set runs o (taken_opener n (numbered runs o))) c k (less_closer n (numbered runs c)) no_run g
    ∙ get_or-set_other runs o k (taken_opener n (numbered runs o)) no_run h

opener_run : (runs : List Placed) (o c n : ℕ) → o < c → c < length runs
    → numbered (paired_runs runs o c n) o ≡ taken_opener n (numbered runs o)
opener_run runs o c n h g =
    let apart : o ≢ c = omega arith in
    get_or-set_other (set runs o (taken_opener n (numbered runs o))) c o (less_closer n (numbered runs c)) no_run apart
    ∙ get_or-set_same runs o (taken_opener n (numbered runs o)) no_run (omega arith)

closer_run : (runs : List Placed) (o c n : ℕ) → c < length runs → numbered (paired_runs runs o c n) c ≡ less_closer n (numbered runs c)
closer_run runs o c n g =
    let size : length (set runs o (taken_opener n (numbered runs o)))
    ≡ length runs = length-set runs o (taken_opener n (numbered runs o)) in
    get_or-set_same (set runs o (taken_opener n (numbered runs o))) c (less_closer n (numbered runs c)) no_run (omega arith)

rest_runs : (runs : List Placed) (o c n : ℕ) → o < c → drop (suc c) (paired_runs runs o c n) ≡ drop (suc c) runs
rest_runs runs o c n h =
    drop-set-lt (suc c) (set runs o (taken_opener n (numbered runs o))) c (less_closer n (numbered runs c)) (omega arith)
    ∙ drop-set-lt (suc c) runs o (taken_opener n (numbered runs o)) (omega arith)

below_same : (runs : List Placed) (openers : List ℕ) (place c n : ℕ) → place < length openers → Ascend openers → StandBefore c openers →
    stack_of (paired_runs runs (get_or openers place 0) c n) (take place openers) ≡ stack_of runs (take place openers)
below_same runs openers place c n l a s = same_stack runs (paired_runs runs (get_or openers place 0) c n) (take place openers)
    (λ k h. one k h)
  where
    one : (k : ℕ) → k < length (take place openers)
        → numbered (paired_runs runs (get_or openers place 0) c n) (get_or (take place openers) k 0)
        ≡ numbered runs (get_or (take place openers) k 0)
    one k h =
        let size : length (take place openers) ≡ min place (length openers) = length-take place openers in
        let same : get_or (take place openers) k 0 ≡ get_or openers k 0 = get_or-take place openers k 0 (omega arith) in
        let under : get_or openers k 0 < get_or openers place 0 = a k place (omega arith) l in
        let ahead : get_or openers k 0 < c = s k (omega arith) in
        other_run runs (get_or openers place 0) c n (get_or (take place openers) k 0) (omega arith) (omega arith)

stack_by : (runs : List Placed) (openers : List ℕ) (place c n : ℕ) → place < length openers → c < length runs → Ascend openers
    → StandBefore c openers → (m : Bool) →
    stack_of (paired_runs runs (get_or openers place 0) c n)
    (elim m as (λ _. List ℕ) [ true ↦ take (suc place) openers | false ↦ take place openers ])
    ≡ stack_of runs (take place openers) ++ (elim m as (λ _. List Placed)
    [ true ↦ taken_opener n (numbered runs (get_or openers place 0)) ∷ [] | false ↦ [] ])
stack_by runs openers place c n l size a s true =
    let o : ℕ = get_or openers place 0 in
    let ahead : get_or openers place 0 < c = s place l in
    stack_up_to (paired_runs runs o c n) openers place l
    ∙ ap₂ (λ x y. x ++ (y ∷ [])) (below_same runs openers place c n l a s) (opener_run runs o c n ahead size)
stack_by runs openers place c n l size a s false =
    below_same runs openers place c n l a s ∙ sym (append-nil (stack_of runs (take place openers)))

-- ---- the present run by its number

-- a pair as the code writes it: the marks, the two runs, and the openers
pub pair_at : (marks next : Marks) (a b : ℕ) (runs : List Placed) (openers : List ℕ) (number place n : ℕ) (goal : List Inline)
    → ClosesAt marks a b runs openers number goal →
    number < length runs → Ascend openers → StandBefore number openers
    → NearestIs (run_numbered runs) openers (run_numbered runs number) (Some place) → 1 ≤ (run_numbered runs number).left →
    n ≡ strength (run_numbered runs (get_or openers place 0)) (run_numbered runs number) →
    IsPaired marks next ((numbered runs (get_or openers place 0)).first + ((run_numbered runs (get_or openers place 0)).left - n))
    (numbered runs number).first (run_numbered runs number).char n →
    ClosesAt next a b (paired_runs runs (get_or openers place 0) number n) (paired_openers runs openers place n) number goal
pair_at marks next a b runs openers number place n goal h size a_openers s near l is p =
    let o : ℕ = get_or openers place 0 in
    let strong : ℕ = strength (run_numbered runs o) (run_numbered runs number) in
    let rest : List Placed = drop (suc number) runs in
    let ahead : get_or openers place 0 < number = s place near.0 in
    let split : Closes marks a b (stack_of runs (take place openers) ++ (numbered runs o ∷ stack_of runs (drop (suc place) openers)))
    (numbered runs number) rest goal =
    subst (λ t. Closes marks a b t (numbered runs number) rest goal) (stack_split runs openers place near.0) h in
    let pair : IsPaired marks next ((numbered runs o).first + ((run_numbered runs o).left - strong)) (numbered runs number).first
    (run_numbered runs number).char strong =
    subst (λ k. IsPaired marks next ((numbered runs o).first + ((run_numbered runs o).left - k)) (numbered runs number).first
    (run_numbered runs number).char k) is p in
    let made : Closes next a b (stack_of runs (take place openers) ++ less_opener strong (numbered runs o))
    (less_closer strong (numbered runs number)) rest goal =
    closes_pair marks next a b (stack_of runs (take place openers)) (numbered runs o) (stack_of runs (drop (suc place) openers))
    (numbered runs number) rest goal split l (above_misses runs openers (run_numbered runs number) place near) near.1 pair in
    let again : Closes next a b (stack_of runs (take place openers) ++ less_opener n (numbered runs o))
    (less_closer n (numbered runs number)) rest goal =
    subst (λ k. Closes next a b (stack_of runs (take place openers) ++ less_opener k (numbered runs o))
    (less_closer k (numbered runs number)) rest goal) (sym is) made in
    let stack : stack_of (paired_runs runs o number n) (paired_openers runs openers place n) ≡ stack_of runs (take place openers)
    ++ less_opener n (numbered runs o) =
    stack_by runs openers place number n near.0 size a_openers s (nat_lt n (run_numbered runs o).left) in
    let by_stack : Closes next a b (stack_of (paired_runs runs o number n) (paired_openers runs openers place n))
    (less_closer n (numbered runs number)) rest goal =
    subst (λ t. Closes next a b t (less_closer n (numbered runs number)) rest goal) (sym stack) again in
    let by_closer : Closes next a b (stack_of (paired_runs runs o number n) (paired_openers runs openers place n))
    (numbered (paired_runs runs o number n) number) rest goal =
    subst (λ t. Closes next a b (stack_of (paired_runs runs o number n) (paired_openers runs openers place n)) t rest goal)
    (sym (closer_run runs o number n size)) by_stack in
    subst (λ t. Closes next a b (stack_of (paired_runs runs o number n) (paired_openers runs openers place n))
    (numbered (paired_runs runs o number n) number) t goal) (sym (rest_runs runs o number n ahead)) by_closer

-- the runs open as before
pub pair_alike : (runs : List Placed) (o c n : ℕ) → o < c → c < length runs → (k : ℕ)
    → OpenAlike (run_numbered (paired_runs runs o c n) k) (run_numbered runs k)
pair_alike runs o c n h g k = by (eqb_tells k o) (eqb_tells k c)
  where
    alike : (p q : Placed) → p ≡ q → OpenAlike p.run q.run
    alike p q e = (
      ap (λ (x : Placed). x.run.char) e,
      ap (λ (x : Placed). x.run.length) e,
      ap (λ (x : Placed). x.run.opens) e,
      ap
          (λ (x : Placed). x.run.closes) e,
    )

    at : (j : ℕ) → k ≡ j → OpenAlike (run_numbered (paired_runs runs o c n) j) (run_numbered runs j)
        → OpenAlike (run_numbered (paired_runs runs o c n) k) (run_numbered runs k)
    at j e f = subst (λ i. OpenAlike (run_numbered (paired_runs runs o c n) i) (run_numbered runs i)) (sym e) f

    by : (((k == o) ≡ true) × (k ≡ o)) ⊎ (((k == o) ≡ false) × (k ≢ o)) → (((k == c) ≡ true) × (k ≡ c)) ⊎ (((k == c) ≡ false) × (k ≢ c)) →
        OpenAlike (run_numbered (paired_runs runs o c n) k) (run_numbered runs k)
    by (inl p) q = at o p.1 (alike (numbered (paired_runs runs o c n) o) (taken_opener n (numbered runs o)) (opener_run runs o c n h g))
    by (inr p) (inl q) = at c q.1 (alike (numbered (paired_runs runs o c n) c) (less_closer n (numbered runs c)) (closer_run runs o c n g))
    by (inr p) (inr q) = alike (numbered (paired_runs runs o c n) k) (numbered runs k) (other_run runs o c n k p.1 q.1)
