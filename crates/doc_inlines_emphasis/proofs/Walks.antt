-- The walk over the runs in place: an invariant for each run that comes next, one for the present run, and the end.
use Rattle.std.proofs.Common.{◌≡◌, ◌⊎◌, inl, inr, ℕ, ◌+◌, ◌-◌, ◌<◌, ◌≤◌, Bool, true, false, List, [], ◌∷◌, ◌++◌, reverse, refl, ap, sym}
use Rattle.std.proofs.Common.{◌∙◌, arith, append-nil}
use Rattle.std.specs.Prelude.{nat_lt, ◌&&◌, ◌||◌, ◌==◌, not, flat_map, if◌then◌else◌}
use Rattle.std.proofs.lemmas.Bool.{ltb-true, ltb-false}
use Rattle.doc_rules.specs.Inlines.{Inline, Literal, Delimiters, Run, run_text, as_text}
use Rattle.doc_rules.specs.Emphasis.{fits_in_length, matches, strength, emphasis_of}
use Rattle.doc_inlines_emphasis.specs.OnePass.{kept, passed, passed_once}
use Rattle.doc_inlines_emphasis.specs.Marks.{Marks, Placed, stretch, seen, ArePlaced, ArePlain, IsPaired, less_opener, less_closer, present}
use Rattle.doc_inlines_emphasis.specs.Marks.{joined}
use Rattle.doc_inlines_emphasis.proofs.Settled.{onto_joined}
use Rattle.doc_inlines_emphasis.proofs.Quiet.{onto_nothing, SameText, text_onto}
use Rattle.doc_inlines_emphasis.proofs.OnePassLaws.{one_pass_suffices}
use Rattle.doc_inlines_emphasis.proofs.Passing.{passed_none, passed_plain}
use Rattle.doc_inlines_emphasis.proofs.Stretches.{stretch_text, stretch_plain, placed_join, placed_until, seen_split, seen_until, seen_as_text}
use Rattle.doc_inlines_emphasis.proofs.Stretches.{AllMiss, found_none}
use Rattle.doc_inlines_emphasis.specs.PassSteps.{outcome, Stands, Walks, Closes, onto}
use Rattle.doc_inlines_emphasis.proofs.Pairs.{present_some, pair_outcome, pair_stands, back}

-- ---- the first run, and the next one

nothing_passed : (marks : Marks) (a n : ℕ) (xs : List Inline) → n ≡ 0 → passed (onto (stretch marks a n) []) xs ≡ passed [] xs
unfolding stretch onto
nothing_passed marks a n xs e = ap (λ k. passed (onto (stretch marks a k) []) xs) e

pub walks_first : (marks : Marks) (a b : ℕ) (runs : List Placed) → ArePlain marks → ArePlaced marks a b runs
    → Walks marks a b [] runs (passed [] (seen marks a b runs))
unfolding seen
walks_first marks a b runs h g = record {
  place = a;
  plain = h;
  before = omega arith;
  behind = g;
  makes = nothing_passed marks a (a - a) (seen marks a b runs) (omega arith);
}

next_makes : (marks : Marks) (a k b : ℕ) (stack : List Placed) (c : Placed) (rest : List Placed) → ArePlain marks
    → ArePlaced marks a k stack → k ≤ c.first → 1 ≤ c.run.left →
    outcome marks a b stack c rest ≡ passed (onto (seen marks a k stack) []) (seen marks k b (c ∷ rest))
unfolding seen
next_makes marks a k b stack c rest plain before l left =
    let tail : List Inline = Delimiters c.run ∷ seen marks (c.first + c.run.left) b rest in
    let s : List Inline = stretch marks k (c.first - k) in
    ap (λ t. passed (onto (seen marks a c.first stack) []) (t ++ seen marks (c.first + c.run.left) b rest)) (present_some c.run left)
    ∙ (ap (λ t. passed (onto t []) tail) (seen_until marks a k c.first stack before l)
    ∙ (ap (λ t. passed t tail) (onto_joined (seen marks a k stack) s [])
    ∙ sym (passed_plain s (onto (seen marks a k stack) []) tail (stretch_plain marks k (c.first - k) plain))))

-- a run comes
pub closes_first : (marks : Marks) (a b : ℕ) (stack : List Placed) (c : Placed) (rest : List Placed) (goal : List Inline)
    → Walks marks a b stack (c ∷ rest) goal → Closes marks a b stack c rest goal
closes_first marks a b stack c rest goal w = record {
  stands = record {
    plain = w.plain;
    before = placed_until marks a w.place c.first stack w.before w.behind.0;
    here = w.behind.2;
    behind = w.behind.3;
  };
  makes = next_makes marks a w.place b stack c rest w.plain w.before w.behind.0 w.behind.1 ∙ w.makes;
}

-- ---- a pair

pub closes_pair : (marks next : Marks) (a b : ℕ) (lower : List Placed) (o : Placed) (upper : List Placed) (c : Placed) (rest : List Placed)
    (goal : List Inline) →
    Closes marks a b (lower ++ (o ∷ upper)) c rest goal → 1 ≤ c.run.left → AllMiss c.run upper → matches o.run c.run ≡ true →
    IsPaired marks next (o.first + (o.run.left - strength o.run c.run)) c.first c.run.char (strength o.run c.run) →
    Closes next a b (lower ++ less_opener (strength o.run c.run) o) (less_closer (strength o.run c.run) c) rest goal
closes_pair marks next a b lower o upper c rest goal s l miss e p = record {
  stands = pair_stands marks next a b lower o upper c rest s.stands l p;
  makes = sym (pair_outcome marks next a b lower o upper c rest s.stands l miss e p) ∙ s.makes;
}

-- ---- a run is passed

closing_and : (a o d y : Bool) → d ≡ false → ((a && (o && d)) && y) ≡ false
closing_and true true d y e = ap (λ z. z && y) e
closing_and true false d y e = refl
closing_and false o d y e = refl

-- a run that may not close matches no opener
pub no_closing : (k c : Run) → c.closes ≡ false → matches k c ≡ false
unfolding matches
no_closing k c e =
    closing_and (k.char == c.char) k.opens c.closes (fits_in_length k c) e

pub none_closes : (c : Run) (stack : List Placed) → c.closes ≡ false → AllMiss c stack
none_closes c [] e = tt
none_closes c (p ∷ more) e = (no_closing p.run c e, none_closes c more e)

no_present : (r : Run) → r.left ≡ 0 → present r ≡ []
no_present r h = at (nat_lt 0 r.left) refl
  where
    part : Bool → List Inline
    part m = elim m [ true ↦ Delimiters r ∷ [] | false ↦ [] ]

    at : (m : Bool) → nat_lt 0 r.left ≡ m → part m ≡ []
    at false e = refl
    at true e = let f : 0 < r.left = ltb-true 0 r.left e in absurd (omega arith)

nothing_behind : (marks : Marks) (a n : ℕ) → n ≡ 0 → stretch marks a n ≡ []
unfolding stretch
nothing_behind marks a n e = ap (stretch marks a) e

-- the runs before the next one, once the present one is passed
abbrev Passed : Marks → ℕ → ℕ → List Placed → Placed → List Placed → List Placed → Type 0
Passed marks a b stack c rest after =
    ArePlaced marks a (c.first + c.run.left) after
    × (outcome marks a b stack c rest ≡ passed (onto (seen marks a (c.first + c.run.left) after) [])
    (seen marks (c.first + c.run.left) b rest))

passed_empty : (marks : Marks) (a b : ℕ) (stack : List Placed) (c : Placed) (rest : List Placed) → Stands marks a b stack c rest
    → c.run.left ≡ 0 → Passed marks a b stack c rest stack
passed_empty marks a b stack c rest s e =
    let f : c.first ≡ c.first + c.run.left = omega arith in (
      placed_until marks a c.first (c.first + c.run.left) stack s.before (omega arith),
      ap (λ t. passed (onto (seen marks a c.first stack) []) (t ++ seen marks (c.first + c.run.left) b rest)) (no_present c.run e)
          ∙ ap (λ k. passed (onto (seen marks a k stack) []) (seen marks (c.first + c.run.left) b rest)) f,
    )

passed_kept : (marks : Marks) (a b : ℕ) (stack : List Placed) (c : Placed) (rest : List Placed) → Stands marks a b stack c rest
    → 1 ≤ c.run.left → AllMiss c.run stack →
    outcome marks a b stack c rest ≡ passed (kept c.run ++ onto (seen marks a c.first stack) []) (seen marks (c.first + c.run.left) b rest)
passed_kept marks a b stack c rest s l miss =
    ap (λ t. passed (onto (seen marks a c.first stack) []) (t ++ seen marks (c.first + c.run.left) b rest)) (present_some c.run l)
    ∙ passed_none (onto (seen marks a c.first stack) []) c.run (seen marks (c.first + c.run.left) b rest)
    (found_none marks a c.first stack c.run s.plain miss)

kept_opens : (r : Run) → r.opens ≡ true → kept r ≡ Delimiters r ∷ []
unfolding kept
kept_opens r e = ap (λ o. if o then Delimiters r ∷ [] else run_text r) e

pub kept_text : (r : Run) → r.opens ≡ false → kept r ≡ run_text r
unfolding kept
kept_text r e = ap (λ o. if o then Delimiters r ∷ [] else run_text r) e

-- the run's text, put before others, is itself
pub text_first : (r : Run) (b : List Inline) → onto (run_text r) b ≡ run_text r ++ b
unfolding run_text
text_first r b = text_onto r.left (Literal r.char) b

passed_opens : (marks : Marks) (a b : ℕ) (stack : List Placed) (c : Placed) (rest : List Placed) → Stands marks a b stack c rest
    → 1 ≤ c.run.left → AllMiss c.run stack → c.run.opens ≡ true →
    Passed marks a b stack c rest (stack ++ (c ∷ []))
unfolding onto seen
passed_opens marks a b stack c rest s l miss e =
    let k : ℕ = c.first + c.run.left in
    let before : List Inline = seen marks a c.first stack in
    let none : (c.first + c.run.left) - (c.first + c.run.left) ≡ 0 = omega arith in
    let shown : seen marks a k (stack ++ (c ∷ [])) ≡ before ++ (Delimiters c.run ∷ []) =
    seen_split marks a k stack c [] ∙ ap (λ t. before ++ (Delimiters c.run ∷ t)) (nothing_behind marks k (k - k) none) in (
      placed_join marks a k stack c [] s.before l s.here (omega arith),
      passed_kept marks a b stack c rest s l miss
          ∙ (ap (λ t. passed (t ++ onto before []) (seen marks k b rest)) (kept_opens c.run e)
          ∙ ap (λ t. passed t (seen marks k b rest)) (sym (ap (λ t. onto t []) shown ∙ onto_joined before (Delimiters c.run ∷ []) []))),
    )

passed_text : (marks : Marks) (a b : ℕ) (stack : List Placed) (c : Placed) (rest : List Placed) → Stands marks a b stack c rest
    → 1 ≤ c.run.left → AllMiss c.run stack → c.run.opens ≡ false →
    Passed marks a b stack c rest stack
passed_text marks a b stack c rest s l miss e =
    let k : ℕ = c.first + c.run.left in
    let before : List Inline = seen marks a c.first stack in
    let size : (c.first + c.run.left) - c.first ≡ c.run.left = omega arith in
    let shown : seen marks a k stack ≡ before ++ run_text c.run =
    seen_until marks a c.first k stack s.before (omega arith)
    ∙ ap (λ t. before ++ t) (ap (stretch marks c.first) size ∙ stretch_text marks c s.here) in (
      placed_until marks a c.first k stack s.before (omega arith),
      passed_kept marks a b stack c rest s l miss
          ∙ (ap (λ t. passed (t ++ onto before []) (seen marks k b rest)) (kept_text c.run e)
          ∙ ap (λ t. passed t (seen marks k b rest)) (sym (ap (λ t. onto t []) shown
          ∙ (onto_joined before (run_text c.run) [] ∙ text_first c.run (onto before []))))),
    )

-- the present run has no delimiters left, or no opener
passed_by : (marks : Marks) (a b : ℕ) (stack : List Placed) (c : Placed) (rest : List Placed) → Stands marks a b stack c rest
    → (c.run.left ≡ 0) ⊎ AllMiss c.run stack →
    (x y : Bool) → c.run.opens ≡ x → nat_lt 0 c.run.left ≡ y
    → Passed marks a b stack c rest (elim (x && y) as (λ _. List Placed) [ true ↦ stack ++ (c ∷ []) | false ↦ stack ])
passed_by marks a b stack c rest s (inl z) true true e f = let g : 0 < c.run.left = ltb-true 0 c.run.left f in absurd (omega arith)
passed_by marks a b stack c rest s (inr m) true true e f = let g : 0
    < c.run.left = ltb-true 0 c.run.left f in passed_opens marks a b stack c rest s (omega arith) m e
passed_by marks a b stack c rest s (inl z) true false e f = passed_empty marks a b stack c rest s z
passed_by marks a b stack c rest s (inr m) true false e f = let g : c.run.left
    ≤ 0 = ltb-false 0 c.run.left f in passed_empty marks a b stack c rest s (omega arith)
passed_by marks a b stack c rest s (inl z) false y e f = passed_empty marks a b stack c rest s z
passed_by marks a b stack c rest s (inr m) false true e f = let g : 0
    < c.run.left = ltb-true 0 c.run.left f in passed_text marks a b stack c rest s (omega arith) m e
passed_by marks a b stack c rest s (inr m) false false e f = let g : c.run.left
    ≤ 0 = ltb-false 0 c.run.left f in passed_empty marks a b stack c rest s (omega arith)

pub walks_next : (marks : Marks) (a b : ℕ) (stack : List Placed) (c : Placed) (rest : List Placed) (goal : List Inline)
    → Closes marks a b stack c rest goal → (c.run.left ≡ 0) ⊎ AllMiss c.run stack →
    Walks marks a b (joined stack c) rest goal
walks_next marks a b stack c rest goal s h =
    let p : Passed marks a b stack c rest (joined stack c) = passed_by marks a b stack c rest s.stands h c.run.opens (nat_lt 0 c.run.left)
    refl refl in
    record { place = c.first + c.run.left; plain = s.stands.plain; before = p.0; behind = s.stands.behind; makes = sym p.1 ∙ s.makes }

-- ---- the end

last_passed : (marks : Marks) (a k b : ℕ) (stack : List Placed) → ArePlain marks → ArePlaced marks a k stack → k ≤ b
    → passed (onto (seen marks a k stack) []) (seen marks k b []) ≡ seen marks a b stack
unfolding seen passed
last_passed marks a k b stack plain before l =
    let s : List Inline = stretch marks k (b - k) in
    let all : List Inline = seen marks a k stack ++ s in
    ap (passed (onto (seen marks a k stack) [])) (sym (append-nil s))
    ∙ (passed_plain s (onto (seen marks a k stack) []) [] (stretch_plain marks k (b - k) plain)
    ∙ (ap reverse (sym (onto_joined (seen marks a k stack) s []))
    ∙ (sym (onto_nothing (onto all [])) ∙ (back all ∙ sym (seen_until marks a k b stack before l)))))

-- when no run is left, the marks stand for what the pass makes
pub walks_last : (marks : Marks) (a b : ℕ) (stack : List Placed) (goal : List Inline) → Walks marks a b stack [] goal
    → SameText (stretch marks a (b - a)) goal
walks_last marks a b stack goal w =
    let all : ArePlaced marks a b stack = placed_until marks a w.place b stack w.before w.behind in
    sym (seen_as_text marks a b stack w.plain all) ∙ ap (flat_map as_text)
    (sym (last_passed marks a w.place b stack w.plain w.before w.behind) ∙ w.makes)

-- and so for the emphasis of what was seen at first
pub walked_emphasis : (marks next : Marks) (a b : ℕ) (runs stack : List Placed)
    → Walks next a b stack [] (passed [] (seen marks a b runs)) →
    flat_map as_text (stretch next a (b - a)) ≡ emphasis_of (seen marks a b runs)
unfolding passed_once
walked_emphasis marks next a b runs stack w = walks_last next a b stack (passed [] (seen marks a b runs)) w
    ∙ one_pass_suffices (seen marks a b runs)
