-- Marks that grow at their end, as a text is read.
use Rattle.std.proofs.Common.{◌≡◌, ℕ, zero, suc, ◌+◌, ◌-◌, ◌≤◌, List, [], ◌∷◌, ◌++◌, length, get_or, drop, ap, ap₂, sym, ◌∙◌, subst, arith}
use Rattle.std.proofs.Common.{append-nil}
use Rattle.std.specs.Prelude.{flat_map}
use Rattle.std.proofs.Math.Seq.{drop-cons}
use Rattle.std.proofs.Math.ListN.{drop_of_length-le}
use Rattle.doc_rules.specs.Inlines.{Delimiters}
use Rattle.doc_inlines_emphasis.specs.Marks.{Marks, Placed, stretch, seen, AreDelimiters, ArePlaced}
use Rattle.doc_inlines_emphasis.proofs.Stretches.{Agree, placed_join, placed_same, placed_until, seen_split, seen_until, seen_same}

one_stretch : (marks : Marks) (a n : ℕ) → n ≡ 1 → stretch marks a n ≡ get_or marks a []
unfolding stretch
one_stretch marks a n e = ap (stretch marks a) e ∙ append-nil (get_or marks a [])

no_stretch : (marks : Marks) (a n : ℕ) → n ≡ 0 → stretch marks a n ≡ []
unfolding stretch
no_stretch marks a n e = ap (stretch marks a) e

-- one mark more is seen behind all
pub seen_mark : (marks next : Marks) (a b : ℕ) (runs : List Placed) → ArePlaced marks a b runs → Agree marks next a b
    → seen next a (suc b) runs ≡ seen marks a b runs ++ get_or next b []
seen_mark marks next a b runs h g =
    let one : suc b - b ≡ 1 = omega arith in
    seen_until next a b (suc b) runs (placed_same marks next a b runs h g) (omega arith)
    ∙ ap₂ (λ x y. x ++ y) (sym (seen_same marks next a b runs h g)) (one_stretch next b (suc b - b) one)

pub placed_mark : (marks next : Marks) (a b : ℕ) (runs : List Placed) → ArePlaced marks a b runs → Agree marks next a b
    → ArePlaced next a (suc b) runs
placed_mark marks next a b runs h g = placed_until next a b (suc b) runs (placed_same marks next a b runs h g) (omega arith)

-- a run more is seen behind all
pub seen_run : (marks next : Marks) (a b : ℕ) (runs : List Placed) (p : Placed) → ArePlaced marks a b runs → Agree marks next a b
    → p.first ≡ b →
    seen next a (p.first + p.run.left) (runs ++ (p ∷ [])) ≡ seen marks a b runs ++ (Delimiters p.run ∷ [])
unfolding seen
seen_run marks next a b runs p h g e =
    let k : ℕ = p.first + p.run.left in
    let none : (p.first + p.run.left) - (p.first + p.run.left) ≡ 0 = omega arith in
    seen_split next a k runs p []
    ∙ ap₂ (λ x y. x ++ (Delimiters p.run ∷ y)) (ap (λ j. seen next a j runs) e
    ∙ sym (seen_same marks next a b runs h g)) (no_stretch next k (k - k) none)

pub placed_run : (marks next : Marks) (a b : ℕ) (runs : List Placed) (p : Placed) → ArePlaced marks a b runs → Agree marks next a b
    → p.first ≡ b → 1 ≤ p.run.left → AreDelimiters next p →
    ArePlaced next a (p.first + p.run.left) (runs ++ (p ∷ []))
placed_run marks next a b runs p h g e l d =
    let front : ArePlaced next a p.first runs = subst (λ j. ArePlaced next a j runs) (sym e) (placed_same marks next a b runs h g) in
    placed_join next a (p.first + p.run.left) runs p [] front l d (omega arith)

-- nothing is seen where nothing stands yet
pub seen_none : (marks : Marks) (a : ℕ) → seen marks a a [] ≡ []
unfolding seen
seen_none marks a = no_stretch marks a (a - a) (omega arith)

-- ---- all marks from a place on

all_from : (marks : Marks) (n a : ℕ) → a + n ≡ length marks → stretch marks a n ≡ flat_map (λ mark. mark) (drop a marks)
unfolding stretch
all_from marks zero a e = ap (flat_map (λ mark. mark)) (sym (drop_of_length-le marks (omega arith)))
all_from marks (suc n) a e =
    ap (λ t. get_or marks a [] ++ t) (all_from marks n (suc a) (omega arith))
    ∙ ap (flat_map (λ mark. mark)) (sym (drop-cons marks a [] (omega arith)))

pub stretch_all : (marks : Marks) (a : ℕ) → a ≤ length marks → stretch marks a (length marks - a) ≡ flat_map (λ mark. mark) (drop a marks)
stretch_all marks a h = all_from marks (length marks - a) a (omega arith)
