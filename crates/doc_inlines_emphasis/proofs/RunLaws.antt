-- The tests of the code on runs are those of the rules.
use Rattle.std.proofs.Common.{◌≡◌, ℕ, ◌+◌, ◌<◌, Bool, true, false, refl, ap, ap₂, sym, ◌∙◌, arith}
use Rattle.std.specs.Prelude.{◌%◌, ◌&&◌, ◌||◌, ◌==◌, not, if◌then◌else◌}
use Rattle.std.proofs.Math.Bool.{or-true, or-false}
use Rattle.std.proofs.Math.Nat.{mod-lt}
use Rattle.doc_rules.specs.Emphasis.{matches}
use Rattle.doc_inlines_emphasis.specs.Openers.{closer_kind}
use Rattle.doc_inlines_emphasis.proofs.BoundLaws.{kind_below}
use Rattle.doc_inlines_emphasis.specs.declared.delimiter.Delimiter.{Delimiter}
use Rattle.doc_inlines_emphasis.specs.declared.delimiter.Delimiter.TheVariants.{Star, Underscore, Tilde, TwoTildes}
use Rattle.doc_inlines_emphasis.specs.declared.run.Run.{Run}
use Rattle.doc_inlines_emphasis.specs.RunSteps.{delimiter, first_kind, length_by, run_shown}

-- ---- kinds

abbrev kind_by : Delimiter → ℕ → Bool → ℕ
kind_by own length opens =
    if delimiter own == 126 then if length_by own length == 2 then 13 else 12
    else (if delimiter own == 42 then 6 else 0) + ((if opens then 3 else 0) + length_by own length % 3)

strike_first : (own : Delimiter) (length : ℕ) (opens : Bool) → (delimiter own == 126) ≡ true → first_kind own ≡ kind_by own length opens
strike_first Star length opens e = absurd cc
strike_first Underscore length opens e = absurd cc
strike_first Tilde length opens e = refl
strike_first TwoTildes length opens e = refl

pub strike_kind_is : (run : Run) → (delimiter run.delimiter == 126) ≡ true → first_kind run.delimiter ≡ closer_kind (run_shown run)
unfolding closer_kind
strike_kind_is run e = strike_first run.delimiter run.length run.opens e

other_first : (own : Delimiter) (length : ℕ) (opens : Bool) → (delimiter own == 126) ≡ false
    → first_kind own + ((if opens then 3 else 0) + length % 3) ≡ kind_by own length opens
other_first Star length opens e = refl
other_first Underscore length opens e = refl
other_first Tilde length opens e = absurd cc
other_first TwoTildes length opens e = absurd cc

pub kind_is : (run : Run) → (delimiter run.delimiter == 126) ≡ false
    → first_kind run.delimiter + ((if run.opens then 3 else 0) + run.length % 3) ≡ closer_kind (run_shown run)
unfolding closer_kind
kind_is run e = other_first run.delimiter run.length run.opens e

pub kind_is_below : (run : Run) (kind : ℕ) → kind ≡ closer_kind (run_shown run) → kind < 14
kind_is_below run kind e =
    let h : closer_kind (run_shown run) < 14 = kind_below (run_shown run) in
    omega arith

pub first_is_small : (own : Delimiter) → first_kind own < 14
first_is_small Star = omega arith
first_is_small Underscore = omega arith
first_is_small Tilde = omega arith
first_is_small TwoTildes = omega arith

-- ---- matches

thirds : (a b : ℕ) → (a % 3 + b % 3) % 3 ≡ (a + b) % 3
thirds a b = omega arith

abbrev by_thirds : ℕ → ℕ → Bool → Bool
by_thirds a b either = not (either && ((a % 3 + b % 3) % 3 == 0)) || ((a % 3 == 0) && (b % 3 == 0))

abbrev thirds_by : ℕ → ℕ → Bool → Bool
thirds_by a b either = not (either && ((a + b) % 3 == 0)) || ((a % 3 == 0) && (b % 3 == 0))

same_thirds : (a b : ℕ) (either : Bool) → by_thirds a b either ≡ thirds_by a b either
same_thirds a b either = ap (λ n. not (either && (n == 0)) || ((a % 3 == 0) && (b % 3 == 0))) (thirds a b)

-- what the code asks, and what the rules ask
abbrev asked : Delimiter → Delimiter → ℕ → ℕ → Bool → Bool → Bool
asked o c a b both either =
    ((first_kind o == first_kind c) && both) && (by_thirds a b either || (delimiter c == 126))

abbrev ruled : Delimiter → Delimiter → ℕ → ℕ → Bool → Bool → Bool
ruled o c a b both either =
    ((delimiter o == delimiter c) && both)
    && (if delimiter c == 126 then length_by o a == length_by c b else thirds_by (length_by o a) (length_by c b) either)

and_false : (both : Bool) → both && false ≡ false
and_false true = refl
and_false false = refl

alike : (a b : ℕ) (both either : Bool) → both && (by_thirds a b either || false) ≡ both && thirds_by a b either
alike a b both either = ap (λ x. both && x) (or-false (by_thirds a b either) ∙ same_thirds a b either)

struck : (a b : ℕ) (both either : Bool) → both && (by_thirds a b either || true) ≡ both && true
struck a b both either = ap (λ x. both && x) (or-true (by_thirds a b either))

matches_by : (o c : Delimiter) (a b : ℕ) (both either : Bool) → asked o c a b both either ≡ ruled o c a b both either
matches_by Star Star a b both either = alike a b both either
matches_by Star Underscore a b both either = refl
matches_by Star Tilde a b both either = refl
matches_by Star TwoTildes a b both either = refl
matches_by Underscore Star a b both either = refl
matches_by Underscore Underscore a b both either = alike a b both either
matches_by Underscore Tilde a b both either = refl
matches_by Underscore TwoTildes a b both either = refl
matches_by Tilde Star a b both either = refl
matches_by Tilde Underscore a b both either = refl
matches_by Tilde Tilde a b both either = struck a b both either
matches_by Tilde TwoTildes a b both either = sym (and_false both)
matches_by TwoTildes Star a b both either = refl
matches_by TwoTildes Underscore a b both either = refl
matches_by TwoTildes Tilde a b both either = sym (and_false both)
matches_by TwoTildes TwoTildes a b both either = struck a b both either

matches_is : (o c : Run) →
    asked o.delimiter c.delimiter o.length c.length (o.opens && c.closes) ((o.opens && o.closes) || (c.opens && c.closes))
    ≡ matches (run_shown o) (run_shown c)
unfolding matches
matches_is o c =
    matches_by o.delimiter c.delimiter o.length c.length (o.opens && c.closes) ((o.opens && o.closes) || (c.opens && c.closes))

pub matches_told : (o c : Run) (first other : ℕ) (tilde : Bool) → first ≡ first_kind o.delimiter → other ≡ first_kind c.delimiter
    → tilde ≡ (delimiter c.delimiter == 126) →
    ((first == other) && (o.opens && c.closes))
    && (by_thirds o.length c.length ((o.opens && o.closes) || (c.opens && c.closes)) || tilde)
    ≡ matches (run_shown o) (run_shown c)
matches_told o c first other tilde e f g =
    ap (λ t. ((first == other) && (o.opens && c.closes))
    && (by_thirds o.length c.length ((o.opens && o.closes) || (c.opens && c.closes)) || t)) g
    ∙ (ap₂ (λ x y. ((x == y) && (o.opens && c.closes))
    && (by_thirds o.length c.length ((o.opens && o.closes) || (c.opens && c.closes)) || (delimiter c.delimiter == 126))) e f
    ∙ matches_is o c)
