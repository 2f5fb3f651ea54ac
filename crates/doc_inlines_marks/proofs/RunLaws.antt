-- Where the first run of so many backticks stands: over a gap, over a run, and in what is behind.
use Rattle.std.proofs.Common.{◌≡◌, ℕ, zero, suc, ◌+◌, Bool, true, false, not, ◌&&◌, ◌==◌, [], ◌∷◌, ◌++◌, replicate, length, drop, refl, ap}
use Rattle.std.proofs.Common.{sym, ◌∙◌, Option, Some, None, option_map, arith, eqb-true, eq-eqb}
use borrow.Author.Tests.{eqb-false}
use Rattle.std.specs.List.{list_all}
use Rattle.doc_rules.specs.Characters.{Text}
use Rattle.doc_rules.specs.Parsers.{run_length}
use Rattle.doc_rules.specs.CodeSpans.{before_backticks}
use Rattle.doc_inlines_marks.specs.RunSteps.{IsPlain}
use Rattle.doc_page_parts.proofs.Bools.{and_first, and_second}
use Rattle.std.proofs.lemmas.Bool.{not-true}

-- ---- tests and answers

-- the character is a backtick
abbrev tick : ℕ → Bool
tick c = c == 96

pub turned : (c : ℕ) (b : Bool) → (96 == c) ≡ b → (c == 96) ≡ b
turned c true e = let same : 96 ≡ c = eqb-true 96 c e in ap tick (sym same)
turned c false e = at (c == 96) refl
  where
    at : (b : Bool) → (c == 96) ≡ b → (c == 96) ≡ false
    at true f = absurd (eqb-false 96 c e (sym (eqb-true c 96 f)))
    at false f = f

further : (m : ℕ) (found : Option ℕ) → option_map suc (option_map (λ k. m + k) found) ≡ option_map (λ k. suc m + k) found
further m None = refl
further m (Some k) = ap Some (omega arith)

pub none_further : (found : Option ℕ) → option_map (λ k. 0 + k) found ≡ found
none_further None = refl
none_further (Some k) = ap Some (omega arith)

pub added : (m n : ℕ) (found : Option ℕ) → option_map (λ k. m + k) (option_map (λ k. n + k) found) ≡ option_map (λ k. m + n + k) found
added m n None = refl
added m n (Some k) = ap Some (omega arith)

pub nowhere : (m : ℕ) (found : Option ℕ) → option_map (λ k. m + k) found ≡ None → found ≡ None
nowhere m None e = refl
nowhere m (Some k) e = absurd cc

-- ---- one character

chosen : ℕ → ℕ → Text → Bool → Option ℕ
unfolding before_backticks
chosen n c rest b = elim b [ true ↦ Some 0 | false ↦ option_map suc (before_backticks n c rest) ]

-- another character is gone over
over_other : (n last c : ℕ) (rest : Text) → (c == 96) ≡ false
    → before_backticks n last (c ∷ rest) ≡ option_map suc (before_backticks n c rest)
unfolding before_backticks chosen
over_other n last c rest e = ap (λ b. chosen n c rest (b && (not (last == 96) && (run_length 96 (c ∷ rest) == n)))) e

-- what stands before matters only where it is a backtick
last_is_other : (n last : ℕ) (rest : Text) → (last == 96) ≡ false → before_backticks n last rest ≡ before_backticks n 0 rest
unfolding before_backticks chosen
last_is_other n last [] e = refl
last_is_other n last (c ∷ rest) e = ap (λ b. chosen n c rest ((c == 96) && (not b && (run_length 96 (c ∷ rest) == n)))) e

counted : Text → Bool → ℕ
unfolding run_length
counted rest b = elim b [ true ↦ suc (run_length 96 rest) | false ↦ 0 ]

no_backtick_first : (c : ℕ) (rest : Text) → run_length 96 (c ∷ rest) ≡ 0 → (c == 96) ≡ false
unfolding run_length counted
no_backtick_first c rest e = at (96 == c) refl e
  where
    at : (b : Bool) → (96 == c) ≡ b → counted rest b ≡ 0 → (c == 96) ≡ false
    at true f g = absurd (omega arith)
    at false f g = turned c false f

-- nor does it matter where no backtick follows
pub no_run_ahead : (n last : ℕ) (rest : Text) → run_length 96 rest ≡ 0 → before_backticks n last rest ≡ before_backticks n 0 rest
unfolding before_backticks
no_run_ahead n last [] e = refl
no_run_ahead n last (c ∷ rest) e = let other : (c == 96) ≡ false = no_backtick_first c rest e in over_other n last c rest other
    ∙ sym (over_other n 0 c rest other)

-- ---- a gap, a run

pub over_gap : (n last : ℕ) (gap rest : Text) → IsPlain gap → (last == 96) ≡ false
    → before_backticks n last (gap ++ rest) ≡ option_map (λ k. length gap + k) (before_backticks n 0 rest)
over_gap n last [] rest h e = last_is_other n last rest e ∙ sym (none_further (before_backticks n 0 rest))
over_gap n last (c ∷ gap) rest h e =
    let other : (c == 96) ≡ false = not-true (c == 96) (and_first (not (c == 96)) (list_all (λ d. not (d == 96)) gap) h) in
    over_other n last c (gap ++ rest) other
    ∙ (ap (option_map suc) (over_gap n c gap rest (and_second (not (c == 96)) (list_all (λ d. not (d == 96)) gap) h) other)
    ∙ further (length gap) (before_backticks n 0 rest))

pub none_in_plain : (n last : ℕ) (text : Text) → IsPlain text → before_backticks n last text ≡ None
unfolding before_backticks
none_in_plain n last [] h = refl
none_in_plain n last (c ∷ rest) h =
    over_other n last c rest (not-true (c == 96) (and_first (not (c == 96)) (list_all (λ d. not (d == 96)) rest) h))
    ∙ ap (option_map suc) (none_in_plain n c rest (and_second (not (c == 96)) (list_all (λ d. not (d == 96)) rest) h))

-- the inside of a run is gone over
inside_run : (n m : ℕ) (rest : Text) → run_length 96 rest ≡ 0
    → before_backticks n 96 (replicate m 96 ++ rest) ≡ option_map (λ k. m + k) (before_backticks n 0 rest)
unfolding before_backticks
inside_run n zero rest h = no_run_ahead n 96 rest h ∙ sym (none_further (before_backticks n 0 rest))
inside_run n (suc m) rest h = ap (option_map suc) (inside_run n m rest h) ∙ further m (before_backticks n 0 rest)

-- a text is the run at its front, and the rest
pub run_split : (text : Text) → text ≡ replicate (run_length 96 text) 96 ++ drop (run_length 96 text) text
unfolding run_length counted
run_split [] = refl
run_split (c ∷ rest) = at (run_split rest) (96 == c) refl
  where
    at : rest ≡ replicate (run_length 96 rest) 96 ++ drop (run_length 96 rest) rest → (b : Bool) → (96 == c) ≡ b
        → (c ∷ rest) ≡ replicate (counted rest b) 96 ++ drop (counted rest b) (c ∷ rest)
    at again true e = ap (λ d. d ∷ rest) (sym (eqb-true 96 c e)) ∙ ap (λ more. 96 ∷ more) again
    at again false e = refl

pub run_ends : (text : Text) → run_length 96 (drop (run_length 96 text) text) ≡ 0
unfolding run_length counted
run_ends [] = refl
run_ends (c ∷ rest) = at (run_ends rest) (96 == c) refl
  where
    at : run_length 96 (drop (run_length 96 rest) rest) ≡ 0 → (b : Bool) → (96 == c) ≡ b
        → run_length 96 (drop (counted rest b) (c ∷ rest)) ≡ 0
    at again true e = again
    at again false e = ap (counted rest) e

pub length_of_run : (m : ℕ) (rest : Text) → run_length 96 rest ≡ 0 → run_length 96 (replicate m 96 ++ rest) ≡ m
unfolding run_length
length_of_run zero rest h = h
length_of_run (suc m) rest h = ap suc (length_of_run m rest h)

-- a run of the length that is sought
pub run_found : (n m : ℕ) (rest : Text) → run_length 96 rest ≡ 0 → n ≡ suc m → before_backticks n 0 (replicate (suc m) 96 ++ rest) ≡ Some 0
unfolding before_backticks chosen
run_found n m rest h e = ap (λ b. chosen n 96 (replicate m 96 ++ rest) b) (eq-eqb _ _ (length_of_run (suc m) rest h ∙ sym e))

-- a run of another length is gone over
pub over_run : (n m : ℕ) (rest : Text) → run_length 96 rest ≡ 0 → (suc m == n) ≡ false
    → before_backticks n 0 (replicate (suc m) 96 ++ rest) ≡ option_map (λ k. suc m + k) (before_backticks n 0 rest)
unfolding before_backticks chosen
over_run n m rest h e =
    ap (λ b. chosen n 96 (replicate m 96 ++ rest) b) (ap (λ k. k == n) (length_of_run (suc m) rest h) ∙ e)
    ∙ (ap (option_map suc) (inside_run n m rest h) ∙ further m (before_backticks n 0 rest))

-- ---- what is behind

-- where no such run stands in a text, none stands in its end, unless that begins inside a run
pub none_behind : (n last : ℕ) (front rest : Text) → before_backticks n last (front ++ rest) ≡ None → run_length 96 rest ≡ 0
    → before_backticks n 0 rest ≡ None
unfolding before_backticks chosen
none_behind n last [] rest e h = sym (no_run_ahead n last rest h) ∙ e
none_behind n last (c ∷ front) rest e h =
    at (λ f. none_behind n c front rest f h) ((c == 96) && (not (last == 96) && (run_length 96 (c ∷ (front ++ rest)) == n))) e
  where
    again : (before_backticks n c (front ++ rest) ≡ None → before_backticks n 0 rest ≡ None) → (found : Option ℕ)
        → before_backticks n c (front ++ rest) ≡ found → option_map suc found ≡ None → before_backticks n 0 rest ≡ None
    again go None f g = go f
    again go (Some k) f g = absurd cc

    at : (before_backticks n c (front ++ rest) ≡ None → before_backticks n 0 rest ≡ None) → (b : Bool)
        → chosen n c (front ++ rest) b ≡ None → before_backticks n 0 rest ≡ None
    at go true f = absurd cc
    at go false f = again go (before_backticks n c (front ++ rest)) refl f
