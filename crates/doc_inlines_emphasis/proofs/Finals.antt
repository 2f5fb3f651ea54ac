-- Marks that stand for no runs and no brackets, as those of the code do.
use Rattle.std.proofs.Common.{◌≡◌, ℕ, zero, suc, ◌-◌, ◌≤◌, List, [], ◌∷◌, ◌++◌, length, get_or, map, refl, ap, sym, ◌∙◌}
use Rattle.std.specs.Prelude.{flat_map}
use Rattle.doc_rules.specs.Inlines.{Inline, Delimiters, Open, as_text}
use Rattle.doc_rules.specs.Emphasis.{emphasis_of}
use Rattle.doc_inlines_emphasis.specs.OnePass.{passed}
use Rattle.doc_inlines_emphasis.specs.Marks.{Marks, Placed, stretch, seen, NoRun, IsFinal, ArePlain}
use Rattle.doc_inlines_emphasis.specs.PassSteps.{WalksAt}
use Rattle.doc_inlines_emphasis.proofs.NumberLoops.{ends_at}

-- each mark stands for inlines that are read
abbrev pub AreFinal : Marks → Type 0
AreFinal marks = (i : ℕ) → IsFinal (get_or marks i [])

-- where each value of a list stands for such
pub final_marks : {X : Type 0} (f : X → List Inline) → ((x : X) → IsFinal (f x)) → (xs : List X) → AreFinal (map f xs)
final_marks f h [] i = tt
final_marks f h (x ∷ xs) zero = h x
final_marks f h (x ∷ xs) (suc i) = final_marks f h xs i

final_no_run : (xs : List Inline) → IsFinal xs → NoRun xs
final_no_run [] h = tt
final_no_run (Delimiters r ∷ xs) h = absurd h
final_no_run (Open k ∷ xs) h = absurd h
final_no_run (x ∷ xs) h = final_no_run xs h

pub final_plain : (marks : Marks) → AreFinal marks → ArePlain marks
final_plain marks h i = final_no_run (get_or marks i []) (h i)

final_append : (xs ys : List Inline) → IsFinal xs → IsFinal ys → IsFinal (xs ++ ys)
final_append [] ys h g = g
final_append (Delimiters r ∷ xs) ys h g = absurd h
final_append (Open k ∷ xs) ys h g = absurd h
final_append (x ∷ xs) ys h g = final_append xs ys h g

pub final_stretch : (marks : Marks) (a n : ℕ) → AreFinal marks → IsFinal (stretch marks a n)
unfolding stretch
final_stretch marks a zero h = tt
final_stretch marks a (suc n) h = final_append (get_or marks a []) (stretch marks (suc a) n) (h a) (final_stretch marks (suc a) n h)

-- inlines that are read are as they stand
pub final_text : (xs : List Inline) → IsFinal xs → flat_map as_text xs ≡ xs
unfolding as_text
final_text [] h = refl
final_text (Delimiters r ∷ xs) h = absurd h
final_text (Open k ∷ xs) h = absurd h
final_text (x ∷ xs) h = ap (λ t. x ∷ t) (final_text xs h)

-- when the runs are gone through, such marks are the emphasis of what was seen at first
pub final_emphasis : (marks next : Marks) (a b : ℕ) (runs rest : List Placed) (openers : List ℕ) (number : ℕ) → AreFinal next →
    WalksAt next a b rest openers number (passed [] (seen marks a b runs)) → length rest ≤ number
    → stretch next a (b - a) ≡ emphasis_of (seen marks a b runs)
final_emphasis marks next a b runs rest openers number h w l =
    sym (final_text (stretch next a (b - a)) (final_stretch next a (b - a) h)) ∙ ends_at marks next a b runs rest openers number w l
