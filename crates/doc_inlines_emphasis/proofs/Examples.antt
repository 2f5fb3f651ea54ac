-- Worked examples.
use Rattle.std.proofs.Common.{◌≡◌, true, false, [], ◌∷◌, refl}
use Rattle.doc_rules.specs.Inlines.{Literal, Start, End, Delimiters, Emphasis}
use Rattle.doc_rules.specs.Emphasis.{matches, strength}
use Rattle.doc_inlines_emphasis.specs.Marks.{seen, stretch}
use Rattle.doc_inlines_emphasis.specs.InPlace.{paired}
use Rattle.doc_inlines_emphasis.specs.Openers.{closer_kind}
use Rattle.doc_inlines_emphasis.specs.declared.delimiter.Delimiter.TheVariants.{Star, Tilde, TwoTildes}
use Rattle.doc_inlines_emphasis.specs.declared.run.Run.{Run}
use Rattle.doc_inlines_emphasis.specs.RunSteps.{run_shown, placed_shown}

-- of `**a*`: the marks 0 and 1 are the first run's, the mark 2 is the letter, and the mark 3 the second run's
abbrev first_run : Run
first_run = record { first = 0; left = 2; length = 2; delimiter = Star; opens = true; closes = false }

abbrev second_run : Run
second_run = record { first = 3; left = 1; length = 1; delimiter = Star; opens = false; closes = true }

the_first_opens : matches (run_shown first_run) (run_shown second_run) ≡ true
unfolding matches
the_first_opens = refl

one_of_each : strength (run_shown first_run) (run_shown second_run) ≡ 1
one_of_each = refl

the_second_kind : closer_kind (run_shown second_run) ≡ 7
unfolding closer_kind
the_second_kind = refl

-- the pair takes the marks 1 and 3, and one delimiter is left as text
the_pair : paired ((Literal 42 ∷ []) ∷ (Literal 42 ∷ []) ∷ (Literal 97 ∷ []) ∷ (Literal 42 ∷ []) ∷ []) 1 3 42 1
    ≡ (Literal 42 ∷ []) ∷ (Start Emphasis ∷ []) ∷ (Literal 97 ∷ []) ∷ (End Emphasis ∷ []) ∷ []
unfolding paired
the_pair = refl

-- what is seen in the marks at first
the_runs : seen ((Literal 42 ∷ []) ∷ (Literal 42 ∷ []) ∷ (Literal 97 ∷ []) ∷ (Literal 42 ∷ []) ∷ []) 0 4
    (placed_shown first_run ∷ placed_shown second_run ∷ [])
    ≡ Delimiters (run_shown first_run) ∷ Literal 97 ∷ Delimiters (run_shown second_run) ∷ []
unfolding seen stretch
the_runs = refl

-- of `~a~~`: two lengths are no pair, and each has a kind of its own
abbrev one_tilde : Run
one_tilde = record { first = 0; left = 1; length = 1; delimiter = Tilde; opens = true; closes = false }

abbrev two_tildes : Run
two_tildes = record { first = 2; left = 2; length = 2; delimiter = TwoTildes; opens = false; closes = true }

lengths_differ : matches (run_shown one_tilde) (run_shown two_tildes) ≡ false
unfolding matches
lengths_differ = refl

the_last_kind : closer_kind (run_shown two_tildes) ≡ 13
unfolding closer_kind
the_last_kind = refl
