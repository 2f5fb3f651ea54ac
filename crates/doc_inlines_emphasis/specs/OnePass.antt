-- Emphasis in one pass over the inlines (CommonMark 0.31.2, section 6.2, as its appendix does it): each run is closed as often as it has
-- an opener before it, and then passed for good. What is passed stands nearest first.
use Rattle.std.specs.Prelude.{ℕ, zero, suc, ◌-◌, nat_lt, true, false, ◌||◌, List, [], ◌∷◌, ◌++◌, reverse, flat_map, Some, None}
use Rattle.std.specs.Prelude.{if◌then◌else◌}
use Rattle.doc_rules.specs.Inlines.{Span, Start, End, Run, Inline, Delimiters, Open, run_text, bracket_text, as_text, onto}
use Rattle.doc_rules.specs.Emphasis.{Opener, opener_of, strength, span_of, less}

-- what a run is once it is passed: it stays where it may open, else it is text
unfoldable pub kept : Run → List Inline
kept run = if run.opens then Delimiters run ∷ [] else run_text run

-- what stands before the delimiters that are left of a closer of this character, when a pair with this opener took n of each
abbrev pub behind_pair : Opener → ℕ → ℕ → List Inline
behind_pair opener char n =
    let span : Span = span_of char n in
    End span ∷ onto opener.between (Start span ∷ (less n opener.run ++ opener.before))

-- a run passed behind what stands before it, by n pairs at most
unfoldable pub closed : ℕ → Run → List Inline → List Inline
closed zero run before = kept run ++ before
closed (suc n) run before =
    elim (opener_of run [] before) [
      | None ↦ kept run ++ before
      | Some opener ↦ elim (nat_lt (strength opener.run run) run.left) [
        | true ↦ closed n (record run { left = run.left - strength opener.run run }) (behind_pair opener run.char (strength opener.run run))
        | false ↦ behind_pair opener run.char (strength opener.run run)
      ]
    ]

-- the inlines behind what is passed, passed too
unfoldable pub passed : List Inline → List Inline → List Inline
passed before [] = reverse before
passed before (Delimiters run ∷ after) = passed (closed (suc run.left) run before) after
passed before (inline ∷ after) = passed (inline ∷ before) after

-- the inlines with what one pass wraps wrapped; what is left of runs and brackets is text
unfoldable pub passed_once : List Inline → List Inline
passed_once inlines = flat_map as_text (passed [] inlines)

-- the inlines with their brackets as the text that they are
unfoldable pub plain_brackets : List Inline → List Inline
plain_brackets [] = []
plain_brackets (Open bracket ∷ more) = bracket_text bracket ++ plain_brackets more
plain_brackets (inline ∷ more) = inline ∷ plain_brackets more

-- the inlines with the runs that may neither open nor close as the text that they are
unfoldable pub without_idle_runs : List Inline → List Inline
without_idle_runs [] = []
without_idle_runs (Delimiters run ∷ more) = (if run.opens || run.closes then Delimiters run ∷ [] else run_text run)
    ++ without_idle_runs more
without_idle_runs (inline ∷ more) = inline ∷ without_idle_runs more
