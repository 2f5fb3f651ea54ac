-- Runs of backticks, as the code finds them.
use Rattle.std.specs.Prelude.{◌≡◌, ℕ, ◌<◌, ◌==◌, true, not, List, [], ◌++◌, replicate, length, get_or, Option, Some, None, chars}
use Rattle.std.specs.List.{list_all}
use denote.Ref.{Bor}
use Rattle.doc_rules.specs.Characters.{Text}
use Rattle.doc_rules.specs.Parsers.{run_length}
use Rattle.doc_rules.specs.CodeSpans.{before_backticks, code_text}
use Rattle.doc_rules.specs.Rests.{IsRest}
use Rattle.doc_inlines_marks.specs.ToldSteps.{size}

-- no backtick stands in this text
abbrev pub IsPlain : Text → Type 0
IsPlain text = list_all (λ c. not (c == 96)) text ≡ true

-- this is what stands from the first backtick of the text on
pub record IsToRun (rest text : Text) : Type 0 where
  pub gap : Text
  pub split : text ≡ gap ++ rest
  pub plain : IsPlain gap
  pub stops : run_length 96 rest ≡ 0 → rest ≡ []

-- this text stands in front of the first run of exactly n backticks, and that one behind it
pub record IsSpan (n : ℕ) (content behind text : Text) : Type 0 where
  pub place : before_backticks n 0 text ≡ Some (length content)
  pub split : text ≡ content ++ (replicate n 96 ++ behind)

abbrev pub IsSpanEnd : ℕ → Text → Option (Bor Text × Bor Text) → Type 0
IsSpanEnd n text None = before_backticks n 0 text ≡ None
IsSpanEnd n text (Some found) = IsSpan n (chars found.0.now) (chars found.1.now) text

-- where fewer bytes are left than where the last run of this length begins, no such run stands
abbrev pub IsLearned : List ℕ → Text → Type 0
IsLearned places text = (n : ℕ) (rest : Text) → IsRest rest text → run_length 96 rest ≡ 0 → size rest < get_or places n (size text)
    → before_backticks n 0 rest ≡ None

-- the text of a code span, and where it stands in what is between the runs
pub record IsCodeText (slice text : Text) : Type 0 where
  pub value : slice ≡ code_text text
  pub front : Text
  pub back : Text
  pub split : text ≡ front ++ (slice ++ back)
