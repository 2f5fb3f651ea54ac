-- Which runs are read as delimiters.
use Rattle.std.specs.Prelude.{◌≡◌, ℕ, suc, List}
use Rattle.doc_rules.specs.Characters.{Text}
use Rattle.doc_rules.specs.Parsers.{run_length}
use Rattle.doc_rules.specs.Rules.{Rules}
use Rattle.doc_rules.specs.Definitions.{Definition}
use Rattle.doc_rules.specs.Inlines.{Inline}
use Rattle.doc_rules.specs.Reading.{delimiters, read_item}
use Rattle.doc_inlines_emphasis.specs.declared.delimiter.Delimiter.{Delimiter}
use Rattle.doc_inlines_emphasis.specs.RunSteps.{delimiter, length_by}

-- a run of this character begins before this text, as many as there may be
pub record BeginsRun (c : ℕ) (own : Delimiter) (rest : Text) : Type 0 where
  pub same : delimiter own ≡ c
  pub fits : length_by own (suc (run_length c rest)) ≡ suc (run_length c rest)

-- the rules read it as delimiters
abbrev pub IsRead : Rules → ℕ → Text → Type 0
IsRead rules c rest =
    (refs : List Definition) (last : ℕ) (made : List Inline) → read_item rules refs last made c rest ≡ delimiters last made c rest
