-- The places of runs, as they are kept.
use Rattle.std.specs.Prelude.{◌≡◌}
use Rattle.doc_rules.specs.Characters.{Text}
use Rattle.doc_inlines_marks.specs.declared.backticks.Backticks.{Backticks}
use Rattle.doc_inlines_marks.specs.ToldSteps.{size}
use Rattle.doc_inlines_marks.specs.RunSteps.{IsLearned}

-- the runs of this text are learned
pub record HasLearned (learned : Backticks) (text : Text) : Type 0 where
  pub all : learned.learned ≡ size text
  pub places : IsLearned learned.places.items text
