-- Where plain text ends.
use Rattle.std.specs.Prelude.{◌≡◌, ◌==◌, ◌++◌, true, false}
use Rattle.std.specs.List.{list_all}
use Rattle.doc_rules.specs.Characters.{Text, last_or}
use Rattle.doc_rules.specs.Parsers.{before}
use Rattle.doc_rules.specs.Rests.{IsRest}
use Rattle.doc_rules.specs.Rules.{Rules}
use Rattle.doc_inlines.specs.ReadingSteps.{is_plain, Quiet}

-- plain characters stand before this end, and no space is the last of them
pub record IsPlainEnd (rules : Rules) (text end : Text) : Type 0 where
  pub behind : IsRest end text
  pub plain : list_all (is_plain rules) (before end text) ≡ true
  pub last : (last_or 0 (before end text) == 32) ≡ false

-- plain characters stand before this end, and no space among them is a line break's
pub record IsPlainStop (rules : Rules) (text end : Text) : Type 0 where
  pub behind : IsRest end text
  pub plain : list_all (is_plain rules) (before end text) ≡ true
  pub quiet : Quiet (before end text) end

-- a text is this one, and then more
pub record StandsInFront (front text : Text) : Type 0 where
  pub rest : Text
  pub split : text ≡ front ++ rest

-- no space is the last of what stands in front
pub record IsWithoutSpaces (text words : Text) : Type 0 where
  pub stands : StandsInFront words text
  pub last : (last_or 0 words == 32) ≡ false
