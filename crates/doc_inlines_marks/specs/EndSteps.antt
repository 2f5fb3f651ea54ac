-- Ends that are sought, and raw HTML that is read, with what is known of the text.
use Rattle.std.specs.Prelude.{◌≡◌, ℕ, Option, Some}
use Rattle.doc_rules.specs.Characters.{Text}
use Rattle.doc_rules.specs.Parsers.{Parser, through}
use Rattle.doc_rules.specs.Rests.{IsRest}
use Rattle.doc_inlines_marks.specs.declared.ends.MissingEnds.{MissingEnds}
use Rattle.doc_inlines_marks.specs.ToldSteps.{IsMissing, TellsOfEnds}

-- an end is sought in this text: what is known before and behind, and the text behind the end
pub record Seeks (end : Parser) (old new : ℕ) (text : Text) (found : Option Text) : Type 0 where
  pub value : (whole : Text) → IsMissing old end whole → IsRest text whole → found ≡ through end text
  pub told : (whole : Text) → IsMissing old end whole → IsRest text whole → IsMissing new end whole
  pub rest : (behind : Text) → found ≡ Some behind → IsRest behind text

-- this is read at the front of the text: what is known before and behind, and the text behind it
pub record Reads (read : Parser) (old new : MissingEnds) (text : Text) (found : Option Text) : Type 0 where
  pub value : (whole : Text) → TellsOfEnds old whole → IsRest text whole → found ≡ read text
  pub told : (whole : Text) → TellsOfEnds old whole → IsRest text whole → TellsOfEnds new whole
  pub rest : (behind : Text) → found ≡ Some behind → IsRest behind text
