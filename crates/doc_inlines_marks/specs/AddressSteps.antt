-- An address in front of a '>', as the code answers it.
use Rattle.std.specs.Prelude.{◌≡◌, Option, Some, None, chars}
use denote.Ref.{Bor}
use Rattle.doc_rules.specs.Characters.{Text}
use Rattle.doc_rules.specs.Parsers.{Parser, is, ◌then◌}
use Rattle.doc_rules.specs.Reading.{address}
use Rattle.doc_rules.specs.Rests.{IsRest}
use Rattle.doc_inlines_marks.specs.PlaceSteps.{StandsBefore}

-- the address, and the text behind its '>'
pub record IsAddressOf (read : Parser) (inside slice after : Text) : Type 0 where
  pub value : Some after ≡ (read then is 62) inside
  pub same : slice ≡ address after inside
  pub stands : StandsBefore slice after inside
  pub end : IsRest after inside

abbrev pub IsAddress : Parser → Text → Option (Bor Text × Bor Text) → Type 0
IsAddress read inside None = None ≡ (read then is 62) inside
IsAddress read inside (Some found) = IsAddressOf read inside (chars found.0.now) (chars found.1.now)
