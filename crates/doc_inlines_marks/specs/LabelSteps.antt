-- Runs of characters that are too long for a label (CommonMark 0.31.2, section 6.3).
use Rattle.std.specs.Prelude.{◌≡◌, ◌<◌, ◌+◌, length, Some}
use Rattle.doc_rules.specs.Characters.{Text}
use Rattle.doc_rules.specs.Labels.{label_text}

-- more than 999 characters stand at the front of the text of which brackets only escaped
abbrev pub IsTooLong : Text → Type 0
IsTooLong text = (999 < length text) × ((rest : Text) → Some rest ≡ label_text text → length rest + 999 < length text)
