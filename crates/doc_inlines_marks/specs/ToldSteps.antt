-- What the searches that failed learned of a text.
use Rattle.std.specs.Prelude.{◌≡◌, ℕ, ◌<◌, length, None, get_or, codes}
use Rattle.std.specs.Str.{encode_utf8_all}
use Rattle.doc_rules.specs.Characters.{Text}
use Rattle.doc_rules.specs.Parsers.{Parser, is, word, through, run_length}
use Rattle.doc_rules.specs.CodeSpans.{before_backticks}
use Rattle.doc_rules.specs.Rests.{IsRest}
use Rattle.doc_inlines_marks.specs.declared.backticks.Backticks.{Backticks}
use Rattle.doc_inlines_marks.specs.declared.ends.MissingEnds.{MissingEnds}

-- how many bytes a text has
abbrev pub size : Text → ℕ
size text = length (encode_utf8_all text)

-- ---- backticks

-- so few bytes are left that no run of this length stands there
abbrev pub Lacks : Backticks → ℕ → ℕ → Type 0
Lacks learned n left = (left < learned.learned) × (left < get_or learned.places.items n learned.learned)

-- what is learned is so of this text
abbrev pub TellsOfRuns : Backticks → Text → Type 0
TellsOfRuns learned whole = (n : ℕ) (rest : Text) → IsRest rest whole → run_length 96 rest ≡ 0 → Lacks learned n (size rest)
    → before_backticks n 0 rest ≡ None

-- ---- ends of raw HTML

-- where fewer bytes are left than these, this end stands nowhere
abbrev pub IsMissing : ℕ → Parser → Text → Type 0
IsMissing left end whole = (rest : Text) → IsRest rest whole → size rest < left → through end rest ≡ None

-- of each end this is so
pub record TellsOfEnds (missing : MissingEnds) (whole : Text) : Type 0 where
  pub comment : IsMissing missing.comment (word (codes "-->")) whole
  pub instruction : IsMissing missing.instruction (word (codes "?>")) whole
  pub declaration : IsMissing missing.declaration (is 62) whole
  pub cdata : IsMissing missing.cdata (word (codes "]]>")) whole
