-- Texts as HTML in UTF-8, by their characters (CommonMark 0.31.2).
use Rattle.std.specs.Prelude.{◌≡◌, ℕ, List, chars, codes, encode_utf8_all, string_bytes, Option}
use Rattle.std.specs.Io.KnownBytes.{Appends, Keeps}
use Rattle.doc_rules.specs.Rules.{built_in_rules}
use Rattle.doc_rules.specs.Html.{rendered_plain}
use Rattle.doc_server_streams.specs.Streams.{AppendsPrefix}
use Rattle.doc_server_streams.specs.Inputs.{OfText}
use Rattle.doc_server_streams.specs.declared.fault.Fault.{Fault}
use Rattle.doc_server_streams.specs.declared.fault.Fault.TheVariants as faults

-- the HTML of a text, with the built-in character references
unfoldable pub rendered : List ℕ → List ℕ
rendered text = encode_utf8_all (rendered_plain built_in_rules (chars text))

-- The output grows by the HTML of the input.
abbrev pub Renders : Option (List ℕ) → Option (List ℕ) → Option (List ℕ) → Type 0
Renders input old new = OfText input (λ text. Appends old new (rendered text))

-- What stops the command `render`, and what the output holds then. Standard input can't be read, or isn't UTF-8, or memory runs out:
-- nothing is written. The output can't be written: it grows by a prefix of the HTML.
abbrev pub StopsRendering : Option (List ℕ) → Option (List ℕ) → Option (List ℕ) → Fault → Type 0
StopsRendering input old new (faults.CannotRead called) = (string_bytes called ≡ codes "-") × Keeps old new
StopsRendering input old new faults.CannotWrite = OfText input (λ text. AppendsPrefix old new (rendered text))
StopsRendering input old new faults.Memory = Keeps old new
StopsRendering input old new fault = ⊥
