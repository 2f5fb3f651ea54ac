-- What a '<' encloses (CommonMark 0.31.2, sections 6.5 and 6.6), and what stands behind it.
use Rattle.std.specs.Prelude.{◌∷◌, Option, Some, None, option_and_then}
use Rattle.doc_rules.specs.Characters.{Text}
use Rattle.doc_rules.specs.Parsers.{is, ◌then◌, before}
use Rattle.doc_rules.specs.Tags.{raw_html}
use Rattle.doc_rules.specs.Autolinks.{uri, mail}
use Rattle.doc_rules.specs.Reading.{address}

-- an address without its '<' and '>', or raw HTML with them
pub data Enclosing : Type 0 where
  Uri Mail Raw : Text → Enclosing

-- a '<' with this text behind it
unfoldable pub enclosed_behind : Text → Option (Enclosing × Text)
enclosed_behind rest =
    elim ((uri then is 62) rest) [
      | Some after ↦ Some (Uri (address after rest), after)
      | None ↦ elim ((mail then is 62) rest) [
        | Some after ↦ Some (Mail (address after rest), after)
        | None ↦ elim (raw_html (60 ∷ rest)) [
          | Some after ↦ Some (Raw (before after (60 ∷ rest)), after)
          | None ↦ None
        ]
      ]
    ]

-- a text that begins with the '<'
unfoldable pub enclosed_at : Text → Option (Enclosing × Text)
enclosed_at text = option_and_then enclosed_behind (is 60 text)
