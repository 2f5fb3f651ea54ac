-- A definition's parts as slices of a text, seen as texts (CommonMark 0.31.2, section 4.7).
use Rattle.std.specs.Prelude.{Option, Some, None, chars}
use denote.Ref.{Bor}
use Rattle.doc_rules.specs.Characters.{Text}
use Rattle.doc_rules.specs.Definitions as rules
use Rattle.doc_refs_parts.specs.declared.scan.definition.DefinitionSource.{DefinitionSource}

-- the characters of a text that may be there
abbrev pub text_shown : Option (Bor Text) → Option Text
text_shown None = None
text_shown (Some text) = Some (chars text.now)

abbrev pub source_of : Option DefinitionSource → Option rules.DefinitionSource
source_of None = None
source_of (Some s) = Some (record {
  label = chars s.label.now;
  dest = chars s.dest.now;
  title = text_shown s.title;
  rest = chars s.rest.now;
})
