-- Tails of links as slices of a text, seen as texts (CommonMark 0.31.2, section 6.3).
use Rattle.std.specs.Prelude.{Option, Some, None, chars}
use denote.Ref.{Bor}
use Rattle.doc_rules.specs.Characters.{Text}
use Rattle.doc_rules.specs.Rules.{Rules}
use Rattle.doc_rules.specs.Destinations.{target_of}
use Rattle.doc_rules.specs.Links.{Tail}
use Rattle.doc_refs_parts.specs.Sources.{text_shown}
use Rattle.doc_inlines_marks.specs.Targets.{named}
use Rattle.doc_inlines_marks.specs.declared.target_ref.TargetRef.{TargetRef}
use Rattle.doc_inlines_marks.specs.declared.inline_tail.TailSource.{TailSource}

-- a target with the text behind the tail
abbrev pub tail_shown : Option (TargetRef × Bor Text) → Tail
tail_shown None = None
tail_shown (Some tail) = Some (named tail.0, chars tail.1.now)

-- the tail that the parts of an inline tail are
abbrev pub source_tail : Rules → Option TailSource → Tail
source_tail rules None = None
source_tail rules (Some source) = Some (target_of rules (chars source.dest.now) (text_shown source.title), chars source.rest.now)
