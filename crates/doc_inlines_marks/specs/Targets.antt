-- What a link names, as it stands and as it is read (CommonMark 0.31.2, section 6.3).
use Rattle.std.specs.Prelude.{◌++◌, chars, None}
use Rattle.doc_rules.specs.Characters.{Text}
use Rattle.doc_rules.specs.Destinations as rules
use Rattle.doc_rules.specs.Destinations.{target_of}
use Rattle.doc_refs_parts.specs.Sources.{text_shown}
use Rattle.doc_refs_parts.specs.Targets.{target_shown}
use Rattle.doc_inlines_marks.specs.declared.target_ref.TargetRef.{TargetRef}
use Rattle.doc_inlines_marks.specs.declared.target_ref.TargetRef.TheVariants.{Written, Defined, Address}
use Rattle.doc_inlines_marks.specs.declared.unescaped.Unescaped.{Unescaped}
use Rattle.doc_inlines_marks.specs.declared.unescaped.Unescaped.TheVariants.{AsItStands, Read}

unfoldable pub named : TargetRef → rules.Target
named (Written dest title entities) = target_of entities.now (chars dest.now) (text_shown title)
named (Defined target) = target_shown target.now
named (Address scheme address) = record { dest = chars scheme.now ++ chars address.now; title = None }

-- a text that is read, as characters
abbrev pub read_of : Unescaped → Text
read_of (AsItStands text) = chars text.now
read_of (Read text) = chars text
