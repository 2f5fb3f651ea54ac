-- What is enclosed, as the code answers it.
use Rattle.std.specs.Prelude.{Option, Some, None, chars}
use denote.Ref.{Bor}
use Rattle.doc_rules.specs.Characters as rules
use Rattle.doc_inlines_marks.specs.Enclosed as definition
use Rattle.doc_inlines_marks.specs.Enclosed.{Enclosing}
use Rattle.doc_inlines_marks.specs.declared.enclosed.Enclosed.{Enclosed}
use Rattle.doc_inlines_marks.specs.declared.enclosed.Enclosed.TheVariants.{Uri, Mail, Raw}

-- the slice of the text
abbrev pub slice_of : Enclosed → rules.Text
slice_of (Uri slice) = chars slice.now
slice_of (Mail slice) = chars slice.now
slice_of (Raw slice) = chars slice.now

abbrev pub enclosing_of : Enclosed → Enclosing
enclosing_of (Uri slice) = definition.Uri (chars slice.now)
enclosing_of (Mail slice) = definition.Mail (chars slice.now)
enclosing_of (Raw slice) = definition.Raw (chars slice.now)

abbrev pub enclosed_found : Option (Enclosed × Bor rules.Text) → Option (Enclosing × rules.Text)
enclosed_found None = None
enclosed_found (Some found) = Some (enclosing_of found.0, chars found.1.now)
