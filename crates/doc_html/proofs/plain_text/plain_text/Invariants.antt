use Rattle.std.proofs.Common.{◌≡◌, encode_utf8_all, string_bytes, take}
use Rattle.doc_rules.specs.PlainTexts.{plain_text}
use Rattle.doc_inlines_marks.specs.Views.{inlines_shown}
use Rattle.doc_html.proofs.plain_text.plain_text.Given as goal

abbrev pub invariant-loop-mark : goal.invariant-loop-mark
invariant-loop-mark l = string_bytes l.out ≡ encode_utf8_all (plain_text (inlines_shown (take l.mark-index l.marks)))
