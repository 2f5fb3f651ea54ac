use Rattle.std.proofs.Common.{chars, length}
use denote.Text.{Utf8}
use denote.Shadow.{shadow}
use Rattle.doc_tables.proofs.TextLaws.{IsAt}
use Rattle.doc_tables.proofs.table.first_table.Given as goal

abbrev pub invariant-lines : goal.invariant-lines
invariant-lines l = record {
  before_is_text : shadow (Utf8 l.before);
  line_is_text : shadow (Utf8 l.line);
  come : IsAt (chars l.text) (chars l.before) (chars l.line);
}

abbrev pub decreases-lines : goal.decreases-lines
decreases-lines l = length (chars l.line)
