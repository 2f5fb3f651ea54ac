use Rattle.std.proofs.Common.{◌≡◌, ◌++◌, chars, length, string_bytes}
use denote.Text.{Utf8}
use denote.Shadow.{shadow}
use Rattle.doc_rules.specs.Tables.{unescape_pipes}
use Rattle.doc_tables.proofs.unescaping.unescaped.Given as goal

abbrev pub invariant-characters : goal.invariant-characters
invariant-characters l = record {
  is_text : shadow (Utf8 l.rest);
  same : chars (string_bytes l.out) ++ unescape_pipes (chars l.rest) ≡ unescape_pipes (chars l.fn.source);
}

abbrev pub decreases-characters : goal.decreases-characters
decreases-characters l = length (chars l.rest)
