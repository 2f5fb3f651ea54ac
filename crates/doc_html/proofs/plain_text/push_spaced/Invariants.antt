use Rattle.std.proofs.Common.{◌≡◌, ◌++◌, chars, encode_utf8_all, string_bytes, length}
use denote.Text.{Utf8}
use denote.Shadow.{shadow}
use Rattle.doc_rules.specs.CodeSpans.{spaced}
use Rattle.doc_html.proofs.plain_text.push_spaced.Given as goal

abbrev pub invariant-lines : goal.invariant-lines
invariant-lines l = record {
  is_text : shadow (Utf8 l.rest);
  same : string_bytes l.out ++ encode_utf8_all (spaced (chars l.rest)) ≡ string_bytes l.fn.out ++ encode_utf8_all (spaced (chars l.text));
}

abbrev pub decreases-lines : goal.decreases-lines
decreases-lines l = length (spaced (chars l.rest))
