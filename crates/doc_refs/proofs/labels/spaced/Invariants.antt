use Rattle.std.proofs.Common.{◌≡◌, ◌++◌, chars, string_bytes, length}
use denote.Text.{Utf8}
use denote.Shadow.{shadow}
use Rattle.doc_rules.specs.Characters.{strip, strip_end, is_space_tab_or_ending}
use Rattle.doc_rules.specs.Labels.{collapse}
use Rattle.doc_refs.proofs.labels.spaced.Given as goal

abbrev pub invariant-words : goal.invariant-words
invariant-words l = record {
  is_text : shadow (Utf8 l.rest);
  same : chars (string_bytes l.out) ++ collapse (strip_end is_space_tab_or_ending (chars l.rest))
      ≡ collapse (strip is_space_tab_or_ending (chars l.text));
}

abbrev pub decreases-words : goal.decreases-words
decreases-words l = length (chars l.rest)
