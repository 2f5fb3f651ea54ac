use Rattle.std.proofs.Common.{◌≡◌, chars, string_bytes, flat_map}
use Rattle.doc_rules.specs.Anchors.{anchor_char}
use Rattle.doc_html_anchors.proofs.names.kept.Given as goal

abbrev pub invariant-characters : goal.invariant-characters
invariant-characters l = chars (string_bytes l.out) ≡ flat_map anchor_char l.yielded
