use Rattle.std.proofs.Common.{◌≡◌, ◌++◌, chars, length, string_bytes}
use denote.Text.{Utf8}
use denote.Shadow.{shadow}
use Rattle.doc_rules.specs.Escapes.{unescape}
use Rattle.doc_rules.specs.Rests.{IsRest}
use Rattle.doc_lines.proofs.escapes.unescape.Given as goal

abbrev pub invariant-characters : goal.invariant-characters
invariant-characters l = shadow (Utf8 l.start) × shadow (Utf8 l.rest)
    × ((end : IsRest (chars l.rest) (chars l.start))
    × (chars (string_bytes l.out) ++ (end.front ++ unescape l.entities (chars l.rest)) ≡ unescape l.entities (chars l.text)))

abbrev pub decreases-characters : goal.decreases-characters
decreases-characters l = length (chars l.rest)
