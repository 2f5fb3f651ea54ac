use Rattle.std.proofs.Common.{◌≡◌, ◌++◌, ℕ, List, map, chars, string_bytes, length}
use denote.Text.{Utf8}
use denote.Shadow.{shadow}
use Rattle.doc_rules.specs.Lines.{secure_char}
use Rattle.doc_blocks.proofs.content.secure_text.Given as goal

abbrev pub invariant-characters : goal.invariant-characters
invariant-characters l =
    shadow (Utf8 l.rest) × ((before : List ℕ) × ((chars l.text ≡ before ++ chars l.rest)
    × (chars (string_bytes l.secure) ≡ map secure_char before)))

abbrev pub decreases-characters : goal.decreases-characters
decreases-characters l = length (chars l.rest)
