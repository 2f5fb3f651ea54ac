-- A text of one character alone.
use Rattle.std.proofs.Common.{◌≡◌, ℕ, ◌<◌, Bool, ◌&&◌, ◌==◌, List, length, chars, ap, sym, ◌∙◌}
use Rattle.std.specs.List.{list_all}
use Rattle.std.specs.Str.{IsUtf8}
use Rattle.doc_rules.specs.LeafStarts.{is_all_of}
use Rattle.doc_lines.proofs.Ends.{has_chars}

-- this character once or more
pub is_all : (c : ℕ) (text : List ℕ) (b : Bool) → IsUtf8 text → 0 < length text → b ≡ list_all (λ d. d == c) (chars text)
    → b ≡ is_all_of c (chars text)
unfolding is_all_of
is_all c text b u h e = e ∙ sym (ap (λ some. some && list_all (λ d. d == c) (chars text)) (has_chars text u h))
