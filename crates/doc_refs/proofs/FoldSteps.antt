-- Case folding of texts in ASCII.
use Rattle.std.proofs.Common.{◌≡◌, ℕ, List, map, IsAscii, chars, ap, sym, ◌∙◌, arith}
use Rattle.std.specs.Char.{to_ascii_lowercase}
use Rattle.std.proofs.lemmas.Str.{chars-IsAscii}
use Rattle.std.proofs.lemmas.Str.Ascii.{IsAscii-map}
use Rattle.std.proofs.lemmas.Bool.Decides.{nat_tests}
use Rattle.caseless.specs.Caseless.{default_case_fold}
use Rattle.caseless.proofs.CaselessLemmas.{default_case_fold-ascii, All-chars}

lower_is_ascii : (text : List ℕ) → IsAscii text → IsAscii (map to_ascii_lowercase text)
lower_is_ascii text ascii = IsAscii-map to_ascii_lowercase text (λ b low. grind (arith, nat_tests)) ascii

pub folded_ascii : (text lower : List ℕ) → IsAscii text → lower ≡ map to_ascii_lowercase text → chars lower ≡ default_case_fold (chars text)
folded_ascii text lower ascii e =
    ap chars e ∙ chars-IsAscii (map to_ascii_lowercase text) (lower_is_ascii text ascii)
    ∙ ap (map to_ascii_lowercase) (sym (chars-IsAscii text ascii)) ∙ sym (default_case_fold-ascii (chars text) (All-chars text ascii))
