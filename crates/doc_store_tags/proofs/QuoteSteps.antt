-- Tags as bytes.
use Rattle.std.proofs.Common.{◌≡◌, ◌<◌, ℕ, List, [], ◌∷◌, ◌++◌, true, refl, sym, ap, subst, ◌∙◌, arith, nat_lt, codes}
use Rattle.std.specs.List.{list_all}
use Rattle.std.specs.Str.{IsAscii}
use Rattle.std.proofs.lemmas.Bool.{and_parts}
use Rattle.std.proofs.lemmas.Bool.Decides.{nat_tests}
use Rattle.std.proofs.lemmas.Str.{IsAscii-append}
use Rattle.std.proofs.lemmas.Str.Ascii.{IsAscii-nil, IsAscii-cons}
use Rattle.hex.specs.Hex.{encode_lower, lower_digits}
use Rattle.hex.proofs.HexLemmas.{IsAscii-encode_with}
use Rattle.sha2.specs.Sha256.{sha256}
use Rattle.doc_store_readers.specs.Pages.{Page}
use Rattle.doc_store_tags.specs.Tags.{tagged, tag_of}

ascii_bytes : (bytes : List ℕ) → list_all (λ b. nat_lt b 128) bytes ≡ true → IsAscii bytes
ascii_bytes [] small = IsAscii-nil
ascii_bytes (b ∷ rest) small =
    let parts = and_parts (nat_lt b 128) (list_all (λ c. nat_lt c 128) rest) small in
    let first : b < 128 = grind (arith, nat_tests, parts.0) in
    IsAscii-cons b rest first (ascii_bytes rest parts.1)

-- hexadecimal digits between quotes are ASCII
pub ascii_tag : (tag digest : List ℕ) → tag ≡ codes "\"" ++ encode_lower digest ++ codes "\"" → IsAscii tag
ascii_tag tag digest is =
    subst IsAscii (sym is) (IsAscii-append (codes "\"") (encode_lower digest ++ codes "\"") (ascii_bytes (codes "\"") refl)
    (IsAscii-append (encode_lower digest) (codes "\"") (IsAscii-encode_with lower_digits digest (ascii_bytes lower_digits refl))
    (ascii_bytes (codes "\"") refl)))

-- those of a page's digest are its tag
pub tag_is : (tag digest : List ℕ) (page : Page) → tag ≡ codes "\"" ++ encode_lower digest ++ codes "\"" → digest ≡ sha256 (tagged page)
    → tag ≡ tag_of page
unfolding tag_of
tag_is tag digest page is hashed = is ∙ ap (λ d. codes "\"" ++ encode_lower d ++ codes "\"") hashed
