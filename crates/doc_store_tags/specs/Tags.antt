-- The tags of pages. What a page's tag is made of is this project's choice, its form that of a strong entity tag (RFC 9110,
-- section 8.8.3).
use Rattle.std.specs.Prelude.{ℕ, List, ◌∷◌, ◌++◌, codes}
use Rattle.std.specs.List.{join_with_byte}
use Rattle.hex.specs.Hex.{encode_lower}
use Rattle.sha2.specs.Sha256.{sha256}
use Rattle.doc_store_readers.specs.Pages.{Page}

-- the names of the groups, with a comma between two
abbrev pub names_text : List (List ℕ) → List ℕ
names_text names = join_with_byte 44 names

-- the bytes that a page's tag is the digest of: the names of its groups, LF, and its text, from which both can be read off
unfoldable pub tagged : Page → List ℕ
tagged page = names_text page.groups ++ 10 ∷ page.text

-- a page's tag: the SHA-256 of these bytes (FIPS 180-4), in small hexadecimal digits, between quotes
unfoldable pub tag_of : Page → List ℕ
tag_of page = codes "\"" ++ encode_lower (sha256 (tagged page)) ++ codes "\""
