-- How paths, anchors and destinations are percent-encoded (RFC 3986, section 2.1).
use Rattle.std.specs.Prelude.{ℕ, List, [], ◌∷◌, map, Bool, ◌||◌, ◌==◌, codes, if◌then◌else◌}
use Rattle.std.specs.List.{flat_map, list_any, join_with_byte}
use Rattle.std.specs.Char.{is_ascii_alphanumeric}
use Rattle.percent_encoding.specs.Percent.{percent_encode_byte}
use Rattle.doc_page_parts.specs.Paths.{segments}

-- a byte, percent-encoded where it isn't kept
abbrev pub encoded_byte : (ℕ → Bool) → ℕ → List ℕ
encoded_byte kept b = if kept b then b ∷ [] else percent_encode_byte b

-- an unreserved character (section 2.3)
abbrev pub is_unreserved : ℕ → Bool
is_unreserved b = is_ascii_alphanumeric b || list_any (λ c. c == b) (codes "-._~")

-- a byte that a destination is written with as it is (this project's choice)
abbrev pub is_kept : ℕ → Bool
is_kept b = is_ascii_alphanumeric b || list_any (λ c. c == b) (codes "-_.+!*'(),%#@?=;:/&$~")

-- a segment or an anchor: unreserved characters are kept
unfoldable pub encoded : List ℕ → List ℕ
encoded text = flat_map (encoded_byte is_unreserved) text

-- a path, each of its segments encoded so
unfoldable pub encoded_path : List ℕ → List ℕ
encoded_path path = join_with_byte 47 (map encoded (segments path))

-- a destination
unfoldable pub destination : List ℕ → List ℕ
destination dest = flat_map (encoded_byte is_kept) dest
