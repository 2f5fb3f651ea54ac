-- Laws of encoded texts; the proofs are in proofs/.
use Rattle.std.specs.Prelude.{◌≡◌, ℕ, List, map, ◌==◌, codes, if◌then◌else◌}
use Rattle.std.specs.List.{flat_map}
use Rattle.doc_page_parts.specs.Escaping.{escaped}
use Rattle.doc_page_parts.specs.Paths.{segments}
use Rattle.doc_page_encoding.specs.Encoding.{encoded_byte, is_kept, encoded, encoded_path, destination}

-- a byte of a destination in HTML (the HTML of CommonMark 0.31.2, section 6.3)
abbrev pub destination_byte : ℕ → List ℕ
destination_byte b = if b == 38 then codes "&amp;" else encoded_byte is_kept b

-- an encoded destination, escaped, is written byte by byte
abbrev pub DestinationsByBytes : Type 0
DestinationsByBytes = (dest : List ℕ) → escaped (destination dest) ≡ flat_map destination_byte dest

-- the segments of an encoded path are the path's, encoded
abbrev pub PathsBySegments : Type 0
PathsBySegments = (path : List ℕ) → segments (encoded_path path) ≡ map encoded (segments path)
