-- What the bytes behind a head come to.
use Rattle.std.specs.Prelude.{ℕ, ⊤, Bool, nat_lt, nat_le, List, length, take, if◌then◌else◌}
use Rattle.doc_http_bodies.specs.declared.extent.Extent.{Extent}
use Rattle.doc_http_bodies.specs.declared.extent.Extent.TheVariants as extent
use Rattle.doc_http_bodies.specs.declared.fault.Fault.TheVariants as faults
use Rattle.doc_http_bodies.specs.declared.framing.Framing.{Framing}
use Rattle.doc_http_bodies.specs.declared.framing.Framing.TheVariants.{Sized, Chunked}
use Rattle.doc_http_bodies.specs.declared.reader.Reading.{Reading}
use Rattle.doc_http_bodies.specs.declared.reader.Reading.TheVariants.{More, Fault, Whole}
use Rattle.doc_http_bodies.specs.Chunks.{extent_of, data_of}

-- how many bytes a chunked body may take; this project's choice
unfoldable pub encoded_limit : ℕ
encoded_limit = 2097152

-- by the bytes that an encoded body may take, by whether as many stand, and by how far it reaches in them
abbrev pub reading_by : List ℕ → Bool → Extent → Reading
reading_by window is_full extent.More = if is_full then Fault faults.TooLarge else More
reading_by window is_full (extent.Fault fault) = Fault fault
reading_by window is_full (extent.Whole used len) = Whole used (data_of window)

-- a body, a fault, or neither yet (RFC 9112, sections 6.2, 6.3 and 7.1)
unfoldable pub reading_of : Framing → List ℕ → Reading
reading_of (Sized size) bytes = if nat_lt (length bytes) size then More else Whole size (take size bytes)
reading_of Chunked bytes =
    let window = take encoded_limit bytes in reading_by window (nat_le encoded_limit (length bytes)) (extent_of window)

-- it is a body
abbrev pub IsWhole : Reading → Type 0
IsWhole (Whole used body) = ⊤
IsWhole other = ⊥
