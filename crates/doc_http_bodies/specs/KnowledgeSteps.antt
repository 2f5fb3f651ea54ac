-- What a reader knows of the bytes that it saw.
use Rattle.std.specs.Prelude.{◌≡◌, ◌≤◌, ℕ, List, ◌++◌, length, take, drop}
use Rattle.doc_http_bodies.specs.declared.framing.Framing.{Framing}
use Rattle.doc_http_bodies.specs.declared.reader.BodyReader.{BodyReader}
use Rattle.doc_http_bodies.specs.declared.stage.Stage.{Stage}
use Rattle.doc_http_bodies.specs.declared.stage.Stage.TheVariants.{Line, Data, Trailer}
use Rattle.doc_http_bodies.specs.Framings.{body_limit}
use Rattle.doc_http_bodies.specs.Chunks.{extent_of, extent_from, after_data, trailed, trailer_len}
use Rattle.doc_http_bodies.specs.Places.{line_end, blank_line, IsSearched}
use Rattle.doc_http_bodies.specs.Readings.{encoded_limit}

-- a stage lies in so many bytes, and the sizes so far are allowed
abbrev pub IsInside : ℕ → Stage → Type 0
IsInside len (Line start searched total) = (start ≤ len) × (total ≤ body_limit)
IsInside len (Data start size total) = (start ≤ len) × (size ≤ total) × (total ≤ body_limit)
IsInside len (Trailer start searched total) = (start ≤ len) × (total ≤ body_limit)

-- the body reaches as far as it does from this stage on
abbrev pub LeadsOn : Stage → List ℕ → Type 0
LeadsOn (Line start searched total) text =
    (extent_of text ≡ extent_from start total (drop start text)) × IsSearched line_end searched (take 256 (drop start text))
LeadsOn (Data start size total) text =
    extent_of text ≡ after_data (λ u s t. extent_from u s t) start total size (drop start text)
LeadsOn (Trailer start searched total) text =
    (extent_of text ≡ trailed start total (trailer_len (drop start text))) × IsSearched blank_line searched (drop start text)

-- so it does whatever follows what was seen
abbrev pub Knows : Stage → List ℕ → Type 0
Knows stage seen = IsInside (length seen) stage × ((more : List ℕ) → LeadsOn stage (seen ++ more))

-- what the reader of a body knows is true of these bytes, and stays so whatever follows them
unfoldable pub KnowsOf : BodyReader → List ℕ → Type 0
KnowsOf reader bytes = Knows reader.stage (take encoded_limit bytes)

-- the framing that a reader was made for
abbrev pub framing_of : BodyReader → Framing
framing_of reader = reader.framing
