-- Laws of what bodies come to.
use Rattle.std.specs.Prelude.{◌≡◌, ◌≤◌, ℕ, Bool, List, ◌++◌, length, Ok}
use Rattle.doc_http_bodies.specs.declared.framing.Framing.{Framing}
use Rattle.doc_http_bodies.specs.declared.reader.BodyReader.{BodyReader}
use Rattle.doc_http_bodies.specs.declared.reader.Reading.TheVariants.{More, Whole}
use Rattle.doc_http_bodies.specs.Fields.{Fields}
use Rattle.doc_http_bodies.specs.Framings.{framing_of}
use Rattle.doc_http_bodies.specs.KnowledgeSteps.{KnowsOf}
use Rattle.doc_http_bodies.specs.Readings.{reading_of}

-- once bytes come to a body or a fault, more bytes don't change it
abbrev pub StaysDecided : Type 0
StaysDecided =
    (framing : Framing) (bytes more : List ℕ) → ¬ (reading_of framing bytes ≡ More)
    → reading_of framing (bytes ++ more) ≡ reading_of framing bytes

-- so many bytes come to a body or a fault, however a head frames them
abbrev pub IsDecidedWithin : ℕ → Type 0
IsDecidedWithin limit =
    (is_old : Bool) (fields : Fields) (framing : Framing) → framing_of is_old fields ≡ Ok framing
    → (bytes : List ℕ) → limit ≤ length bytes → ¬ (reading_of framing bytes ≡ More)

-- a body takes no more bytes than there are
abbrev pub TakesBytes : Type 0
TakesBytes = (framing : Framing) (bytes body : List ℕ) (used : ℕ) → reading_of framing bytes ≡ Whole used body → used ≤ length bytes

-- what a reader knows of bytes, it knows of them with more behind them
abbrev pub StaysKnown : Type 0
StaysKnown = (reader : BodyReader) (bytes more : List ℕ) → KnowsOf reader bytes → KnowsOf reader (bytes ++ more)

-- a body has no more bytes than so many, however a head frames it
abbrev pub IsNoLongerThan : ℕ → Type 0
IsNoLongerThan limit =
    (is_old : Bool) (fields : Fields) (framing : Framing) → framing_of is_old fields ≡ Ok framing
    → (bytes body : List ℕ) (used : ℕ) → reading_of framing bytes ≡ Whole used body → length body ≤ limit
