-- What a step of reading an encoded body says; words of proofs only.
use Rattle.std.specs.Prelude.{◌≡◌, ◌<◌, ◌≤◌, ⊤, ℕ, ◌+◌, ◌==◌, List, nat_lt, if◌then◌else◌}
use Rattle.doc_http_bodies.specs.declared.extent.Extent.{Extent}
use Rattle.doc_http_bodies.specs.declared.extent.Extent.TheVariants as extent
use Rattle.doc_http_bodies.specs.declared.fault.Fault.TheVariants as faults
use Rattle.doc_http_bodies.specs.declared.size_line.SizeLine.{SizeLine}
use Rattle.doc_http_bodies.specs.declared.size_line.SizeLine.TheVariants as line
use Rattle.doc_http_bodies.specs.declared.stage.Stage.{Stage}
use Rattle.doc_http_bodies.specs.declared.stage.Stage.TheVariants.{Line, Data, Trailer}
use Rattle.doc_http_bodies.specs.declared.stage.Step.{Step}
use Rattle.doc_http_bodies.specs.declared.stage.Step.TheVariants.{On, Waiting, Ended}
use Rattle.doc_http_bodies.specs.Framings.{body_limit}
use Rattle.doc_http_bodies.specs.Chunks.{extent_of}
use Rattle.doc_http_bodies.specs.KnowledgeSteps.{Knows}

-- where a stage begins
abbrev pub start_of : Stage → ℕ
start_of (Line start searched total) = start
start_of (Data start size total) = start
start_of (Trailer start searched total) = start

-- a step from one stage on
abbrev pub IsStep : List ℕ → Stage → Step → Type 0
IsStep window stage (On next) = Knows next window × (start_of stage < start_of next)
IsStep window stage (Waiting next) = Knows next window × (extent_of window ≡ extent.More)
IsStep window stage (Ended found) = extent_of window ≡ found

-- all steps
abbrev pub IsAdvance : List ℕ → Stage → Extent → Type 0
IsAdvance window stage found = Knows stage window × (found ≡ extent_of window)

-- what stands behind a size line
abbrev pub step_behind_line : ℕ → ℕ → ℕ → Step
step_behind_line start size total =
    if size == 0 then On (Trailer start 0 total)
    else (if nat_lt body_limit (total + size) then Ended (extent.Fault faults.TooLarge) else On (Data start size (total + size)))

-- a size line lies in so many bytes
abbrev pub IsLineWithin : ℕ → SizeLine → Type 0
IsLineWithin len (line.Size line_len size) = (2 ≤ line_len) × (line_len ≤ len) × (size < 4294967296)
IsLineWithin len other = ⊤
