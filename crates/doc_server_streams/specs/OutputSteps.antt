-- Words in which commands state what they wrote when they stopped.
use Rattle.std.specs.Prelude.{ℕ, List, Option}
use Rattle.doc_server_streams.specs.Streams.{AppendsPrefix}
use Rattle.doc_server_streams.specs.declared.fault.Fault.{Fault}
use Rattle.doc_server_streams.specs.declared.fault.Fault.TheVariants as faults

-- The output can't be written, or memory ran out, and it grew by a prefix of what is wanted.
abbrev pub StopsAt : Option (List ℕ) → Option (List ℕ) → List ℕ → Fault → Type 0
StopsAt old new wanted faults.CannotWrite = AppendsPrefix old new wanted
StopsAt old new wanted faults.Memory = AppendsPrefix old new wanted
StopsAt old new wanted fault = ⊥
