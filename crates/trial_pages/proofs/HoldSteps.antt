-- An index after a page was added, or wasn't.
use Rattle.std.proofs.Common.{◌≡◌, ℕ, List}
use Rattle.std.specs.Prelude.{Result, Ok, Err, OnOk, OnErr}
use Rattle.std.specs.FinMap as map
use Rattle.doc_index_tables.specs.Maps.{PairMap}
use Rattle.doc_links.specs.StampSteps.{HasStamp}
use Rattle.doc_links.proofs.StampSteps.{inserted}

pub held_then : {X A E : Type 0} (n : ℕ) (old new : PairMap X) (path : List ℕ) (value : X) (result : Result A E)
    → OnOk result (new ≡ map.insert old (path, n) value) → OnErr result (new ≡ old) → HasStamp n old → HasStamp n new
held_then n old new path value (Ok x) put same all = rw put (inserted old n all path value)
held_then n old new path value (Err e) put same all = rw same all
