use Rattle.std.proofs.Common.{◌≡◌}
use Rattle.doc_refs.specs.EntrySteps.{targets_shown, AreGrown}
use Rattle.doc_refs_parts.specs.Targets.{joined}
use Rattle.doc_refs.proofs.ref_map.put_all.Given as goal

abbrev pub invariant-labels : goal.invariant-labels
invariant-labels l =
    AreGrown l.fn.entries.entries l.entries.entries
    × (joined (targets_shown l.entries.entries) (targets_shown l.label-iterator)
    ≡ joined (targets_shown l.fn.entries.entries) (targets_shown l.fn.other.entries))
