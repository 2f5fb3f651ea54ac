use Rattle.std.proofs.Common.{◌≡◌, ◌++◌, ℕ, List}
use Rattle.std.specs.BTreeMap.{IsOrdered}
use Rattle.std.specs.Cmp.Lexicographic.{slice_cmp}
use Rattle.std.specs.Ordering.{nat_cmp}
use Rattle.doc_media.specs.Held.{held_by}
use Rattle.doc_media.specs.declared.medium.Medium.{Medium}
use Rattle.doc_media.proofs.held.copy_of.Given as goal

-- the media so far, and those that are left
abbrev pub invariant-loop-path : goal.invariant-loop-path
invariant-loop-path l =
    (done : List (List ℕ × Medium)) × (held_by l.copies.entries ≡ held_by done) × (done ++ l.path-iterator ≡ l.media.entries)
    × IsOrdered (slice_cmp nat_cmp) l.media
