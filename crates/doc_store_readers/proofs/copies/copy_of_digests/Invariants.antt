use Rattle.std.proofs.Common.{◌≡◌, ◌++◌, ℕ, List}
use Rattle.std.specs.BTreeMap.{IsOrdered}
use Rattle.std.specs.Cmp.Lexicographic.{slice_cmp}
use Rattle.std.specs.Ordering.{nat_cmp}
use Rattle.doc_store_readers.specs.declared.reader.Reader.{Reader}
use Rattle.doc_store_readers.specs.Readers.{by_keys}
use Rattle.doc_store_readers.proofs.copies.copy_of_digests.Given as goal

-- the readers so far, and those that are left
abbrev pub invariant-loop-digest : goal.invariant-loop-digest
invariant-loop-digest l =
    (done : List (List ℕ × Reader)) × (by_keys l.copies.entries ≡ by_keys done)
    × (done ++ l.digest-iterator ≡ l.readers.entries) × IsOrdered (slice_cmp nat_cmp) l.readers
