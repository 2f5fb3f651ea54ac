use Rattle.std.proofs.Common.{◌≡◌, ◌++◌, ℕ, List}
use Rattle.std.specs.BTreeMap.{IsOrdered}
use Rattle.std.specs.String.{string_cmp}
use Rattle.doc_store_readers.specs.declared.reader.Reader.{Reader}
use Rattle.doc_store_readers.specs.Readers.{by_keys, by_tokens, entries_shown}
use Rattle.doc_store_readers.proofs.copies.copy_named.Given as goal

-- the readers so far, and those that are left
abbrev pub invariant-loop-token : goal.invariant-loop-token
invariant-loop-token l =
    (done : List (List ℕ × Reader)) × (by_tokens l.copies.entries ≡ by_keys done)
    × (done ++ entries_shown l.token-iterator ≡ entries_shown l.readers.entries) × IsOrdered string_cmp l.readers
