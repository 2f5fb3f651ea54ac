use Rattle.std.proofs.Common.{◌≡◌, ◌<◌, drop}
use Rattle.doc_index_tables.specs.ShortTexts.{number_of, number_with}
use Rattle.doc_index_tables.proofs.NumberSteps.{above}
use Rattle.doc_index_tables.proofs.text_table.packed.Given as goal

-- the rest of the bytes is still to be put behind
abbrev pub invariant-loop-byte : goal.invariant-loop-byte
invariant-loop-byte l = (number_with l.number (drop l.byte-index l.bytes) ≡ number_of l.bytes) × (l.number < above l.byte-index)
