use Rattle.std.proofs.Common.{◌≡◌, string_bytes, take}
use Rattle.doc_index_tables.specs.Maps.{shown}
use Rattle.doc_index_tables.specs.Packed.{IsPacked, unpacked}
use Rattle.doc_index_tables.proofs.packed.Packed.of_entries.Given as goal

-- the entries so far are packed
abbrev pub invariant-loop-text : goal.invariant-loop-text
invariant-loop-text l = record {
  packed : IsPacked (string_bytes l.texts) 0 l.ends;
  front : unpacked (string_bytes l.texts) 0 l.ends ≡ shown (take l.text-index l.entries);
}
