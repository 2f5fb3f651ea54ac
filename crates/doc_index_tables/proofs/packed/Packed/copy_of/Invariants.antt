use Rattle.std.proofs.Common.{◌≡◌, ◌++◌, string_bytes}
use Rattle.doc_index_tables.specs.Maps.{by_bytes}
use Rattle.doc_index_tables.specs.Packed.{IsPacked, unpacked}
use Rattle.doc_index_tables.proofs.packed.Packed.copy_of.Given as goal

-- what is left of the keys is still to be packed
abbrev pub invariant-loop-key : goal.invariant-loop-key
invariant-loop-key l = record {
  packed : IsPacked (string_bytes l.texts) 0 l.ends;
  rest : by_bytes l.keys.entries ≡ unpacked (string_bytes l.texts) 0 l.ends ++ by_bytes l.key-iterator;
}
