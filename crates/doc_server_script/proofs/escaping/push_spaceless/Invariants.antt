use Rattle.std.proofs.Common.{◌≡◌, ◌++◌, take, string_bytes}
use Rattle.std.specs.List.{flat_map}
use Rattle.doc_server_script.specs.Escapes.{spaceless_byte}
use Rattle.doc_server_script.proofs.escaping.push_spaceless.Given as goal

-- the bytes so far are written
abbrev pub invariant-loop-byte : goal.invariant-loop-byte
invariant-loop-byte l = string_bytes l.out ≡ string_bytes l.fn.out ++ flat_map spaceless_byte (take l.byte-index l.bytes)
