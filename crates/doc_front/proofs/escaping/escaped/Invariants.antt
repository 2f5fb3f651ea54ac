use Rattle.std.proofs.Common.{◌≡◌, chars, string_bytes, flat_map}
use Rattle.doc_front.specs.Front.{escaped_char}
use Rattle.doc_front.proofs.escaping.escaped.Given as goal

abbrev pub invariant-characters : goal.invariant-characters
invariant-characters l = chars (string_bytes l.out) ≡ flat_map escaped_char l.yielded
