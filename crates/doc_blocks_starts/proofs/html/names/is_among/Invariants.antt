use Rattle.std.proofs.Common.{◌≡◌, bytes_eq, map, chars, drop}
use Rattle.std.specs.Char.{to_ascii_lowercase}
use Rattle.std.specs.List.{list_any}
use Rattle.doc_blocks_starts.specs.HtmlKinds.{names_of}
use Rattle.doc_blocks_starts.proofs.html.names.is_among.Given as goal

abbrev pub invariant-loop-known : goal.invariant-loop-known
invariant-loop-known l =
    list_any (bytes_eq (map to_ascii_lowercase (chars l.fn.name))) (names_of l.names)
    ≡ list_any (bytes_eq (map to_ascii_lowercase (chars l.fn.name))) (names_of (drop l.known-index l.names))
