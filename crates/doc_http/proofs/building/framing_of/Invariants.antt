use Rattle.std.proofs.Common.{map, take}
use Rattle.httparse.specs.Spans.{header_bytes}
use Rattle.doc_http_bodies.specs.Framings.{Saw}
use Rattle.doc_http.proofs.building.framing_of.Given as goal

abbrev pub invariant-headers : goal.invariant-headers
invariant-headers l = Saw l.seen (map (header_bytes l.text) (take l.header-index l.headers))
