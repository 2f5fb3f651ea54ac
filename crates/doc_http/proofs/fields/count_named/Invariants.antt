use Rattle.std.proofs.Common.{◌≡◌, map, take}
use Rattle.httparse.specs.Spans.{header_bytes}
use Rattle.doc_http.specs.Fields.{count_named}
use Rattle.doc_http.proofs.fields.count_named.Given as goal

abbrev pub invariant-headers : goal.invariant-headers
invariant-headers l = l.count ≡ count_named l.name (map (header_bytes l.text) (take l.header-index l.headers))
