use Rattle.std.proofs.Common.{◌≡◌, map, drop}
use Rattle.httparse.specs.Spans.{header_bytes}
use Rattle.doc_http.specs.Fields.{value_named}
use Rattle.doc_http.proofs.fields.value_named.Given as goal

abbrev pub invariant-headers : goal.invariant-headers
invariant-headers l =
    value_named l.name (map (header_bytes l.text) l.headers) ≡ value_named l.name
    (map (header_bytes l.text) (drop l.header-index l.headers))
