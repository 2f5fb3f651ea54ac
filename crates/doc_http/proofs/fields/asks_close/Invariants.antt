use Rattle.std.proofs.Common.{◌≡◌, map, drop}
use Rattle.httparse.specs.Spans.{header_bytes}
use Rattle.doc_http.specs.Fields.{asks_close}
use Rattle.doc_http.proofs.fields.asks_close.Given as goal

abbrev pub invariant-headers : goal.invariant-headers
invariant-headers l =
    asks_close l.minor (map (header_bytes l.text) l.headers) ≡ asks_close l.minor
    (map (header_bytes l.text) (drop l.header-index l.headers))
