use Rattle.std.proofs.Common.{◌≡◌, map, drop, codes}
use Rattle.httparse.specs.Spans.{header_bytes}
use Rattle.doc_http_bodies.specs.Fields.{values_named}
use Rattle.doc_http.specs.Accepts.{names_html}
use Rattle.doc_http.proofs.accept.asks_html.Given as goal

abbrev pub invariant-headers : goal.invariant-headers
invariant-headers l =
    names_html (values_named (codes "accept") (map (header_bytes l.text) l.headers)) ≡ names_html
    (values_named (codes "accept") (map (header_bytes l.text) (drop l.header-index l.headers)))
