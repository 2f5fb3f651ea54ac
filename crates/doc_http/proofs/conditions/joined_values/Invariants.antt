use Rattle.std.proofs.Common.{◌≡◌, map, drop}
use Rattle.httparse.specs.Spans.{header_bytes}
use Rattle.doc_http_bodies.specs.Fields.{values_named}
use Rattle.doc_http.specs.Conditions.{joined_values}
use Rattle.doc_http.specs.ConditionSteps.{with_values}
use Rattle.doc_http.proofs.conditions.joined_values.Given as goal

abbrev pub invariant-headers : goal.invariant-headers
invariant-headers l =
    joined_values (values_named l.name (map (header_bytes l.text) l.headers))
    ≡ with_values l.joined (values_named l.name (map (header_bytes l.text) (drop l.header-index l.headers)))
