use Rattle.std.proofs.Common.{◌≡◌}
use Rattle.form_urlencoded.specs.Parse.{raw_pairs_left}
use Rattle.doc_http_targets.specs.Queries.{value_of, first_value}
use Rattle.doc_http_targets.proofs.query.value_in.Given as goal

abbrev pub invariant-pairs : goal.invariant-pairs
invariant-pairs l = value_of l.query l.name ≡ first_value l.name (raw_pairs_left l.key-iterator)
