use Rattle.std.proofs.Common.{◌≡◌, ◌≤◌, chars, length}
use Rattle.doc_rules.specs.Destinations.{balanced}
use Rattle.doc_refs_parts.specs.ParenthesisSteps.{run_behind}
use Rattle.doc_refs_parts.proofs.scan.destination.balanced.Given as goal

abbrev pub invariant-characters : goal.invariant-characters
invariant-characters l = record {
  levels : l.place.levels ≤ 32;
  same : run_behind l.place ≡ balanced 32 (chars l.text);
}

abbrev pub decreases-characters : goal.decreases-characters
decreases-characters l = length (chars l.place.rest.now)
