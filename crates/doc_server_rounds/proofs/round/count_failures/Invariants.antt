use Rattle.std.proofs.Common.{◌≡◌, ◌≤◌, length, take}
use Rattle.std.specs.Prelude.{vec_len, vec_capacity}
use Rattle.doc_server_rounds.specs.Rounds.{failures_in}
use Rattle.doc_server_rounds.proofs.round.count_failures.Given as goal

abbrev pub invariant-links : goal.invariant-links
invariant-links g l = record {
  counted : l.counts.items ≡ failures_in (take l.link-index l.links);
  long : vec_len l.counts ≡ l.link-index;
  room : length l.links ≤ vec_capacity l.counts;
}
