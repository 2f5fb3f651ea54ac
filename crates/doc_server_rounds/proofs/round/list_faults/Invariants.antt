use Rattle.std.proofs.Common.{◌≡◌, ◌≤◌, ◌++◌, length, drop}
use Rattle.std.specs.Prelude.{vec_len, vec_capacity}
use Rattle.doc_server_rounds.specs.Rounds.{failures_in, risen_from}
use Rattle.doc_server_rounds.proofs.round.list_faults.Given as goal

abbrev pub invariant-places : goal.invariant-places
invariant-places g l = record {
  listed : l.faults.items ++ risen_from l.place (drop l.place l.before) (failures_in (drop l.place l.links))
      ≡ risen_from 0 l.before (failures_in l.links);
  few : vec_len l.faults ≤ l.place;
  room : length l.links ≤ vec_capacity l.faults;
}
