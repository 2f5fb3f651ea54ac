use Rattle.std.proofs.Common.{◌≤◌, length}
use Rattle.doc_server_journal_records.specs.Readings.{AreRead, IsNext}
use Rattle.doc_server_follow.proofs.taken.taken_from.Given as goal

abbrev pub invariant-records : goal.invariant-records
invariant-records l = record {
  read : AreRead l.fn.before l.bytes l.texts.items l.digest l.rest;
  within : length l.rest ≤ length l.bytes;
  next : IsNext l.digest l.rest l.next;
}

abbrev pub decreases-records : goal.decreases-records
decreases-records l = length l.rest
