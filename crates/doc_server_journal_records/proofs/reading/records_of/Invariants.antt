use Rattle.std.proofs.Common.{◌≡◌, ◌≤◌, ◌+◌, length}
use Rattle.doc_server_journal_records.specs.Readings.{AreRead, last_size}
use Rattle.doc_server_journal_records.proofs.reading.records_of.Given as goal

abbrev pub invariant-records : goal.invariant-records
invariant-records l = record {
  read : AreRead l.fn.seed l.bytes l.texts.items l.digest l.rest;
  count : length l.texts.items + length l.rest ≤ length l.bytes;
  last : l.last ≡ last_size l.texts.items;
}

abbrev pub decreases-records : goal.decreases-records
decreases-records l = length l.rest
