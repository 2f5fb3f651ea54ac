use Rattle.std.proofs.Common.{◌≡◌, ◌≤◌, ◌+◌, length}
use Rattle.doc_server_journal_records.specs.FirstRecords.{seed, last_digest}
use Rattle.doc_server_journal_records.specs.FirstReadings.{AreRecords}
use Rattle.doc_server_journal_records.proofs.first.reading.records_of.Given as goal

abbrev pub invariant-records : goal.invariant-records
invariant-records l = record {
  records : AreRecords l.bytes l.texts.items l.rest;
  digest : l.digest ≡ last_digest seed l.texts.items;
  count : length l.texts.items + length l.rest ≤ length l.bytes;
}

abbrev pub decreases-records : goal.decreases-records
decreases-records l = length l.rest
