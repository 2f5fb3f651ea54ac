use Rattle.std.proofs.Common.{◌≡◌, ◌≤◌, ◌-◌, length, take}
use Rattle.std.specs.Io.KnownBytes.{Appends}
use Rattle.doc_server_rounds.proofs.sending.write_all.Given as goal

abbrev pub invariant-writes : goal.invariant-writes
invariant-writes g l = record {
  within : l.sent ≤ length l.bytes;
  sent : Appends (g.S.Stream.written l.fn.stream) (g.S.Stream.written l.stream) (take l.sent l.bytes);
  fine : g.S.Stream.failed l.stream ≡ 0;
  unread : g.S.Stream.unread l.stream ≡ g.S.Stream.unread l.fn.stream;
  stalls : g.S.Stream.stalls l.stream ≡ g.S.Stream.stalls l.fn.stream;
}

abbrev pub decreases-writes : goal.decreases-writes
decreases-writes g l = length l.bytes - l.sent
